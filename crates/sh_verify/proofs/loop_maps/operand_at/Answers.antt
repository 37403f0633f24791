use mathlib.Core.Path.{◌∙◌, ap, sym}
use Rattle.std.specs.Prelude.{Some, option_map}
use Rattle.std.specs.Option.{option_copied}
use Rattle.std.specs.Prelude.{List}
use Rattle.sh_ir.specs.declared.types.Dim.{Dim}
use Rattle.sh_ir.specs.Loops.{LoopMap}
use Rattle.sh_verify.specs.Followings.{Placed, map_in, maps_in, types_in}
use Rattle.sh_verify.proofs.LoopLaws.{got_paired, no_map, no_type}
use Rattle.sh_verify.proofs.loop_maps.operand_at.Goals as goal

abbrev one_placed : LoopMap → List Dim → Placed
one_placed loops dims = record { loops = loops; dims = dims }

pub returns-in-Some-type_at : goal.returns-in-Some-type_at
returns-in-Some-type_at c =
    let loops = map_in c.in-Some.loops in
    ap (λ d. Some (one_placed loops d)) c.dims.ensures
    ∙ sym (got_paired (maps_in c.args.all) (types_in c.args.all) c.args.at loops c.in-Some-type_at.value_type.now
    (sym c.map_at.ensures ∙ ap (option_map map_in) c.in-Some.is) (sym c.type_at.ensures ∙ ap option_copied c.in-Some-type_at.is))

pub returns-in-None-type_at : goal.returns-in-None-type_at
returns-in-None-type_at c =
    sym (no_type (maps_in c.args.all) (types_in c.args.all) c.args.at (sym c.type_at.ensures ∙ ap option_copied c.in-None-type_at.is))

pub returns-in-None : goal.returns-in-None
returns-in-None c =
    sym (no_map (maps_in c.args.all) (types_in c.args.all) c.args.at (sym c.map_at.ensures ∙ ap (option_map map_in) c.in-None.is))
