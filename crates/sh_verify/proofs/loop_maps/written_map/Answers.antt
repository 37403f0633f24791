use mathlib.Core.Path.{◌∙◌, ap, sym}
use Rattle.std.specs.Prelude.{Some, option_map}
use Rattle.std.specs.Option.{option_copied}
use Rattle.std.proofs.lemmas.Option.{slice_get-map}
use Rattle.sh_ir.specs.declared.linalg_ops.AffineMap.{AffineMap}
use Rattle.sh_ir.specs.Loops.{single}
use Rattle.sh_ir.specs.Maps.{results_of}
use Rattle.sh_verify.proofs.loop_maps.written_map.Goals as goal

pub returns-in-Some : goal.returns-in-Some
returns-in-Some c =
    let maps = c.args.x.now.indexing_maps in
    ap (λ r. Some (single r)) c.as_slice.ensures
    ∙ sym (slice_get-map single (results_of c.args.x.now) c.args.at
    ∙ ap (option_map single) (slice_get-map (λ (m : AffineMap). m.results) maps c.args.at
    ∙ ap (option_map (λ (m : AffineMap). m.results)) (sym c.get.ensures.value ∙ ap option_copied c.in-Some.is)))

pub returns-in-None : goal.returns-in-None
returns-in-None c =
    let maps = c.args.x.now.indexing_maps in
    sym (slice_get-map single (results_of c.args.x.now) c.args.at
    ∙ ap (option_map single) (slice_get-map (λ (m : AffineMap). m.results) maps c.args.at
    ∙ ap (option_map (λ (m : AffineMap). m.results)) (sym c.get.ensures.value ∙ ap option_copied c.in-None.is)))
