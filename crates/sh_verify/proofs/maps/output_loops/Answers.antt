use mathlib.Core.Path.{◌∙◌, ap, sym}
use Rattle.std.proofs.Common.{◌≡◌, ◌-◌, length}
use Rattle.std.specs.Prelude.{Some, None, slice_get}
use Rattle.std.specs.Option.{option_copied}
use Rattle.sh_verify.proofs.LoopLaws.{last_mapped, last_none}
use Rattle.sh_verify.proofs.maps.output_loops.Goals as goal

pub returns-in-Some : goal.returns-in-Some
returns-in-Some c =
    let maps = c.args.x.now.indexing_maps in
    let got : slice_get maps (length maps - 1) ≡ Some c.in-Some.map.now =
    ap (λ n. slice_get maps (n - 1)) (sym c.len-count.ensures) ∙ (sym c.get.ensures.value ∙ ap option_copied c.in-Some.is) in
    c.as_slice.ensures ∙ sym (last_mapped maps c.in-Some.map.now got)

pub returns-in-None : goal.returns-in-None
returns-in-None c =
    let maps = c.args.x.now.indexing_maps in
    let got : slice_get maps (length maps - 1) ≡ None =
    ap (λ n. slice_get maps (n - 1)) (sym c.len-count.ensures) ∙ (sym c.get.ensures.value ∙ ap option_copied c.in-None.is) in
    last_none maps got
