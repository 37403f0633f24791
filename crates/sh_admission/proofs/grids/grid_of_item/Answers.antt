use Rattle.std.proofs.Common.{◌∙◌, ap, map, arith}
use Rattle.std.proofs.lemmas.List.{take_all}
use Rattle.sh_admission.proofs.ReadLaws.{clamped, grid_made_of}
use Rattle.sh_admission.proofs.grids.grid_of_item.Goals as goal

pub returns : goal.returns
returns c =
    grid_made_of c.args.item.now c.in_ok-name.name c.shape.result c.make.result c.in_ok-name.ensures
    (c.shape.ensures ∙ (c.as_slice.ensures.value ∙ (c.loop-extent.invariant
    ∙ (ap (map clamped) (take_all c.loop-extent.extent-index c.as_slice-extent-items.result.now (omega (arith, c.loop-extent-test.false)))
    ∙ ap (map clamped) c.as_slice-extent-items.ensures))))
    c.make.ensures
