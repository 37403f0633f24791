use Rattle.std.proofs.Common.{◌+◌, ap, ◌∙◌, get_or, set}
use Rattle.sh_eval.specs.Cuts.{cut, cut_index}
use Rattle.sh_eval.proofs.CutLaws.{set_cut}
use Rattle.sh_eval.proofs.pieces.moved.Goals as goal

pub returns-clause-value : goal.returns-clause-value
returns-clause-value c =
    c.read.ensures.cut (set c.args.index.now c.args.axis (c.args.start + get_or c.args.index.now c.args.axis 0))
    (c.extents-2.ensures.value ∙ c.with_coordinate.ensures.cut
    ∙ ap (λ v. cut_index (set c.args.index.now c.args.axis v)) (c.moved_place-place.ensures ∙ ap (λ e. cut (c.args.start + e)) c.entry_at.ensures)
    ∙ set_cut c.args.index.now c.args.axis (c.args.start + get_or c.args.index.now c.args.axis 0))
