use Rattle.std.proofs.Common.{◌++◌, ap, sym, ◌∙◌, arith, append-nil}
use Rattle.sh_eval.specs.Cuts.{cut_shape}
use Rattle.sh_eval.proofs.IndexRules.{padded_end}
use Rattle.sh_eval.proofs.shapes.padded_shape.Goals as goal

pub returns : goal.returns
returns c =
    sym (append-nil c.loop-at.all.items)
    ∙ ap (λ r. c.loop-at.all.items ++ cut_shape r) (sym (padded_end c.args.low.now c.args.high.now c.args.extents.now c.loop-at.at (omega (arith, c.loop-at-test.false, c.min.ensures, c.min-at-end.ensures))))
    ∙ c.loop-at.invariant
