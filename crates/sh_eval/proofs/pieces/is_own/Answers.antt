use Rattle.std.proofs.Common.{sym, ◌∙◌, arith}
use Rattle.sh_eval.proofs.IndexRules.{own_end}
use Rattle.sh_eval.proofs.pieces.is_own.Goals as goal

pub returns : goal.returns
returns c =
    sym (own_end c.args.low.now c.args.extents.now c.args.index.now c.loop-at.at (omega (arith, c.loop-at-test.false, c.min.ensures, c.min-at-end.ensures))) ∙ c.loop-at.invariant
