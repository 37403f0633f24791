use Rattle.std.proofs.Common.{sym, ◌∙◌, subst, ◌+◌}
use Rattle.sh_sharding.proofs.NormalLaws.{IsLastSplit, last_split_here, last_split_before}
use Rattle.sh_sharding.proofs.normal.up_to_last_split.Goals.{then-is_split_dimension, else-is_split_dimension}
use Rattle.sh_sharding.proofs.normal.up_to_last_split.Goals as goal

pub loop-at-preserved : goal.loop-at-preserved
loop-at-preserved c = elim c.if-is_split_dimension.branch [
  | then-is_split_dimension w ↦
      subst (IsLastSplit c.args.dimensions.now (c.loop-at.at + 1)) (sym w.count-is)
      (last_split_here c.args.dimensions.now c.loop-at.at c.index-dimensions-at.result c.loop-at-test.true c.index-dimensions-at.is (sym c.is_split_dimension.ensures ∙ w.if-is_split_dimension.true))
  | else-is_split_dimension w ↦
      subst (IsLastSplit c.args.dimensions.now (c.loop-at.at + 1)) (sym w.count-is)
      (last_split_before c.args.dimensions.now c.loop-at.at c.loop-at.count c.index-dimensions-at.result c.loop-at.invariant c.loop-at-test.true c.index-dimensions-at.is
      (sym c.is_split_dimension.ensures ∙ w.if-is_split_dimension.false))
]
