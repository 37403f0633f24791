use Rattle.std.proofs.Common.{sym, ◌∙◌, arith}
use Rattle.sh_eval.proofs.ReshapeLaws.{group_end, group_step}
use Rattle.sh_eval.proofs.reshapes.product_at.Goals as goal

pub loop-at-preserved : goal.loop-at-preserved
loop-at-preserved c = record {
  value = group_step c.args.extents.now c.args.group.now c.loop-at.at c.loop-at.total c.from.result c.saturating_mul-total.result _ c.loop-at-test.true (c.from.ensures ∙ c.extent_at.ensures) (omega (arith, c.from.type_inv)) c.saturating_mul-total.ensures ∙ c.loop-at.invariant.value;
  small = omega (arith, c.saturating_mul-total.ensures);
}

pub returns : goal.returns
returns c = sym (group_end c.args.extents.now c.args.group.now c.loop-at.at c.loop-at.total (omega (arith, c.loop-at-test.false)) c.loop-at.invariant.small) ∙ c.loop-at.invariant.value
