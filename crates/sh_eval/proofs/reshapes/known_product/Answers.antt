use Rattle.std.proofs.Common.{sym, ◌∙◌, arith}
use Rattle.sh_eval.proofs.ReshapeLaws.{known_end, known_step}
use Rattle.sh_eval.proofs.reshapes.known_product.Goals as goal

pub loop-at-preserved : goal.loop-at-preserved
loop-at-preserved c = record {
  value = known_step c.args.dims.now c.loop-at.at c.loop-at.total c.extent_with.result c.saturating_mul-total.result _ c.loop-at-test.true c.extent_with.ensures c.saturating_mul-total.ensures ∙ c.loop-at.invariant.value;
  small = omega (arith, c.saturating_mul-total.ensures);
}

pub returns : goal.returns
returns c = sym (known_end c.args.dims.now c.loop-at.at c.loop-at.total (omega (arith, c.loop-at-test.false)) c.loop-at.invariant.small) ∙ c.loop-at.invariant.value
