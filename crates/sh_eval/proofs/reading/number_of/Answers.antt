use Rattle.std.proofs.Common.{sym, ◌∙◌, arith}
use Rattle.sh_eval.proofs.CutLaws.{horner, horner_end}
use Rattle.sh_eval.proofs.reading.number_of.Goals as goal

pub loop-at-preserved : goal.loop-at-preserved
loop-at-preserved c = record {
  value =
      horner c.args.extents.now c.args.index.now c.loop-at.at c.loop-at.number c.saturating_mul.result c.entry_at.result c.saturating_add-number.result
      c.loop-at-test.true c.saturating_mul.ensures c.entry_at.ensures c.saturating_add-number.ensures ∙ c.loop-at.invariant.value;
  small = omega (arith, c.saturating_add-number.ensures);
}

pub returns : goal.returns
returns c =
    sym (horner_end c.args.extents.now c.args.index.now c.loop-at.at c.loop-at.number (omega (arith, c.loop-at-test.false)) c.loop-at.invariant.small) ∙ c.loop-at.invariant.value
