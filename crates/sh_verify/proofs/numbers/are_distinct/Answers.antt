use Rattle.sh_verify.proofs.DistinctLaws.{distinct_ends, distinct_next}
use Rattle.sh_verify.proofs.numbers.are_distinct.Goals as goal

pub returns-then-is_repeated : goal.returns-then-is_repeated
returns-then-is_repeated c =
    distinct_ends c.args.written.now c.loop-at.at c.is_repeated.result _ c.loop-at-test.true c.is_repeated.ensures
    c.if-is_repeated.true c.loop-at.invariant

pub loop-at-preserved : goal.loop-at-preserved
loop-at-preserved c =
    distinct_next c.args.written.now c.loop-at.at c.is_repeated.result _ c.loop-at-test.true c.is_repeated.ensures
    c.if-is_repeated.false c.loop-at.invariant
