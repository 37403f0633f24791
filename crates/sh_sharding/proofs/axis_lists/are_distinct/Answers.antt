use Rattle.std.proofs.Common.{arith, refl}
use Rattle.sh_sharding.proofs.AxisListLaws.{distinct_more, distinct_end}
use Rattle.sh_sharding.proofs.axis_lists.are_distinct.Goals as goal

pub returns-then-times_listed-gt1 : goal.returns-then-times_listed-gt1
returns-then-times_listed-gt1 c =
    (λ t. absurd (cc), λ h. let few = h c.loop-axis.axis in absurd (omega (arith, c.times_listed.ensures)))

pub loop-axis-preserved : goal.loop-axis-preserved
loop-axis-preserved c =
    distinct_more c.args.listed.now c.loop-axis.axis c.times_listed.result c.loop-axis.invariant c.times_listed.ensures c.if-times_listed-gt1.false

pub returns : goal.returns
returns c =
    (λ t. distinct_end c.args.listed.now c.args.rank c.loop-axis.axis c.requires c.loop-axis-test.false c.loop-axis.invariant, λ h. refl)
