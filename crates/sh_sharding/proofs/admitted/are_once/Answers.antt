use Rattle.std.proofs.Common.{arith, refl}
use Rattle.sh_sharding.specs.Views.{viewed_axes}
use Rattle.sh_sharding.proofs.AxisListLaws.{distinct_more, distinct_end}
use Rattle.sh_sharding.proofs.admitted.are_once.Goals as goal

pub returns-then-times_in-gt1 : goal.returns-then-times_in-gt1
returns-then-times_in-gt1 c =
    (λ t. absurd (cc), λ h. let few = h c.loop-axis.axis in absurd (omega (arith, c.times_in.ensures)))

pub loop-axis-preserved : goal.loop-axis-preserved
loop-axis-preserved c =
    distinct_more (viewed_axes c.args.views.now) c.loop-axis.axis c.times_in.result c.loop-axis.invariant c.times_in.ensures c.if-times_in-gt1.false

pub returns : goal.returns
returns c =
    (λ t. distinct_end (viewed_axes c.args.views.now) c.args.rank c.loop-axis.axis c.requires.below c.loop-axis-test.false c.loop-axis.invariant, λ h. refl)
