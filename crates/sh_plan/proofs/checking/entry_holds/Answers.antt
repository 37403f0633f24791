use Rattle.std.proofs.Common.{rules, IsTrue}
use Rattle.sh_plan.specs.Checks.{DimensionHolds}
use Rattle.sh_plan.proofs.CheckSteps.{below_more}
use Rattle.sh_plan.proofs.checking.entry_holds.Goals as goal

pub loop-d-preserved : goal.loop-d-preserved
loop-d-preserved c =
    let holds : IsTrue c.dimension_holds.result = search rules in
    below_more (λ d. DimensionHolds c.args.to.now c.args.table.now c.args.entry.now d) c.loop-d.d c.loop-d.invariant (c.dimension_holds.ensures.0 holds)
