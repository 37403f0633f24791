use Rattle.std.proofs.Common.{ℕ, ◌<◌}
use Rattle.sh_plan.specs.Checks.{DimensionHolds}
use Rattle.sh_plan.proofs.checking.entry_holds.Given as goal

abbrev pub invariant-loop-d : goal.invariant-loop-d
invariant-loop-d l = (d : ℕ) → d < l.d → DimensionHolds l.to l.table l.entry d
