use Rattle.std.proofs.Common.{ℕ, ◌<◌}
use Rattle.sh_plan.specs.Checks.{MoveHolds}
use Rattle.sh_plan.specs.declared.moves.Move.TheVariants.{M3}
use Rattle.sh_plan.proofs.checking.exchanges_hold.Given as goal

abbrev pub invariant-loop-e : goal.invariant-loop-e
invariant-loop-e l = (e : ℕ) → e < l.e → MoveHolds l.to l.table l.entry (M3 l.d e)
