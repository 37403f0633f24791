use Rattle.std.proofs.Common.{ℕ, ◌<◌}
use Rattle.sh_plan.specs.Checks.{MoveHolds}
use Rattle.sh_plan.specs.declared.moves.Move.TheVariants.{M2}
use Rattle.sh_plan.proofs.checking.appends_hold.Given as goal

abbrev pub invariant-loop-a : goal.invariant-loop-a
invariant-loop-a l = (a : ℕ) → a < l.a → MoveHolds l.to l.table l.entry (M2 l.d a)
