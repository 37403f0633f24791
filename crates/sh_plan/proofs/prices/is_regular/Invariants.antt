use Rattle.std.proofs.Common.{ℕ, ◌≡◌, ◌<◌, true}
use Rattle.sh_plan.specs.Moves.{at, is_even_or_unsplit}
use Rattle.sh_plan.proofs.prices.is_regular.Given as goal

abbrev pub invariant-loop-dim : goal.invariant-loop-dim
invariant-loop-dim l = (dim : ℕ) → dim < l.dim → is_even_or_unsplit l.s.grid.extents (at l.s.dimensions dim) ≡ true
