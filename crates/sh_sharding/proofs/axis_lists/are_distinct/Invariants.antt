use Rattle.std.proofs.Common.{ℕ, ◌<◌, ◌≤◌}
use Rattle.std.specs.Prelude.{◌==◌, count_by}
use Rattle.sh_sharding.proofs.axis_lists.are_distinct.Given as goal

-- no axis so far is listed twice
abbrev pub invariant-loop-axis : goal.invariant-loop-axis
invariant-loop-axis l = (a : ℕ) → a < l.axis → count_by (λ b. b == a) l.listed ≤ 1
