use Rattle.std.proofs.Common.{ℕ, ◌<◌, ◌≤◌}
use Rattle.std.specs.Prelude.{◌==◌, count_by}
use Rattle.sh_sharding.specs.Views.{viewed_axes}
use Rattle.sh_sharding.proofs.admitted.are_once.Given as goal

-- no axis so far is listed twice
abbrev pub invariant-loop-axis : goal.invariant-loop-axis
invariant-loop-axis l = (a : ℕ) → a < l.axis → count_by (λ b. b == a) (viewed_axes l.views) ≤ 1
