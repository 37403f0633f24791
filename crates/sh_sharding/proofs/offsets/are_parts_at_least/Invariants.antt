use Rattle.std.proofs.Common.{ℕ, ◌<◌, ◌≤◌}
use Rattle.sh_sharding.specs.Sharding.{size_of_part}
use Rattle.sh_sharding.specs.Views.{mark_in}
use Rattle.sh_sharding.proofs.offsets.are_parts_at_least.Given as goal

abbrev pub invariant-loop-part : goal.invariant-loop-part
invariant-loop-part l = (i : ℕ) → i < l.part → l.least ≤ size_of_part l.extent l.parts (mark_in l.extent l.parts l.mark) i
