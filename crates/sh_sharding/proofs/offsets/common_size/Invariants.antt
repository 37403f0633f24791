use Rattle.std.proofs.Common.{◌≡◌, ℕ, ◌<◌}
use Rattle.sh_sharding.specs.Sharding.{size_of_part}
use Rattle.sh_sharding.specs.Views.{mark_in}
use Rattle.sh_sharding.proofs.offsets.common_size.Given as goal

-- the parts so far have the first one's size
abbrev pub invariant-loop-part : goal.invariant-loop-part
invariant-loop-part l = (i : ℕ) → i < l.part → size_of_part l.extent l.parts (mark_in l.extent l.parts l.mark) i ≡ l.first
