use Rattle.std.proofs.Common.{ℕ, ◌<◌}
use Rattle.sh_sharding.specs.Views.{IsRising, offsets_in}
use Rattle.sh_sharding.proofs.offsets.are_offsets.Given as goal

-- the offsets so far rise in the extent
abbrev pub invariant-loop-at : goal.invariant-loop-at
invariant-loop-at l = (k : ℕ) → k < l.at → IsRising l.extent (offsets_in l.listing) k
