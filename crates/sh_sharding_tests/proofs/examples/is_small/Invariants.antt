use Rattle.std.proofs.Common.{◌≡◌, map, take, max}
use Rattle.sh_sharding_tests.proofs.examples.is_small.Given as goal

-- the extents so far, each at least 1
abbrev pub invariant-loop-extent : goal.invariant-loop-extent
invariant-loop-extent l = l.counted.items ≡ map (max 1) (take l.extent-index l.s)
