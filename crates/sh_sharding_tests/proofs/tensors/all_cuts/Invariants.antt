use Rattle.std.proofs.Common.{◌≡◌, map}
use Rattle.std.specs.List.{range_with_len}
use Rattle.sh_sharding.specs.Cut.{cut_of}
use Rattle.sh_sharding_tests.proofs.tensors.all_cuts.Given as goal

-- the cuts of the devices so far
abbrev pub invariant-loop-device : goal.invariant-loop-device
invariant-loop-device l = l.parts.items ≡ map (cut_of l.s l.t) (range_with_len 0 l.device)
