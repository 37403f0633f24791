use Rattle.std.proofs.Common.{◌≡◌, take, map, pos}
use Rattle.sh_sharding.proofs.spelling.integers.Given as goal

-- the numbers so far
abbrev pub invariant-loop-number : goal.invariant-loop-number
invariant-loop-number l = l.out ≡ map pos (take l.number-index l.numbers)
