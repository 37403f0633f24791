use Rattle.std.proofs.Common.{◌≡◌, take, map, pos}
use Rattle.sh_reshard.proofs.numbers.integers.Given as goal

-- the numbers so far
abbrev pub invariant-loop-number : goal.invariant-loop-number
invariant-loop-number l = l.written ≡ map pos (take l.number-index l.numbers)
