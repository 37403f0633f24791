use Rattle.std.proofs.Common.{◌≡◌, ◌-◌, ◌<◌, ◌≤◌, ◌^◌, drop, length}
use Rattle.sh_literals.specs.LiteralCells.{little_endian}
use Rattle.sh_literals.proofs.quoted.little_endian.Given as goal

abbrev pub invariant-loop-at : goal.invariant-loop-at
invariant-loop-at l = record {
  within : l.at ≤ length l.bytes;
  number : l.number ≡ little_endian (drop l.at l.bytes);
  below : l.number < 256 ^ (length l.bytes - l.at);
}

abbrev pub decreases-loop-at : goal.decreases-loop-at
decreases-loop-at l = l.at
