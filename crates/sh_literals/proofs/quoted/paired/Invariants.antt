use Rattle.std.proofs.Common.{◌≡◌, ◌<◌, length}
use Rattle.std.specs.List.{All}
use Rattle.sh_literals.specs.LiteralCells.{paired}
use Rattle.sh_literals.proofs.Wholes.{joined_to}
use Rattle.sh_literals.proofs.quoted.paired.Given as goal

abbrev pub invariant-loop-high : goal.invariant-loop-high
invariant-loop-high l = record {
  values : joined_to l.bytes.items (paired l.rest) ≡ paired l.digits;
  within : All (λ digit. digit < 16) l.rest;
}

abbrev pub decreases-loop-high : goal.decreases-loop-high
decreases-loop-high l = length l.rest
