use Rattle.std.proofs.Common.{◌≡◌, drop}
use Rattle.sh_ir.specs.Numbers.{are_distinct}
use Rattle.sh_verify.proofs.maps.are_distinct.Given as goal

-- the names to come decide
abbrev pub invariant-loop-at : goal.invariant-loop-at
invariant-loop-at l = are_distinct (drop l.at l.names) ≡ are_distinct l.names
