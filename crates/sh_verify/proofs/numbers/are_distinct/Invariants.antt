use Rattle.std.proofs.Common.{◌≡◌, drop}
use Rattle.sh_ir.specs.Numbers.{are_distinct, as_naturals}
use Rattle.sh_verify.proofs.numbers.are_distinct.Given as goal

-- the numbers to come decide
abbrev pub invariant-loop-at : goal.invariant-loop-at
invariant-loop-at l = are_distinct (as_naturals (drop l.at l.written)) ≡ are_distinct (as_naturals l.written)
