use Rattle.std.proofs.Common.{◌≡◌, drop}
use Rattle.std.specs.Prelude.{◌≤◌}
use Rattle.sh_ir.specs.Numbers.{as_naturals}
use Rattle.sh_verify.specs.Lists.{counts_on}
use Rattle.sh_verify.proofs.slices.count_on.Given as goal

-- the numbers to come decide
abbrev pub invariant-loop-number : goal.invariant-loop-number
invariant-loop-number l =
    (counts_on l.next l.bound (as_naturals (drop l.number-index l.group)) ≡ counts_on l.fn.from l.bound (as_naturals l.group))
    × (l.next ≤ l.bound)
