use Rattle.std.proofs.Common.{◌≡◌, drop, nat_eq}
use Rattle.std.specs.List.{list_all}
use Rattle.sh_ir.specs.Numbers.{as_naturals}
use Rattle.sh_verify.proofs.relations.are_all.Given as goal

-- the numbers to come decide
abbrev pub invariant-loop-number : goal.invariant-loop-number
invariant-loop-number l =
    list_all (nat_eq l.extent) (as_naturals (drop l.number-index l.written)) ≡ list_all (nat_eq l.extent) (as_naturals l.written)
