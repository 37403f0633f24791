use Rattle.std.proofs.Common.{◌≡◌, drop}
use Rattle.std.specs.Prelude.{flat_map}
use Rattle.sh_verify.specs.Least.{by_place, least_of}
use Rattle.sh_verify.specs.RuleFaults.{call_rules}
use Rattle.sh_verify.proofs.module_rules.check_calls.Given as goal

-- with those to come it is the least of all
abbrev pub invariant-loop-item : goal.invariant-loop-item
invariant-loop-item l =
    least_of by_place l.found (flat_map call_rules (drop l.item-index l.items))
    ≡ least_of by_place l.fn.least (flat_map call_rules l.fn.items)
