use Rattle.std.proofs.Common.{◌≡◌, drop}
use Rattle.std.specs.Prelude.{flat_map}
use Rattle.sh_verify.specs.Least.{by_place, least_of}
use Rattle.sh_verify.specs.RuleFaults.{return_rules}
use Rattle.sh_verify.proofs.module_rules.check_returns.Given as goal

-- with those to come it is the least of all
abbrev pub invariant-loop-op : goal.invariant-loop-op
invariant-loop-op l =
    least_of by_place l.found (flat_map (return_rules l.results) (drop l.op-index l.ops))
    ≡ least_of by_place l.fn.least (flat_map (return_rules l.fn.results) l.fn.ops)
