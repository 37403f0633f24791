use Rattle.std.proofs.Common.{◌≡◌, [], drop, take}
use Rattle.sh_verify.specs.Least.{by_place, least_of}
use Rattle.sh_verify.specs.RuleFaults.{funcs_rules}
use Rattle.sh_verify.proofs.module_rules.check_funcs.Given as goal

-- with those to come it is the least of all
abbrev pub invariant-loop-at : goal.invariant-loop-at
invariant-loop-at l =
    least_of by_place l.found (funcs_rules l.tables (take l.at l.funcs) (drop l.at l.funcs))
    ≡ least_of by_place l.fn.least (funcs_rules l.fn.tables [] l.fn.funcs)
