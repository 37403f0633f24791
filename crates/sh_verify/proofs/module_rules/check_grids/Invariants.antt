use Rattle.std.proofs.Common.{◌≡◌, [], drop, take}
use Rattle.sh_verify.specs.Least.{by_place, least_of}
use Rattle.sh_verify.specs.RuleFaults.{grids_rules}
use Rattle.sh_verify.proofs.module_rules.check_grids.Given as goal

-- with those to come it is the least of all
abbrev pub invariant-loop-at : goal.invariant-loop-at
invariant-loop-at l =
    least_of by_place l.found (grids_rules (take l.at l.grids) (drop l.at l.grids))
    ≡ least_of by_place l.fn.least (grids_rules [] l.fn.grids)
