use Rattle.std.proofs.Common.{◌≡◌, drop}
use Rattle.std.specs.Prelude.{flat_map}
use Rattle.sh_verify.specs.Least.{by_place, least_of}
use Rattle.sh_verify.specs.LimitFaults.{grid_limits}
use Rattle.sh_verify.proofs.module_limits.check_grids.Given as goal

-- with those to come it is the least of all
abbrev pub invariant-loop-g : goal.invariant-loop-g
invariant-loop-g l =
    least_of by_place l.found (flat_map grid_limits (drop l.g-index l.grids))
    ≡ least_of by_place l.fn.least (flat_map grid_limits l.fn.grids)
