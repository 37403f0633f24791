use Rattle.std.proofs.Common.{◌≡◌, drop}
use Rattle.std.specs.Prelude.{flat_map}
use Rattle.sh_verify.specs.Least.{by_place, least_of}
use Rattle.sh_verify.specs.LimitFaults.{func_limits}
use Rattle.sh_verify.proofs.module_limits.check_funcs.Given as goal

-- with those to come it is the least of all
abbrev pub invariant-loop-f : goal.invariant-loop-f
invariant-loop-f l =
    least_of by_place l.found (flat_map func_limits (drop l.f-index l.funcs))
    ≡ least_of by_place l.fn.least (flat_map func_limits l.fn.funcs)
