use Rattle.std.proofs.Common.{◌≡◌, drop}
use Rattle.std.specs.Prelude.{flat_map}
use Rattle.sh_verify.specs.Least.{by_place, least_of}
use Rattle.sh_verify.specs.LimitFaults.{op_limits}
use Rattle.sh_verify.proofs.op_limits.check_ops.Given as goal

-- with those of the operations to come it is the least of all
abbrev pub invariant-loop-op : goal.invariant-loop-op
invariant-loop-op l =
    least_of by_place l.found (flat_map (op_limits l.in_device) (drop l.op-index l.ops))
    ≡ least_of by_place l.fn.least (flat_map (op_limits l.in_device) l.fn.ops)
