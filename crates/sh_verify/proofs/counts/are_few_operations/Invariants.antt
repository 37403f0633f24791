use Rattle.std.proofs.Common.{◌≡◌, ◌+◌, ◌≤◌, drop, map}
use Rattle.std.specs.Prelude.{sum}
use Rattle.sh_ir.specs.Limits.{operation_count, max_operations}
use Rattle.sh_verify.proofs.counts.are_few_operations.Given as goal

-- those so far and those to come are all
abbrev pub invariant-loop-op : goal.invariant-loop-op
invariant-loop-op l =
    (l.count + sum (map (λ op. operation_count op.kind) (drop l.op-index l.ops)) ≡ sum (map (λ op. operation_count op.kind) l.ops))
    × (l.count ≤ max_operations)
