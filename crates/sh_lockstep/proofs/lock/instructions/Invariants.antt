use Rattle.std.proofs.Common.{◌≡◌, ◌++◌, drop, map, filter, not}
use Rattle.sh_ir.specs.Classes.{is_return}
use Rattle.sh_lockstep.proofs.lock.instructions.Given as goal

abbrev pub invariant-loop-op : goal.invariant-loop-op
invariant-loop-op l =
    map (λ op. op.now) l.found.items ++ filter (λ op. not (is_return op.kind)) (drop l.op-index l.ops)
    ≡ filter (λ op. not (is_return op.kind)) l.ops
