use Rattle.std.proofs.Common.{map, filter, not, ap, ◌∙◌, Bor}
use Rattle.sh_ir.specs.Classes.{is_return}
use Rattle.sh_ir.specs.declared.operations.Op.{Op}
use Rattle.sh_sem.specs.Steps.{device_function}
use Rattle.sh_lockstep.proofs.lock.lockstep.Goals as goal

pub run-requires-clause-ops : goal.run-requires-clause-ops
unfolding device_function
run-requires-clause-ops c =
    ap (map (λ (op : Bor Op). op.now)) c.as_slice-3.ensures.value ∙ c.in_ok-ops.ensures
    ∙ ap (filter (λ (op : Op). not (is_return op.kind))) c.as_slice.ensures
