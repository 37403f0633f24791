use Rattle.std.proofs.Common.{length}
use Rattle.sh_reshard.proofs.LoweringSteps.{IsLowered}
use Rattle.sh_reshard.proofs.lowering.instructions.Given as goal

abbrev pub invariant-loop-m : goal.invariant-loop-m
invariant-loop-m l = IsLowered l.fn.width l.fn.to l.fn.from l.fn.moves l.fn.value l.fn.first_id l.state l.left l.operand l.id l.ops

abbrev pub decreases-loop-m : goal.decreases-loop-m
decreases-loop-m l = length l.left
