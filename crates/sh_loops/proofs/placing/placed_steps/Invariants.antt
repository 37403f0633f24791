use Rattle.std.proofs.Common.{take}
use Rattle.sh_loops.specs.Placing.{ArePlaced}
use Rattle.sh_loops.proofs.placing.placed_steps.Given as goal

abbrev pub invariant-loop-at : goal.invariant-loop-at
invariant-loop-at l = ArePlaced l.steps.items l.initial.names.items (take l.at l.ops) l.names.items
