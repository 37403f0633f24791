use Rattle.std.proofs.Common.{◌≡◌, drop}
use Rattle.sh_loops.specs.Regions.{CanRun, steps_given}
use Rattle.sh_loops.proofs.regions.run.Given as goal

abbrev pub invariant-loop-at : goal.invariant-loop-at
invariant-loop-at l = (steps_given (drop l.at l.steps) l.point l.cells.items ≡ steps_given l.steps l.point l.initial.cells.items) × CanRun (drop l.at l.steps) l.point l.cells.items
