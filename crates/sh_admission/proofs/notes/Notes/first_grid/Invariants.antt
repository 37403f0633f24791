use Rattle.std.proofs.Common.{◌≡◌, drop}
use Rattle.sh_admission.specs.Notes.{first_grid}
use Rattle.sh_admission.proofs.notes.Notes.first_grid.Given as goal

-- the operations to come decide
abbrev pub invariant-loop-op : goal.invariant-loop-op
invariant-loop-op l = first_grid l.self (drop l.op-index l.self) ≡ first_grid l.self l.self
