use Rattle.std.proofs.Common.{◌≡◌, drop, map}
use Rattle.std.specs.Prelude.{fold}
use Rattle.sh_world.specs.History.{code_of, history_step}
use Rattle.sh_world.proofs.answers.with_cells.Given as goal

abbrev pub invariant-loop-cell : goal.invariant-loop-cell
invariant-loop-cell l =
    fold history_step l.sum (map code_of (drop l.cell-index l.cells)) ≡ fold history_step l.initial.sum (map code_of l.cells)
