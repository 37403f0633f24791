use Rattle.std.proofs.Common.{◌≡◌, drop}
use Rattle.std.specs.List.{list_all}
use Rattle.sh_ir.specs.Literals.{same_cell}
use Rattle.sh_literals.proofs.elements.all_same.Given as goal

abbrev pub invariant-loop-cell : goal.invariant-loop-cell
invariant-loop-cell l = list_all (same_cell l.first) (drop l.cell-index l.cells) ≡ list_all (same_cell l.first) l.cells
