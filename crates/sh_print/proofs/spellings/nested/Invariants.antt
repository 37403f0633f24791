use Rattle.std.proofs.Common.{◌≡◌, drop}
use Rattle.sh_print.specs.Pages.{written}
use Rattle.sh_print.specs.Spellings.{cells_from}
use Rattle.sh_print.proofs.spellings.nested.Given as goal

abbrev pub invariant-loop-at : goal.invariant-loop-at
invariant-loop-at l =
    written l.printer (cells_from l.extents l.width l.at (drop l.at l.cells))
    ≡ written l.initial.printer (cells_from l.extents l.width 0 l.cells)
