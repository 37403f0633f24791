use Rattle.std.proofs.Common.{◌≡◌, ◌++◌, drop, map, option_map}
use Rattle.sh_literals.specs.LiteralCells.{all_of, cell_of}
use Rattle.sh_literals.proofs.elements.cells_of.Given as goal

abbrev pub invariant-loop-element : goal.invariant-loop-element
invariant-loop-element l =
    option_map (λ cells. l.cells.items ++ cells) (all_of (map (cell_of l.width) (drop l.element-index l.elements)))
    ≡ all_of (map (cell_of l.width) l.elements)
