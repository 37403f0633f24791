use Rattle.std.proofs.Common.{◌≡◌, ◌*◌, drop, map, take}
use Rattle.std.specs.List.{range_with_len}
use Rattle.sh_base.specs.declared.numbers.Cell.TheVariants.{Val}
use Rattle.sh_literals.specs.LiteralCells.{little_endian}
use Rattle.sh_literals.proofs.quoted.cells_of_bytes.Given as goal

abbrev pub invariant-loop-at : goal.invariant-loop-at
invariant-loop-at l =
    l.cells.items
    ≡ map (λ i. Val (little_endian (take l.size (drop (i * l.size) l.bytes)))) (range_with_len 0 l.at)
