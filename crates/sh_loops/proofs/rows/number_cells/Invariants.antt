use Rattle.std.proofs.Common.{◌≡◌, ◌++◌, drop, map}
use Rattle.sh_loops.specs.Rows.{numbers_of}
use Rattle.sh_loops.proofs.rows.number_cells.Given as goal

abbrev pub invariant-loop-at : goal.invariant-loop-at
invariant-loop-at l =
    l.numbers.items ++ numbers_of (drop l.at l.maps) (drop l.at (map (λ t. t.now) l.ins)) l.point
    ≡ numbers_of l.maps (map (λ t. t.now) l.ins) l.point
