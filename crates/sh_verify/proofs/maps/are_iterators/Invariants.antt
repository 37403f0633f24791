use Rattle.std.proofs.Common.{◌≡◌, ◌-◌, drop, length}
use Rattle.std.specs.Cmp.Lexicographic.{pointwise}
use Rattle.std.specs.List.{range_with_len}
use Rattle.sh_ir.specs.Maps.{is_iterator}
use Rattle.sh_ir.specs.Regions.{is_among}
use Rattle.sh_verify.proofs.maps.are_iterators.Given as goal

-- the loops to come decide
abbrev pub invariant-loop-at : goal.invariant-loop-at
invariant-loop-at l =
    pointwise (λ n iterator. is_iterator (is_among l.output n) iterator) (range_with_len l.at (length l.iterators - l.at)) (drop l.at l.iterators)
    ≡ pointwise (λ n iterator. is_iterator (is_among l.output n) iterator) (range_with_len 0 (length l.iterators)) l.iterators
