-- What is asked of the indexing maps and iterators of `linalg.generic`.
use Rattle.std.specs.Prelude.{ℕ, ◌+◌, List, [], ◌∷◌, Bool, true, false, ◌&&◌, nat_eq, nat_lt, length, map}
use Rattle.std.specs.List.{list_all, list_any, range_with_len}
use Rattle.std.specs.Cmp.Lexicographic.{pointwise}
use Rattle.sh_ir.specs.declared.linalg_ops.AffineMap.{AffineMap}
use Rattle.sh_ir.specs.declared.linalg_ops.Generic.{Generic}
use Rattle.sh_ir.specs.declared.linalg_ops.IteratorType.{IteratorType}
use Rattle.sh_ir.specs.declared.linalg_ops.IteratorType.TheVariants.{Parallel, Reduction, Unknown}
use Rattle.sh_ir.specs.Loops.{single}
use Rattle.sh_ir.specs.Numbers.{are_distinct}
use Rattle.sh_ir.specs.Operands.{all_following, extents_fit, ranks_fit}
use Rattle.sh_ir.specs.Regions.{is_among}
use Rattle.sh_ir.specs.Typing.{operand_types}

-- it names all loops on the left, and on the right a loop for each dimension, none twice
unfoldable pub is_projection : ℕ → AffineMap → Bool
is_projection loops m =
    pointwise nat_eq m.loops (range_with_len 0 loops)
    && (list_all (λ l. nat_lt l loops) m.results && are_distinct m.results)

-- one output, and a map for each operand
unfoldable pub has_all_maps : Generic → Bool
has_all_maps x =
    nat_eq x.ins_outs.outs_count 1 && nat_eq (length x.indexing_maps) (x.ins_outs.ins_count + 1)

-- what each map sends the loops to, the output's last
abbrev pub results_of : Generic → List (List ℕ)
results_of x = map (λ m. m.results) x.indexing_maps

-- each operand has the rank of its map, and all maps give a loop one extent
unfoldable pub operands_follow : Generic → Bool
operands_follow x =
    ranks_fit (map single (results_of x)) (operand_types x.ins_outs)
    && extents_fit (all_following (map single (results_of x)) (operand_types x.ins_outs))

-- each loop is in a map
abbrev pub is_used : List (List ℕ) → ℕ → Bool
is_used results l = list_any (λ loops. is_among loops l) results

abbrev pub uses_all_loops : Generic → Bool
uses_all_loops x = list_all (is_used (results_of x)) (range_with_len 0 (length x.iterator_types))

-- whether the iterator is the one of a loop that the output has, or lacks
abbrev pub is_iterator : Bool → IteratorType → Bool
is_iterator in_output Parallel = in_output
is_iterator true Reduction = false
is_iterator false Reduction = true
is_iterator in_output Unknown = false

-- the loops of the last map, which is the output's
abbrev pub last_of : List (List ℕ) → List ℕ
last_of [] = []
last_of (loops ∷ []) = loops
last_of (loops ∷ next ∷ rest) = last_of (next ∷ rest)

abbrev pub output_loops : Generic → List ℕ
output_loops x = last_of (results_of x)

-- `"parallel"` exactly where the output has the loop, and else `"reduction"`
unfoldable pub iterators_fit : Generic → Bool
iterators_fit x =
    pointwise (λ l iterator. is_iterator (is_among (output_loops x) l) iterator)
    (range_with_len 0 (length x.iterator_types)) x.iterator_types

unfoldable pub maps_fit : Generic → Bool
maps_fit x =
    has_all_maps x
    && (list_all (is_projection (length x.iterator_types)) x.indexing_maps
    && (operands_follow x
    && (uses_all_loops x && iterators_fit x)))
