-- Moves and their costs on small grids, by computation.
use Rattle.std.proofs.Common.{◌≡◌, ◌∙◌, ℕ, List, [], ◌∷◌, refl}
use Rattle.sh_grid.specs.Grid.{group_size_of, on_axes, place_in}
use Rattle.sh_sharding.specs.declared.shardings.Dimension.{Dimension}
use Rattle.sh_sharding.specs.declared.shardings.Mark.TheVariants.{Offsets}
use Rattle.sh_sharding.specs.Sharding.{is_even, is_uneven, offset_at, offset_of, part_of, part_size, parts_of, size_in, size_of_part, start_in, unsplit}
use Rattle.sh_plan.specs.declared.moves.Move.TheVariants.{M1, M2, M3, M4, M5}
use Rattle.sh_plan.specs.Moves.{after, candidates, may, moves_at}
use Rattle.sh_plan.specs.Costs.{cost_between, cost_by_lengths, is_in_part, part_indices, received}
use Rattle.sh_plan.proofs.CostLaws.{by_lengths}

abbrev split : ℕ → List ℕ → Dimension
split extent axes = record (unsplit extent) { axes = axes }

-- ---- 4x4 on a line of two devices, from the first dimension to the second

abbrev line : List ℕ
line = 2 ∷ []

abbrev by_rows : List Dimension
by_rows = split 4 (0 ∷ []) ∷ unsplit 4 ∷ []

abbrev by_columns : List Dimension
by_columns = unsplit 4 ∷ split 4 (0 ∷ []) ∷ []

abbrev whole : List Dimension
whole = unsplit 4 ∷ unsplit 4 ∷ []

-- the moves of the source, and where they lead
from_rows : moves_at line by_columns by_rows ≡ M1 0 ∷ M3 0 1 ∷ []
unfolding after moves_at candidates may cost_between received part_indices is_in_part is_even is_uneven start_in size_in part_of parts_of offset_at offset_of part_size size_of_part place_in group_size_of on_axes
from_rows = refl

moved : after by_columns by_rows (M3 0 1) ≡ by_columns
unfolding after
moved = refl

gathered : after by_columns by_rows (M1 0) ≡ whole
unfolding after
gathered = refl

from_whole : moves_at line by_columns whole ≡ M2 0 0 ∷ M2 1 0 ∷ []
unfolding after moves_at candidates may cost_between received part_indices is_in_part is_even is_uneven start_in size_in part_of parts_of offset_at offset_of part_size size_of_part place_in group_size_of on_axes
from_whole = refl

-- moving the axis costs 9, gathering and then slicing 17 and 1
move_cost : cost_between line by_rows by_columns ≡ 9
unfolding after moves_at candidates may cost_between received part_indices is_in_part is_even is_uneven start_in size_in part_of parts_of offset_at offset_of part_size size_of_part place_in group_size_of on_axes
move_cost = refl

gather_cost : cost_between line by_rows whole ≡ 17
unfolding after moves_at candidates may cost_between received part_indices is_in_part is_even is_uneven start_in size_in part_of parts_of offset_at offset_of part_size size_of_part place_in group_size_of on_axes
gather_cost = refl

slice_cost : cost_between line whole by_columns ≡ 1
unfolding after moves_at candidates may cost_between received part_indices is_in_part is_even is_uneven start_in size_in part_of parts_of offset_at offset_of part_size size_of_part place_in group_size_of on_axes
slice_cost = refl

-- ---- 4x14 on a line of four devices, by offsets along the second dimension

abbrev by_offsets : List Dimension
by_offsets = unsplit 4 ∷ record (split 14 (0 ∷ [])) { mark = Offsets (0 ∷ 2 ∷ 5 ∷ 9 ∷ 14 ∷ []) } ∷ []

abbrev undivided : List Dimension
undivided = unsplit 4 ∷ unsplit 14 ∷ []

from_offsets : moves_at (4 ∷ []) undivided by_offsets ≡ M4 1 ∷ []
unfolding after moves_at candidates may cost_between received part_indices is_in_part is_even is_uneven start_in size_in part_of parts_of offset_at offset_of part_size size_of_part place_in group_size_of on_axes
from_offsets = refl

offsets_gathered : after undivided by_offsets (M4 1) ≡ undivided
unfolding after
offsets_gathered = refl

offsets_cost : cost_between (4 ∷ []) by_offsets undivided ≡ 169
unfolding after moves_at candidates may cost_between received part_indices is_in_part is_even is_uneven start_in size_in part_of parts_of offset_at offset_of part_size size_of_part place_in group_size_of on_axes
offsets_cost = refl

-- and back: only the target has such a dimension
to_offsets : moves_at (4 ∷ []) by_offsets undivided ≡ M2 0 0 ∷ M5 1 ∷ []
unfolding after moves_at candidates may cost_between received part_indices is_in_part is_even is_uneven start_in size_in part_of parts_of offset_at offset_of part_size size_of_part place_in group_size_of on_axes
to_offsets = refl

offsets_split : after by_offsets undivided (M5 1) ≡ by_offsets
unfolding after
offsets_split = refl

-- ---- five cells on a line of two devices: split without offsets, and uneven

abbrev uneven : List Dimension
uneven = split 5 (0 ∷ []) ∷ []

from_uneven : moves_at line uneven uneven ≡ M4 0 ∷ []
unfolding after moves_at candidates may cost_between received part_indices is_in_part is_even is_uneven start_in size_in part_of parts_of offset_at offset_of part_size size_of_part place_in group_size_of on_axes
from_uneven = refl

to_uneven : moves_at line uneven (unsplit 5 ∷ []) ≡ M5 0 ∷ []
unfolding after moves_at candidates may cost_between received part_indices is_in_part is_even is_uneven start_in size_in part_of parts_of offset_at offset_of part_size size_of_part place_in group_size_of on_axes
to_uneven = refl

-- ---- four axes of two devices each: the last axis moves to another dimension

abbrev cube : List ℕ
cube = 2 ∷ 2 ∷ 2 ∷ 2 ∷ []

abbrev fours : List Dimension
fours = unsplit 4 ∷ unsplit 4 ∷ unsplit 4 ∷ unsplit 4 ∷ []

abbrev all_first : List Dimension
all_first = split 16 (0 ∷ 1 ∷ 2 ∷ 3 ∷ []) ∷ unsplit 16 ∷ fours

abbrev last_second : List Dimension
last_second = split 16 (0 ∷ 1 ∷ 2 ∷ []) ∷ split 16 (3 ∷ []) ∷ fours

last_moved : after all_first all_first (M3 0 1) ≡ last_second
unfolding after
last_moved = refl

last_lengths : cost_by_lengths cube all_first last_second ≡ 32769
unfolding after moves_at candidates may cost_between received part_indices is_in_part is_even is_uneven start_in size_in part_of parts_of offset_at offset_of part_size size_of_part place_in group_size_of on_axes
last_lengths = refl

last_cost : cost_between cube all_first last_second ≡ 32769
last_cost = by_lengths cube all_first last_second refl ∙ last_lengths
