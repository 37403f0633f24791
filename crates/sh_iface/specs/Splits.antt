-- How an option splits the loops, and how the values are split then.
use Rattle.std.specs.Prelude.{ℕ, suc, ◌+◌, ◌-◌, ◌&&◌, Bool, List, [], ◌∷◌, map, min, set, slice_get, nat_eq, nat_le, unwrap_or, Option, Some, None, if◌then◌else◌}
use Rattle.std.specs.List.{list_all, range_with_len}
use Rattle.std.specs.Cmp.Lexicographic.{pointwise}
use Rattle.sh_base.specs.declared.numbers.Width.{Width}
use Rattle.sh_base.specs.Shape.{max_cells}
use Rattle.sh_grid.specs.Grid.{GridValue, group_size_of}
use Rattle.sh_sharding.specs.declared.shardings.Dimension.{Dimension}
use Rattle.sh_sharding.specs.declared.shardings.Mark.TheVariants.{Balanced}
use Rattle.sh_sharding.specs.AxisLists.{natural}
use Rattle.sh_sharding.specs.OffsetLists.{normal_mark}
use Rattle.sh_sharding.specs.Sharding.{ShardingValue, unsplit, offsets_of, size_of_part, counted_cells, is_split_by}
use Rattle.sh_sharding.specs.Splits.{TensorSplit}
use Rattle.sh_sharding.specs.Views.{scaled}
use Rattle.sh_iface.specs.declared.options.Follow.{Follow}
use Rattle.sh_iface.specs.declared.options.How.{How}
use Rattle.sh_iface.specs.declared.options.How.TheVariants.{Same, Scale, Window}
use Rattle.sh_iface.specs.declared.options.Split.{Split}
use Rattle.sh_iface.specs.LoopNest.{LoopNest, NestDim, NestValue, dim_at, loop_extents, shape_of}

-- for each loop its split
abbrev pub OptionValue : Type 0
OptionValue = List (Option Split)

abbrev pub split_at : OptionValue → ℕ → Option Split
split_at o l = unwrap_or (slice_get o l) None

-- ---- one dimension

-- parts that are so many times as long as those of the loop
abbrev pub scaled_dimension : List ℕ → ℕ → Split → ℕ → Dimension
scaled_dimension g extent split factor = record {
  extent = extent;
  axes = split.axes;
  mark = normal_mark extent (group_size_of g split.axes)
      (map natural (map (scaled factor) split.starts));
  low = 0;
  high = 0;
}

-- the balanced division, with the cells at the end that the last places of a window read
abbrev pub window_dimension : ℕ → Split → ℕ → Dimension
window_dimension extent split kernel =
    record { extent = extent; axes = split.axes; mark = Balanced; low = 0; high = kernel - 1 }

-- The parts of a balanced division, as far as there are places of the window, are those of the
-- loop.
abbrev pub has_places : ℕ → ℕ → ℕ → Split → Bool
has_places extent parts places split =
    pointwise nat_eq (map (min places) (offsets_of extent parts Balanced))
    (map natural split.starts)

-- no part is shorter than the halo
abbrev pub is_long_enough : ℕ → ℕ → ℕ → Bool
is_long_enough extent parts halo =
    list_all (λ i. nat_le halo (size_of_part extent parts Balanced i)) (range_with_len 0 parts)

-- The largest local tensor is small: of a balanced division the first part is the largest.
abbrev pub is_small_enough : List ℕ → ℕ → ℕ → ℕ → ℕ → Bool
is_small_enough shape at extent parts halo =
    nat_le (counted_cells (set shape at (size_of_part extent parts Balanced 0 + halo))) max_cells

-- Whether dimension `at` of a value of this shape can be split through a window that has so many
-- places: the parts are those of the loop, and the rules are kept where it alone is split.
unfoldable pub can_window : List ℕ → List ℕ → ℕ → ℕ → Split → ℕ → ℕ → Bool
can_window g shape at places split extent kernel =
    let parts = group_size_of g split.axes in
    is_split_by split.axes && (has_places extent parts places split
    && (is_long_enough extent parts (kernel - 1)
    && is_small_enough shape at extent parts (kernel - 1)))

-- how many times as long its parts are as those of the loop, where it isn't read through a window
abbrev pub factor_of : How → ℕ
factor_of Same = 1
factor_of (Scale factor) = factor
factor_of (Window kernel) = 0

-- how a dimension is divided where the loop that it follows, of this extent, is split so
abbrev pub divided_as : List ℕ → List ℕ → ℕ → ℕ → Split → ℕ → How → Dimension
divided_as g shape at extent split places Same = scaled_dimension g extent split 1
divided_as g shape at extent split places (Scale factor) = scaled_dimension g extent split factor
divided_as g shape at extent split places (Window kernel) =
    if can_window g shape at places split extent kernel
    then window_dimension extent split kernel
    else unsplit extent

abbrev pub followed : List ℕ → List ℕ → OptionValue → List ℕ → ℕ → ℕ → Option Follow → Dimension
followed g loops o shape at extent None = unsplit extent
followed g loops o shape at extent (Some f) =
    elim (split_at o f.loop_index) [
      | None ↦ unsplit extent
      | Some split ↦
          divided_as g shape at extent split (unwrap_or (slice_get loops f.loop_index) 0) f.how
    ]

-- ---- a value

-- its dimensions from number `at` on
abbrev pub divided : List ℕ → List ℕ → OptionValue → List ℕ → ℕ → List NestDim → List Dimension
divided g loops o shape at [] = []
divided g loops o shape at (d ∷ dims) =
    followed g loops o shape at d.extent d.follow ∷ divided g loops o shape (suc at) dims

-- the sharding that an option implies of a value
unfoldable pub implied_of : GridValue → LoopNest → OptionValue → NestValue → ShardingValue
implied_of g nest o value = record {
  grid = g;
  dimensions = divided g.extents (loop_extents nest) o (shape_of value) 0 value.dims;
}

abbrev pub split_of : GridValue → LoopNest → OptionValue → NestValue → TensorSplit
split_of g nest o value = record { sharding = implied_of g nest o value; width = value.width }

-- a scalar, which each device has whole
abbrev pub scalar_split : GridValue → Width → TensorSplit
scalar_split g w = record { sharding = record { grid = g; dimensions = [] }; width = w }

-- dimension `dim` of a value
abbrev pub implied_dimension : List ℕ → LoopNest → OptionValue → NestValue → ℕ → Dimension
implied_dimension g nest o value dim =
    let d = dim_at value dim in
    followed g (loop_extents nest) o (shape_of value) dim d.extent d.follow
