-- Local types of worked examples, by computation.
use Rattle.std.proofs.Common.{◌≡◌, [], ◌∷◌, true, false, refl}
use Rattle.sh_ir.specs.declared.types.Dim.TheVariants.{Known, Differs}
use Rattle.sh_grid.specs.Grid.{group_size_of, on_axes}
use Rattle.sh_sharding.specs.declared.shardings.Mark.TheVariants.{Balanced, Offsets}
use Rattle.sh_sharding.specs.Sharding.{offset_of, offsets_of, size_of_part, part_size, parts_of, unsplit, is_even, is_uneven}
use Rattle.sh_sharding.specs.OffsetLists.{normal_mark}
use Rattle.sh_sharding.specs.LocalTypes.{local_dim, part_sizes}

-- five indices over two devices
uneven : local_dim (2 ∷ []) (record { extent = 5; axes = 0 ∷ []; mark = Offsets (0 ∷ 2 ∷ 5 ∷ []); low = 0; high = 0 }) ≡ Differs
unfolding local_dim part_sizes part_size size_of_part offset_of parts_of group_size_of on_axes
uneven = refl

-- the last of three parts alone is longer
last_longer : local_dim (3 ∷ []) (record { extent = 7; axes = 0 ∷ []; mark = Offsets (0 ∷ 2 ∷ 4 ∷ 7 ∷ []); low = 0; high = 0 }) ≡ Differs
unfolding local_dim part_sizes part_size size_of_part offset_of parts_of group_size_of on_axes
last_longer = refl

-- eight over four, with halos of one
with_halos : local_dim (4 ∷ []) (record { extent = 8; axes = 0 ∷ []; mark = Balanced; low = 1; high = 1 }) ≡ Known 4
unfolding local_dim part_sizes part_size size_of_part offset_of parts_of group_size_of on_axes
with_halos = refl

-- split along both axes of a grid
both_axes : local_dim (2 ∷ 2 ∷ []) (record { extent = 8; axes = 1 ∷ 0 ∷ []; mark = Balanced; low = 0; high = 0 }) ≡ Known 2
unfolding local_dim part_sizes part_size size_of_part offset_of parts_of group_size_of on_axes
both_axes = refl

-- empty parts, and a dimension that isn't split
all_empty : local_dim (3 ∷ []) (record { extent = 0; axes = 0 ∷ []; mark = Balanced; low = 0; high = 0 }) ≡ Known 0
unfolding local_dim part_sizes part_size size_of_part offset_of parts_of group_size_of on_axes
all_empty = refl

not_split : local_dim (2 ∷ []) (unsplit 5) ≡ Known 5
unfolding local_dim part_sizes part_size size_of_part offset_of parts_of group_size_of on_axes
not_split = refl

-- ---- balanced divisions

-- five indices over four devices
sizes_of_five : part_sizes (4 ∷ []) (record { extent = 5; axes = 0 ∷ []; mark = Balanced; low = 0; high = 0 }) ≡ 2 ∷ 2 ∷ 1 ∷ 0 ∷ []
unfolding part_sizes part_size size_of_part offset_of parts_of group_size_of on_axes
sizes_of_five = refl

five_over_four : local_dim (4 ∷ []) (record { extent = 5; axes = 0 ∷ []; mark = Balanced; low = 0; high = 0 }) ≡ Differs
unfolding local_dim part_sizes part_size size_of_part offset_of parts_of group_size_of on_axes
five_over_four = refl

-- balanced offsets that are written are the balanced mark
written_halves : normal_mark 4 2 (0 ∷ 2 ∷ 4 ∷ []) ≡ Balanced
unfolding normal_mark offsets_of offset_of
written_halves = refl

written_thirds : normal_mark 5 3 (0 ∷ 2 ∷ 4 ∷ 5 ∷ []) ≡ Balanced
unfolding normal_mark offsets_of offset_of
written_thirds = refl

written_other : normal_mark 5 2 (0 ∷ 2 ∷ 5 ∷ []) ≡ Offsets (0 ∷ 2 ∷ 5 ∷ [])
unfolding normal_mark offsets_of offset_of
written_other = refl

-- a dimension is even where it is split, balanced and divisible
even_halves : is_even (2 ∷ []) (record { extent = 4; axes = 0 ∷ []; mark = Balanced; low = 0; high = 0 }) ≡ true
unfolding is_even parts_of group_size_of on_axes
even_halves = refl

uneven_five : is_uneven (2 ∷ []) (record { extent = 5; axes = 0 ∷ []; mark = Balanced; low = 0; high = 0 }) ≡ true
unfolding is_uneven is_even parts_of group_size_of on_axes
uneven_five = refl

uneven_offsets : is_uneven (2 ∷ []) (record { extent = 4; axes = 0 ∷ []; mark = Offsets (0 ∷ 1 ∷ 4 ∷ []); low = 0; high = 0 }) ≡ true
unfolding is_uneven is_even parts_of group_size_of on_axes
uneven_offsets = refl

neither_whole : is_even (2 ∷ []) (unsplit 4) ≡ false
unfolding is_even parts_of group_size_of on_axes
neither_whole = refl

whole_not_uneven : is_uneven (2 ∷ []) (unsplit 5) ≡ false
unfolding is_uneven is_even parts_of group_size_of on_axes
whole_not_uneven = refl
