-- How a sharding is written: the spelling of its normal form.
use Rattle.std.specs.Prelude.{ℕ, List, [], ◌∷◌, map, flat_map, Bool, not, ◌||◌, nat_lt, ℤ, pos, if◌then◌else◌}
use Rattle.std.specs.List.{list_any}
use Rattle.sh_ir.specs.declared.types.RawSharding.{RawSharding}
use Rattle.sh_sharding.specs.declared.shardings.Dimension.{Dimension}
use Rattle.sh_sharding.specs.Sharding.{ShardingValue, parts_of, offsets_of, is_split, is_balanced}
use Rattle.sh_sharding.specs.Normal.{up_to_last_split}

-- The dimensions whose lists of axes are written: up to the last one that is split, and the first
-- in any case, so that a replicated tensor has one empty list.
abbrev pub written_dimensions : List Dimension → List Dimension
written_dimensions [] = []
written_dimensions (d ∷ ds) = d ∷ up_to_last_split ds

abbrev pub split_of : List Dimension → List (List ℤ)
split_of ds = map (λ d. map pos d.axes) (written_dimensions ds)

-- ---- halos

abbrev pub has_halo : Dimension → Bool
has_halo d = nat_lt 0 d.low || nat_lt 0 d.high

-- the halo sizes of a dimension, if it is split
abbrev pub halo_sizes : Dimension → List ℤ
halo_sizes d = if is_split d then pos d.low ∷ pos d.high ∷ [] else []

-- those of all dimensions, unless none has a halo
abbrev pub halos_of : List Dimension → List ℤ
halos_of ds = if list_any has_halo ds then flat_map halo_sizes ds else []

-- ---- offsets

-- whether the normal form has offsets for the dimension
abbrev pub is_unbalanced : Dimension → Bool
is_unbalanced d = not (is_balanced d)

-- all offsets of a dimension, if it is split
abbrev pub part_offsets : List ℕ → Dimension → List ℤ
part_offsets g d = if is_split d then map pos (offsets_of d.extent (parts_of g d) d.mark) else []

-- those of all dimensions, unless all are balanced
abbrev pub all_offsets_of : List ℕ → List Dimension → List ℤ
all_offsets_of g ds = if list_any is_unbalanced ds then flat_map (part_offsets g) ds else []

-- ---- the whole spelling

abbrev pub raw_of : ShardingValue → RawSharding
raw_of s = record {
  grid = s.grid.name;
  split = split_of s.dimensions;
  halos = halos_of s.dimensions;
  offsets = all_offsets_of s.grid.extents s.dimensions;
}
