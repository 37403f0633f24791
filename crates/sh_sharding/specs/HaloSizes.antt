-- Halo sizes as they are written: what the rules A6 and A7, and A8 on halos, speak of.
use Rattle.std.specs.Prelude.{ℕ, ◌<◌, ◌≤◌, List, [], ◌∷◌, take, drop, slice_index_or, if◌then◌else◌, ℤ, pos}
use Rattle.sh_sharding.specs.declared.shardings.Dimension.{Dimension}
use Rattle.sh_sharding.specs.Sharding.{is_split, parts_of, part_size}
use Rattle.sh_sharding.specs.AxisLists.{natural}

-- how many of the written halo sizes are a dimension's
unfoldable pub halo_count : Dimension → ℕ
halo_count d = if is_split d then 2 else 0

-- a dimension with these halo sizes, of which there are none or two
abbrev pub haloed : Dimension → List ℤ → Dimension
haloed d halos =
    record d {
      low = natural (slice_index_or halos 0 (pos 0));
      high = natural (slice_index_or halos 1 (pos 0));
    }

-- the dimensions with their halos
abbrev pub with_halos : List Dimension → List ℤ → List Dimension
with_halos [] halos = []
with_halos (d ∷ ds) halos =
    haloed d (take (halo_count d) halos) ∷ with_halos ds (drop (halo_count d) halos)

-- no halo is longer than a part of its dimension
abbrev pub HalosFit : List ℕ → Dimension → Type 0
HalosFit g d = (i : ℕ) → i < parts_of g d → (d.low ≤ part_size g d i) × (d.high ≤ part_size g d i)
