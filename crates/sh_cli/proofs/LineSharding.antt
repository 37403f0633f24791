-- The sharding of a vector over a line of devices.
use Rattle.std.proofs.Common.{rules, ℤ, ◌≡◌, ℕ, zero, suc, ◌+◌, ◌*◌, ◌/◌, ◌%◌, ◌<◌, ◌≤◌, List, [], ◌∷◌, take, refl, ap, sym, ◌∙◌, arith, subst, pos}
use Rattle.std.proofs.lemmas.Bool.Decides.{nat_tests}
use Rattle.std.proofs.lemmas.Int.{ints}
use Rattle.std.proofs.Math.Nat.{mul-le-mul_right}
use Rattle.std.specs.Prelude.{All, count_by, ◌==◌}
use Rattle.std.specs.List.{AllByRecursion}
use Rattle.sh_base.specs.declared.rules.Rule.{Rule}
use Rattle.sh_base.specs.declared.rules.Rule.TheVariants.{A1, A2, A3, A5, A6, A7, A8}
use Rattle.sh_base.specs.declared.numbers.Width.TheVariants.{I32}
use Rattle.sh_base.specs.Shape.{cell_count, max_cells}
use Rattle.std.specs.Int.{div_ceil}
use Rattle.sh_ir.specs.declared.types.Dim.{Dim}
use Rattle.sh_ir.specs.declared.types.Dim.TheVariants.{Known, Differs}
use Rattle.sh_ir.specs.declared.types.ValueType.TheVariants.{Tensor}
use Rattle.sh_ir.specs.Shapes.{shape_of}
use Rattle.sh_sharding.specs.Carried.{grid_of, local_type}
use Rattle.sh_sharding.specs.LocalTypes.{IsLocalDim, local_dim}
use Rattle.sh_sharding.proofs.LocalTypeLaws.{are_local_dims}
use Rattle.sh_sharding.proofs.PartLaws.{part_of-below}
use Rattle.sh_grid.specs.Grid.{GridValue, IsGrid, group_size_of, on_axes}
use Rattle.sh_sharding.specs.Admission.{sharding_of, IsAdmitted, Keeps}
use Rattle.sh_sharding.specs.AxisLists.{IsBelow}
use Rattle.sh_sharding.specs.HaloSizes.{halo_count, HalosFit}
use Rattle.sh_sharding.specs.OffsetLists.{mark_of, offset_count}
use Rattle.sh_sharding.specs.Sharding.{ShardingValue, IsSharding, IsDimension, IsDivided, HasNoHalos, parts_of, part_of, part_size, size_of_part, offset_of, offset_at, size_in, local_extent, local_shape, counted_cells, unsplit}
use Rattle.sh_sharding.specs.declared.shardings.Dimension.{Dimension}
use Rattle.sh_sharding.specs.declared.shardings.Mark.TheVariants.{Balanced}
use Rattle.sh_cli.specs.VectorSum.{IsEvenlySplit}
use Rattle.sh_cli.specs.Modules.{by_axis_0, line_of_devices, vector}

abbrev pub line : ℕ → GridValue
line devices = grid_of (line_of_devices devices)

-- a vector that is split evenly along the only axis
abbrev pub split_dimension : ℕ → Dimension
split_dimension extent = record { extent = extent; axes = 0 ∷ []; mark = Balanced; low = 0; high = 0 }

abbrev pub line_sharding : ℕ → ℕ → ShardingValue
line_sharding extent devices = record { grid = line devices; dimensions = split_dimension extent ∷ [] }

take_none : (A : Type 0) (n : ℕ) → take {A = A} n [] ≡ []
take_none A zero = refl
take_none A (suc n) = refl

-- what is written is this sharding
pub is_line_sharding : (extent devices : ℕ) → sharding_of (line devices) by_axis_0 (shape_of (vector extent)) ≡ line_sharding extent devices
unfolding mark_of offset_count halo_count
is_line_sharding extent devices = rw (take_none ℤ (parts_of (devices ∷ []) (record (unsplit extent) { axes = 0 ∷ [] }) + 1)) refl

pub parts_are : (extent devices : ℕ) → parts_of (devices ∷ []) (split_dimension extent) ≡ devices
unfolding parts_of group_size_of on_axes
parts_are extent devices = omega arith

-- parts of one size are the balanced ones
quotient_is : (extent devices : ℕ) → IsEvenlySplit extent devices → div_ceil extent devices ≡ extent / devices
quotient_is extent devices is =
    let none : extent % devices ≡ 0 = omega (arith, is.divisible, is.limits.some_devices) in
    rw none (omega arith)

-- where part i begins
offset_is : (extent devices i : ℕ) → IsEvenlySplit extent devices → i ≤ devices → offset_at (devices ∷ []) (split_dimension extent) i ≡ i * (extent / devices)
unfolding offset_at offset_of
offset_is extent devices i is le =
    let within : i * (extent / devices) ≤ devices * (extent / devices) = mul-le-mul_right (extent / devices) le in
    rw (parts_are extent devices, quotient_is extent devices is) (omega (arith, within, is.divisible))

pub part_size_is : (extent devices i : ℕ) → IsEvenlySplit extent devices → i < devices → part_size (devices ∷ []) (split_dimension extent) i ≡ extent / devices
unfolding part_size size_of_part offset_at
part_size_is extent devices i is lt =
    rw (offset_is extent devices (i + 1) is (omega arith), offset_is extent devices i is (omega arith)) (omega arith)

local_extent_is : (extent devices device : ℕ) → IsEvenlySplit extent devices → device < devices * 1 → local_extent (devices ∷ []) device (split_dimension extent) ≡ extent / devices
unfolding local_extent size_in
local_extent_is extent devices device is below =
    let part : part_of (devices ∷ []) (split_dimension extent) device < parts_of (devices ∷ []) (split_dimension extent) = part_of-below (devices ∷ []) (split_dimension extent) device below (omega arith, tt, tt) in
    let size = part_size_is extent devices (part_of (devices ∷ []) (split_dimension extent) device) is (subst (λ n. part_of (devices ∷ []) (split_dimension extent) device < n) (parts_are extent devices) part) in
    rw size (omega arith)

pub local_shape_is : (extent devices device : ℕ) → IsEvenlySplit extent devices → device < devices * 1 → local_shape (line_sharding extent devices) device ≡ (extent / devices) ∷ []
local_shape_is extent devices device is below = ap (λ n. n ∷ []) (local_extent_is extent devices device is below)

pub line_is_grid : (extent devices : ℕ) → IsEvenlySplit extent devices → IsGrid (devices ∷ [])
line_is_grid extent devices is = record {
  some = omega arith;
  few = omega arith;
  positive = search (rules, is.limits.some_devices);
  small = omega (arith, is.limits.few_devices);
}

-- an extent of the local type that all devices have is known
known_extent : (g : List ℕ) (d : Dimension) (n : ℕ) (dim : Dim) → 0 < cell_count g → ((device : ℕ) → device < cell_count g → local_extent g device d ≡ n) → IsLocalDim g d dim → dim ≡ Known n
known_extent g d n (Known m) some same is = ap (λ x. Known x) (sym (is 0 some) ∙ same 0 some)
known_extent g d n Differs some same two = absurd (two.differ (same two.first two.there ∙ sym (same two.second two.there_too)))

-- the local type of a vector
pub local_type_is : (extent devices : ℕ) → IsEvenlySplit extent devices → local_type (line_sharding extent devices) (vector extent) ≡ vector (extent / devices)
local_type_is extent devices is =
    let g : List ℕ = devices ∷ [] in
    let ds : List Dimension = split_dimension extent ∷ [] in
    let local = are_local_dims g ds (line_is_grid extent devices is) ((omega arith, tt, tt), tt) in
    let dim = known_extent g (split_dimension extent) (extent / devices) (local_dim g (split_dimension extent)) (omega (arith, is.limits.some_devices)) (λ device below. local_extent_is extent devices device is below) local.0 in
    ap (λ d. Tensor (record { dims = d ∷ []; width = I32 })) dim

pub part_fits : (extent devices : ℕ) → IsEvenlySplit extent devices → extent / devices ≤ extent
part_fits extent devices is =
    let one : 1 * (extent / devices) ≤ devices * (extent / devices) = mul-le-mul_right (extent / devices) is.limits.some_devices in
    omega (arith, one, is.divisible)

divided : (extent devices : ℕ) → IsEvenlySplit extent devices → IsDivided extent (parts_of (devices ∷ []) (split_dimension extent)) Balanced
unfolding offset_of
divided extent devices is = rw (parts_are extent devices) (record {
  begins = omega arith;
  rises = λ i lt.
      let step : i * (extent / devices) ≤ (i + 1) * (extent / devices) = mul-le-mul_right (extent / devices) (omega arith) in
      rw (quotient_is extent devices is) (omega (arith, step));
  ends = rw (quotient_is extent devices is) (omega (arith, is.divisible));
})

dimension_is : (extent devices : ℕ) → IsEvenlySplit extent devices → IsDimension (devices ∷ []) (split_dimension extent)
dimension_is extent devices is = record {
  divided = divided extent devices is;
  normal = tt;
  low = λ i lt. omega arith;
  high = λ i lt. omega arith;
  unsplit = λ none. absurd (cc none);
}

cells_fit : (n : ℕ) → n ≤ max_cells → counted_cells (n ∷ []) ≤ max_cells
cells_fit n le = omega arith

pub line_is_sharding : (extent devices : ℕ) → IsEvenlySplit extent devices → IsSharding (line_sharding extent devices)
line_is_sharding extent devices is = record {
  grid = line_is_grid extent devices is;
  axes = (omega arith, tt, tt);
  dimensions = (dimension_is extent devices is, tt);
  short = omega arith;
  one_mark = λ _. ((refl, refl), tt);
  small = cells_fit extent is.limits.few_cells;
  fits = λ device lt. subst (λ (dims : List ℕ). counted_cells dims ≤ max_cells) (sym (local_shape_is extent devices device is (omega (arith, lt)))) (cells_fit (extent / devices) (omega (arith, part_fits extent devices is, is.limits.few_cells)));
}

pub no_halos : (extent devices : ℕ) → HasNoHalos (line_sharding extent devices).dimensions
no_halos extent devices = ((refl, refl), tt)

-- ---- the rules of admission

all_of_one : {X : Type 0} (P : X → Type 0) (x : X) → P x → All P (x ∷ [])
all_of_one P x h zero d below = h
all_of_one P x h (suc k) d below = absurd (omega arith)

first_axis : IsBelow 1 (pos 0)
first_axis = (omega (arith, ints), omega (arith, ints))

one_axis : (a : ℕ) → count_by (λ b. b == a) (0 ∷ []) ≤ 1
one_axis a = grind (arith, nat_tests)

-- what the last rule asks of the sharding itself
record HasRoom (s : ShardingValue) : Type 0 where
  halos : AllByRecursion (HalosFit s.grid.extents) s.dimensions
  cells : (device : ℕ) → device < cell_count s.grid.extents → counted_cells (local_shape s device) ≤ max_cells

line_has_room : (extent devices : ℕ) → IsEvenlySplit extent devices → HasRoom (line_sharding extent devices)
line_has_room extent devices is = record {
  halos = ((λ i lt. (omega arith, omega arith)), tt);
  cells = λ device lt. subst (λ (dims : List ℕ). counted_cells dims ≤ max_cells) (sym (local_shape_is extent devices device is (omega (arith, lt)))) (cells_fit (extent / devices) (omega (arith, part_fits extent devices is, is.limits.few_cells)));
}

halos_fit : (extent devices : ℕ) → IsEvenlySplit extent devices → Keeps A8 (line devices) by_axis_0 (extent ∷ [])
halos_fit extent devices is =
    let room = subst HasRoom (sym (is_line_sharding extent devices)) (line_has_room extent devices is) in
    (room.halos, room.cells)

keeps : (extent devices : ℕ) → IsEvenlySplit extent devices → (rule : Rule) → Keeps rule (line devices) by_axis_0 (extent ∷ [])
keeps extent devices is A1 = all_of_one (All (IsBelow 1)) (pos 0 ∷ []) (all_of_one (IsBelow 1) (pos 0) first_axis)
keeps extent devices is A2 = one_axis
keeps extent devices is A3 = omega arith
keeps extent devices is A5 = λ some. absurd (some refl)
keeps extent devices is A6 = λ some. absurd (some refl)
keeps extent devices is A7 = λ some. absurd (some refl)
keeps extent devices is A8 = halos_fit extent devices is
keeps extent devices is _ = tt

pub line_is_admitted : (extent devices : ℕ) → IsEvenlySplit extent devices → IsAdmitted (line devices) by_axis_0 (shape_of (vector extent))
line_is_admitted extent devices is = record { keeps = keeps extent devices is }
