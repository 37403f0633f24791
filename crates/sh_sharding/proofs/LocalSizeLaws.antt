-- The largest local tensor of a sharding, dimension by dimension and device by device.
use Rattle.std.proofs.Common.{◌≡◌, ℕ, zero, suc, ◌+◌, ◌*◌, ◌<◌, ◌≤◌, ◌⊎◌, inl, inr, List, [], ◌∷◌, ◌++◌, length, get_or, map, take, min, max, refl, ap, ap₂, sym, ◌∙◌, arith, subst}
use Rattle.std.specs.List.{AllByRecursion}
use Rattle.std.proofs.lemmas.Nat.{mul-le}
use Rattle.std.proofs.lemmas.List.{take_more, map_push}
use Rattle.sh_base.specs.Shape.{cell_count, IsIndexOf, flat_of, unflat_of, max_cells}
use Rattle.sh_base.proofs.ShapeLaws.{cell_count-append, min-mul-min, unflat_of-within, unflat_of-flat_of, flat_of-below}
use Rattle.sh_base.proofs.IndexLaws.{cell_count-some}
use Rattle.sh_grid.specs.Grid.{IsGrid, AreAxesOf, on_axes, group_size_of, member_of}
use Rattle.sh_grid.proofs.GroupLaws.{on_axes-append, IsIndexOf-on_axes, member_of-below, place_in-member_of}
use Rattle.sh_sharding.specs.declared.shardings.Dimension.{Dimension}
use Rattle.sh_sharding.specs.Sharding.{ShardingValue, local_shape, parts_of, part_of, part_size, size_in, local_extent, axes_of, counted_cells, largest_to, largest_local}
use Rattle.sh_sharding.proofs.PartLaws.{part_of-below, axes_of-each}
use Rattle.sh_sharding.proofs.OwnerLaws.{IsIndexOf-append, same_front, part_of-entries, on_axes-place_in}
use Rattle.sh_sharding.proofs.Cases.{below_next}

-- ---- the product, step by step

counted_more : (ns : List ℕ) (n : ℕ) → counted_cells (ns ++ n ∷ []) ≡ counted_cells ns * max 1 n
counted_more ns n = ap cell_count (map_push (max 1) ns n) ∙ cell_count-append (map (max 1) ns) (max 1 n)

-- one dimension more, of a number that each has
pub counted_step : {X : Type 0} (f : X → ℕ) (xs : List X) (i total next : ℕ) (d : X) → i < length xs → total ≡ min (counted_cells (map f (take i xs))) (max_cells + 1)
    → next ≡ min (total * max 1 (f (get_or xs i d))) (max_cells + 1) → next ≡ min (counted_cells (map f (take (i + 1) xs))) (max_cells + 1)
counted_step f xs i total next d l e en =
    let x = get_or xs i d in
    let more : map f (take (i + 1) xs) ≡ map f (take i xs) ++ f x ∷ [] = ap (map f) (take_more xs i d l) ∙ map_push f (take i xs) x in
    en
    ∙ ap (λ z. min (z * max 1 (f x)) (max_cells + 1)) e
    ∙ min-mul-min (counted_cells (map f (take i xs))) (max 1 (f x)) (max_cells + 1)
    ∙ ap (λ z. min z (max_cells + 1)) (sym (ap counted_cells more ∙ counted_more (map f (take i xs)) (f x)))

-- ---- the largest part is a part, and no part is larger

le_or_lt : (a b : ℕ) → (a ≤ b) ⊎ (b < a)
le_or_lt a b = grind arith

part_size-le : (g : List ℕ) (d : Dimension) (k i : ℕ) → i < k → part_size g d i ≤ largest_to (part_size g d) k
part_size-le g d zero i l = absurd (omega arith)
part_size-le g d (suc k) i l = elim (below_next i k l) [
  | inl less ↦ let rec = part_size-le g d k i less in omega arith
  | inr same ↦ let here : part_size g d k ≤ largest_to (part_size g d) (suc k) = omega arith in subst (λ z. part_size g d z ≤ largest_to (part_size g d) (suc k)) (sym same) here
]

pub record IsLargestPart (g : List ℕ) (d : Dimension) (k : ℕ) : Type 0 where
  pub part : ℕ
  pub below : part < k
  pub size : part_size g d part ≡ largest_to (part_size g d) k

largest_part_of : (g : List ℕ) (d : Dimension) (k : ℕ) → IsLargestPart g d (suc k)
largest_part_of g d zero = record { part = 0; below = omega arith; size = omega arith }
largest_part_of g d (suc k) = elim (le_or_lt (part_size g d (suc k)) (largest_to (part_size g d) (suc k))) [
  | inl le ↦ let rec = largest_part_of g d k in
      let below = rec.below in
      let size = rec.size in
      record { part = rec.part; below = omega arith; size = omega arith }
  | inr lt ↦ record { part = suc k; below = omega arith; size = omega arith }
]

pub largest_part : (g : List ℕ) (d : Dimension) → 0 < parts_of g d → IsLargestPart g d (parts_of g d)
largest_part g d some = at_most g d (parts_of g d) some
  where
    at_most : (g : List ℕ) (d : Dimension) (n : ℕ) → 0 < n → IsLargestPart g d n
    at_most g d zero h = absurd (omega arith)
    at_most g d (suc n) h = largest_part_of g d n

-- ---- no device has more cells

local_extent-le : (g : List ℕ) (device : ℕ) (d : Dimension) → device < cell_count g → AreAxesOf (length g) d.axes → local_extent g device d ≤ largest_local g d
unfolding local_extent size_in
local_extent-le g device d h m =
    let le = part_size-le g d (parts_of g d) (part_of g d device) (part_of-below g d device h m) in
    omega arith

pub local_cells-le : (g : List ℕ) (device : ℕ) (ds : List Dimension) → device < cell_count g → AllByRecursion (λ d. AreAxesOf (length g) d.axes) ds
    → counted_cells (map (local_extent g device) ds) ≤ counted_cells (map (largest_local g) ds)
local_cells-le g device [] h m = omega arith
local_cells-le g device (d ∷ ds) h m =
    let first = local_extent-le g device d h m.0 in
    mul-le (max 1 (local_extent g device d)) (counted_cells (map (local_extent g device) ds)) (max 1 (largest_local g d)) (counted_cells (map (largest_local g) ds)) (omega arith) (local_cells-le g device ds h m.1)

-- ---- a device has as many

-- the coordinates, on all axes, of the devices with the largest part in each dimension
pub record IsLargestAt (g : List ℕ) (ds : List Dimension) : Type 0 where
  pub entries : List ℕ
  pub within : IsIndexOf (on_axes (axes_of ds) g) entries
  pub largest : (e : ℕ) → e < cell_count g → on_axes (axes_of ds) (unflat_of g e) ≡ entries → map (local_extent g e) ds ≡ map (largest_local g) ds

largest_here : (g : List ℕ) (d : Dimension) (e q : ℕ) → part_of g d e ≡ q → part_size g d q ≡ largest_to (part_size g d) (parts_of g d) → local_extent g e d ≡ largest_local g d
unfolding local_extent size_in
largest_here g d e q same size = ap (λ z. d.low + z + d.high) (ap (part_size g d) same ∙ size)

some_parts : (g : List ℕ) (d : Dimension) → 0 < cell_count g → AreAxesOf (length g) d.axes → 0 < parts_of g d
some_parts g d h m = let below = part_of-below g d 0 h m in omega arith

largest_at : (g : List ℕ) (ds : List Dimension) → 0 < cell_count g → AllByRecursion (λ d. AreAxesOf (length g) d.axes) ds → IsLargestAt g ds
unfolding on_axes parts_of group_size_of
largest_at g [] some m = record { entries = []; within = tt; largest = λ e l k. refl }
largest_at g (d ∷ ds) some m =
    let part = largest_part g d (some_parts g d some m.0) in
    let rest = largest_at g ds some m.1 in
    let own = unflat_of (on_axes d.axes g) part.part in
    let own_within : IsIndexOf (on_axes d.axes g) own = unflat_of-within (on_axes d.axes g) part.part part.below in
    record {
      entries = own ++ rest.entries;
      within = subst (λ s. IsIndexOf s (own ++ rest.entries)) (sym (on_axes-append d.axes (axes_of ds) g)) (IsIndexOf-append (on_axes d.axes g) (on_axes (axes_of ds) g) own rest.entries own_within rest.within);
      largest = λ e l k.
          let fronts = same_front (on_axes d.axes g) (on_axes d.axes (unflat_of g e)) own (on_axes (axes_of ds) (unflat_of g e)) rest.entries
          (IsIndexOf-on_axes g (unflat_of g e) d.axes (unflat_of-within g e l) m.0) own_within (sym (on_axes-append d.axes (axes_of ds) (unflat_of g e)) ∙ k) in
          ap₂ ◌∷◌ (largest_here g d e part.part (part_of-entries g d e part.part part.below fronts.0) part.size) (rest.largest e l fronts.1);
    }

-- where the largest parts fit, so does the local tensor of each device
pub cells_fit : (s : ShardingValue) (most : ℕ) → AreAxesOf (length s.grid.extents) (axes_of s.dimensions) → counted_cells (map (largest_local s.grid.extents) s.dimensions) ≤ most
    → (device : ℕ) → device < cell_count s.grid.extents → counted_cells (local_shape s device) ≤ most
cells_fit s most m le device l =
    let cells : counted_cells (map (local_extent s.grid.extents device) s.dimensions) ≤ counted_cells (map (largest_local s.grid.extents) s.dimensions) =
    local_cells-le s.grid.extents device s.dimensions l (axes_of-each (length s.grid.extents) s.dimensions m) in
    omega arith

pub record HasLargest (g : List ℕ) (ds : List Dimension) : Type 0 where
  pub device : ℕ
  pub below : device < cell_count g
  pub extents : map (local_extent g device) ds ≡ map (largest_local g) ds

-- some device has the largest part in each dimension
pub largest_device : (g : List ℕ) (ds : List Dimension) → IsGrid g → AllByRecursion (λ d. AreAxesOf (length g) d.axes) ds → AreAxesOf (length g) (axes_of ds) → HasLargest g ds
unfolding group_size_of
largest_device g ds ok each m =
    let some = cell_count-some g ok.positive in
    let all = axes_of ds in
    let at_all = largest_at g ds some each in
    let place = flat_of (on_axes all g) at_all.entries in
    let there : place < cell_count (on_axes all g) = flat_of-below (on_axes all g) at_all.entries at_all.within in
    let below = member_of-below g all 0 place some there in
    let entries : on_axes all (unflat_of g (member_of g all 0 place)) ≡ at_all.entries =
    on_axes-place_in g all (member_of g all 0 place) below m
    ∙ ap (unflat_of (on_axes all g)) (place_in-member_of g all 0 place some there m)
    ∙ unflat_of-flat_of (on_axes all g) at_all.entries at_all.within in
    record { device = member_of g all 0 place; below = below; extents = at_all.largest (member_of g all 0 place) below entries }

-- and the other way round
pub largest_fit : (s : ShardingValue) (most : ℕ) → IsGrid s.grid.extents → AreAxesOf (length s.grid.extents) (axes_of s.dimensions)
    → ((device : ℕ) → device < cell_count s.grid.extents → counted_cells (local_shape s device) ≤ most) → counted_cells (map (largest_local s.grid.extents) s.dimensions) ≤ most
largest_fit s most ok m fits =
    let largest = largest_device s.grid.extents s.dimensions ok (axes_of-each (length s.grid.extents) s.dimensions m) m in
    subst (λ ns. counted_cells ns ≤ most) largest.extents (fits largest.device largest.below)
