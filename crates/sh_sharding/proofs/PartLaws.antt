-- The parts of a dimension, and the part of a device.
use Rattle.std.proofs.Common.{◌≡◌, ℕ, zero, suc, ◌+◌, ◌*◌, ◌<◌, ◌≤◌, ◌⊎◌, List, [], ◌∷◌, ◌++◌, length, get_or, map, max, ap, ap₂, sym, ◌∙◌, arith, subst, inl, inr}
use Rattle.std.specs.List.{AllByRecursion}
use Rattle.std.proofs.lemmas.List.{get_or_read}
use Rattle.std.proofs.lemmas.Nat.{mul-le}
use Rattle.std.proofs.Math.Nat.{mul-le-mul_left, mul-le-mul_right}
use Rattle.sh_base.specs.Shape.{cell_count, max_cells}
use Rattle.sh_grid.specs.Grid.{IsGrid, IsNoneOf, AreAxesOf, group_size_of, place_in}
use Rattle.sh_base.specs.Limits.{max_devices}
use Rattle.sh_grid.proofs.GroupLaws.{place_in-below}
use Rattle.sh_sharding.specs.declared.shardings.Mark.{Mark}
use Rattle.sh_sharding.specs.declared.views.MarkView.{MarkView}
use Rattle.sh_sharding.specs.Views.{IsSeen, IsMarkView}
use Rattle.sh_sharding.proofs.ViewLaws.{is_shown}
use Rattle.sh_sharding.specs.declared.shardings.Dimension.{Dimension}
use Rattle.sh_sharding.specs.Sharding.{ShardingValue, offset_of, parts_of, part_of, offset_at, part_size, start_in, size_in, size_of_part, axes_of, unsplit, counted_cells, IsDivided, IsNormalMark, IsDimension, IsSharding}

-- ---- parts

le_cases : (i k : ℕ) → i ≤ suc k → (i ≤ k) ⊎ (i ≡ suc k)
le_cases i k h = grind arith

-- later parts begin no earlier
pub offset_of-rises : (n p : ℕ) (m : Mark) (i k : ℕ) → IsDivided n p m → i ≤ k → k ≤ p → offset_of n p m i ≤ offset_of n p m k
offset_of-rises n p m i zero h le within = let e : i ≡ zero = omega arith in subst (λ z. offset_of n p m i ≤ offset_of n p m z) e (omega arith)
offset_of-rises n p m i (suc k) h le within = elim (le_cases i k le) [
  | inl less ↦
      let rec : offset_of n p m i ≤ offset_of n p m k = offset_of-rises n p m i k h less (omega arith) in
      let step : offset_of n p m k ≤ offset_of n p m (k + 1) = h.rises k (omega arith) in
      let same : k + 1 ≡ suc k = omega arith in
      let step' : offset_of n p m k ≤ offset_of n p m (suc k) = subst (λ z. offset_of n p m k ≤ offset_of n p m z) same step in
      omega arith
  | inr same ↦ subst (λ z. offset_of n p m i ≤ offset_of n p m z) same (omega arith)
]

-- a part lies in the whole
pub offset_of-within : (n p : ℕ) (m : Mark) (i : ℕ) → IsDivided n p m → i ≤ p → offset_of n p m i ≤ n
offset_of-within n p m i h le = let most = offset_of-rises n p m i p h le (omega arith) in let ends = h.ends in omega arith

pub part-ends : (g : List ℕ) (d : Dimension) (i : ℕ) → IsDivided d.extent (parts_of g d) d.mark → i < parts_of g d
    → (offset_at g d i + part_size g d i ≡ offset_at g d (i + 1)) × (offset_at g d (i + 1) ≤ d.extent)
unfolding offset_at part_size size_of_part
part-ends g d i h l =
    let rise = h.rises i l in
    (omega arith, offset_of-within d.extent (parts_of g d) d.mark (i + 1) h (omega arith))

-- ---- lists of axes

AreAxesOf-left : (rank : ℕ) (xs ys : List ℕ) → AreAxesOf rank (xs ++ ys) → AreAxesOf rank xs
AreAxesOf-left rank [] ys h = tt
AreAxesOf-left rank (x ∷ xs) ys h = (h.0, IsNoneOf-left x xs ys h.1, AreAxesOf-left rank xs ys h.2)
  where
    IsNoneOf-left : (a : ℕ) (xs ys : List ℕ) → IsNoneOf a (xs ++ ys) → IsNoneOf a xs
    IsNoneOf-left a [] ys h = tt
    IsNoneOf-left a (x ∷ xs) ys h = (h.0, IsNoneOf-left a xs ys h.1)

AreAxesOf-right : (rank : ℕ) (xs ys : List ℕ) → AreAxesOf rank (xs ++ ys) → AreAxesOf rank ys
AreAxesOf-right rank [] ys h = h
AreAxesOf-right rank (x ∷ xs) ys h = AreAxesOf-right rank xs ys h.2

pub axes_of-each : (rank : ℕ) (ds : List Dimension) → AreAxesOf rank (axes_of ds) → AllByRecursion (λ d. AreAxesOf rank d.axes) ds
axes_of-each rank [] h = tt
axes_of-each rank (d ∷ ds) h = (AreAxesOf-left rank d.axes (axes_of ds) h, axes_of-each rank ds (AreAxesOf-right rank d.axes (axes_of ds) h))

-- ---- the part of a device

pub part_of-below : (g : List ℕ) (d : Dimension) (device : ℕ) → device < cell_count g → AreAxesOf (length g) d.axes → part_of g d device < parts_of g d
unfolding part_of parts_of
part_of-below g d device h m = place_in-below g d.axes device h m

-- where a device's part lies in a dimension
pub record IsPlaced (g : List ℕ) (device : ℕ) (d : Dimension) : Type 0 where
  pub below : part_of g d device < parts_of g d
  pub fits : start_in g device d + size_in g device d ≤ d.extent
  pub low : d.low ≤ size_in g device d
  pub high : d.high ≤ size_in g device d

is_placed : (g : List ℕ) (device : ℕ) (d : Dimension) → device < cell_count g → AreAxesOf (length g) d.axes → IsDimension g d → IsPlaced g device d
unfolding start_in size_in
is_placed g device d h m ok =
    let below = part_of-below g d device h m in
    let ends = part-ends g d (part_of g d device) ok.divided below in
    let e : offset_at g d (part_of g d device) + part_size g d (part_of g d device) ≡ offset_at g d (part_of g d device + 1) = ends.0 in
    let within : offset_at g d (part_of g d device + 1) ≤ d.extent = ends.1 in
    record { below = below; fits = omega arith; low = ok.low (part_of g d device) below; high = ok.high (part_of g d device) below }

pub are_placed : (g : List ℕ) (device : ℕ) (ds : List Dimension) → device < cell_count g → AllByRecursion (λ d. AreAxesOf (length g) d.axes) ds → AllByRecursion (IsDimension g) ds → AllByRecursion (IsPlaced g device) ds
are_placed g device [] h m ok = tt
are_placed g device (d ∷ ds) h m ok = (is_placed g device d h m.0 ok.0, are_placed g device ds h m.1 ok.1)

-- of each dimension of a sharding
pub placed : (s : ShardingValue) (device : ℕ) → IsSharding s → device < cell_count s.grid.extents → AllByRecursion (IsPlaced s.grid.extents device) s.dimensions
placed s device ok h = are_placed s.grid.extents device s.dimensions h (axes_of-each (length s.grid.extents) s.dimensions ok.axes) ok.dimensions

-- what the code reads of a dimension
pub record IsRead (s : ShardingValue) (dim : ℕ) (d : Dimension) : Type 0 where
  pub grid : IsGrid s.grid.extents
  pub value : d ≡ get_or s.dimensions dim (unsplit 0)
  pub axes : AreAxesOf (length s.grid.extents) d.axes
  pub admitted : IsDimension s.grid.extents d
  pub small : d.extent ≤ max_cells

-- an extent is at most the count of cells
pub extents_few : (ds : List Dimension) (top : ℕ) → counted_cells (map (λ d. d.extent) ds) ≤ top → AllByRecursion (λ d. d.extent ≤ top) ds
extents_few [] top h = tt
extents_few (d ∷ ds) top h =
    let some = counted_some (map (λ d. d.extent) ds) in
    let first : max 1 d.extent * 1 ≤ max 1 d.extent * counted_cells (map (λ d. d.extent) ds) = mul-le-mul_left (max 1 d.extent) some in
    let rest : 1 * counted_cells (map (λ d. d.extent) ds) ≤ max 1 d.extent * counted_cells (map (λ d. d.extent) ds) = mul-le-mul_right (counted_cells (map (λ d. d.extent) ds)) (omega arith) in
    (omega arith, extents_few ds top (omega arith))
  where
    counted_some : (s : List ℕ) → 1 ≤ counted_cells s
    counted_some [] = omega arith
    counted_some (n ∷ s) =
        let rec = counted_some s in
        let least : 1 * 1 ≤ max 1 n * counted_cells s = mul-le 1 1 (max 1 n) (counted_cells s) (omega arith) rec in
        omega arith

each_at : {X : Type 0} (P : X → Type 0) (xs : List X) (i : ℕ) (d : X) → AllByRecursion P xs → i < length xs → P (get_or xs i d)
each_at P [] i d h l = absurd (omega arith)
each_at P (x ∷ xs) zero d h l = h.0
each_at P (x ∷ xs) (suc i) d h l = each_at P xs i d h.1 (omega arith)

pub read_dimension : (s : ShardingValue) (dim : ℕ) (d : Dimension) → IsSharding s → dim < length s.dimensions → d ≡ get_or s.dimensions dim d → IsRead s dim d
read_dimension s dim d ok l e =
    let axes = each_at (λ x. AreAxesOf (length s.grid.extents) x.axes) s.dimensions dim d (axes_of-each (length s.grid.extents) s.dimensions ok.axes) l in
    let dimension = each_at (IsDimension s.grid.extents) s.dimensions dim d ok.dimensions l in
    record {
      grid = ok.grid;
      value = get_or_read s.dimensions dim d l e (unsplit 0);
      axes = subst (λ x. AreAxesOf (length s.grid.extents) x.axes) (sym e) axes;
      admitted = subst (IsDimension s.grid.extents) (sym e) dimension;
      small = subst (λ x. x.extent ≤ max_cells) (sym e) (each_at (λ x. x.extent ≤ max_cells) s.dimensions dim d (extents_few s.dimensions max_cells ok.small) l);
    }

-- ---- what the code computes

pub is_seen : (g : List ℕ) (d : Dimension) (p : ℕ) (view : MarkView) → IsDivided d.extent (parts_of g d) d.mark → IsNormalMark d.extent (parts_of g d) d.mark → p ≡ group_size_of g d.axes → 0 < p → p ≤ max_devices → IsMarkView view d.mark
    → IsSeen g d p view
unfolding parts_of offset_at part_size
is_seen g d p view divided normal e some few shown =
    let is = is_shown d.extent p view d.mark some few (subst (λ n. IsDivided d.extent n d.mark) (sym e) divided) (subst (λ n. IsNormalMark d.extent n d.mark) (sym e) normal) shown in
    record {
      dividing = is.dividing;
      parts = e;
      offset = λ i. ap₂ (λ n m. offset_of d.extent n m i) e is.mark;
      size = λ i. ap₂ (λ n m. size_of_part d.extent n m i) e is.mark;
    }

-- the span that the code computes
pub record IsSpan (g : List ℕ) (d : Dimension) (device from long : ℕ) : Type 0 where
  pub start : from ≡ start_in g device d
  pub size : long ≡ size_in g device d
  pub within : from + long ≤ d.extent
  pub low : d.low ≤ long
  pub high : d.high ≤ long

pub is_span : (g : List ℕ) (d : Dimension) (device part from size : ℕ) → device < cell_count g → AreAxesOf (length g) d.axes → IsDimension g d
    → part ≡ place_in g d.axes device → from ≡ offset_at g d part → size ≡ part_size g d part → IsSpan g d device from size
unfolding start_in size_in part_of
is_span g d device part from size h m ok e es ee =
    let at = is_placed g device d h m ok in
    let start' : from ≡ offset_at g d (place_in g d.axes device) = es ∙ ap (offset_at g d) e in
    let size' : size ≡ part_size g d (place_in g d.axes device) = ee ∙ ap (part_size g d) e in
    let fits : offset_at g d (place_in g d.axes device) + part_size g d (place_in g d.axes device) ≤ d.extent = at.fits in
    let low : d.low ≤ part_size g d (place_in g d.axes device) = at.low in
    let high : d.high ≤ part_size g d (place_in g d.axes device) = at.high in
    record { start = start'; size = size'; within = omega arith; low = omega arith; high = omega arith }

-- the same of a sharding whose fields the code reads
pub read_through : (v s : ShardingValue) (dim : ℕ) (d : Dimension) → v ≡ s → IsSharding v → dim < length s.dimensions → d ≡ get_or v.dimensions dim d → IsRead s dim d
read_through v s dim d e ok l read =
    let l' : dim < length v.dimensions = subst (λ z. dim < length z.dimensions) (sym e) l in
    subst (λ z. IsRead z dim d) e (read_dimension v dim d ok l' read)
