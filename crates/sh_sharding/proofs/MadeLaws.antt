-- Shardings that are made from others are admitted.
use Rattle.std.proofs.Common.{◌≡◌, ℕ, zero, suc, ◌+◌, ◌*◌, ◌%◌, ◌<◌, ◌≤◌, inl, inr, List, [], ◌∷◌, ◌++◌, length, get_or, map, max, set, true, false, refl, ap, sym, ◌∙◌, arith, subst}
use Rattle.std.specs.Prelude.{◌==◌, count_by}
use Rattle.std.specs.List.{All, AllByRecursion}
use Rattle.std.proofs.lemmas.Nat.{mul-le}
use Rattle.std.proofs.lemmas.List.{length-map, length-set}
use Rattle.std.proofs.lemmas.List.Elements.{All-append, All-cons}
use Rattle.sh_grid.specs.Grid.{GridValue, IsGrid, IsNoneOf, AreAxesOf, group_size_of}
use Rattle.sh_sharding.specs.declared.shardings.Mark.{Mark}
use Rattle.sh_sharding.specs.declared.shardings.Mark.TheVariants.{Balanced}
use Rattle.sh_sharding.specs.declared.shardings.Dimension.{Dimension}
use Rattle.sh_sharding.specs.Sharding.{ShardingValue, parts_of, size_in, local_extent, axes_of, unsplit, dimension_of, counted_cells, is_split, is_even, HasNoHalos, IsDivided, IsNormalMark, IsDimension, IsSharding}
use Rattle.sh_sharding.specs.Made.{plain, without_halos, IsPlain, IsInOrder, IsState, with_dimension, IsEvenOrWhole, StatesStay}
use Rattle.sh_sharding.proofs.AxisListLaws.{count-append, axes_below, listed_once, distinct_axes}
use Rattle.sh_sharding.proofs.HaloSizeLaws.{some_parts}
use Rattle.sh_sharding.proofs.EvenLaws.{even_dimension, is_even_dimension, group_size_of-push, divides_front}
use Rattle.sh_sharding.proofs.MarkLaws.{balanced_divided}
use Rattle.sh_sharding.proofs.PartLaws.{IsPlaced, are_placed, axes_of-each}
use Rattle.sh_sharding.proofs.ViewAdmissionLaws.{All-left, All-right, group_size_of-none}

-- ---- a halo-free value in order

plain_dimension : (g : List ℕ) (d : Dimension) → IsPlain g d → IsDimension g d
plain_dimension g d h =
    let none = h.low in
    let none_after = h.high in
    record {
      divided = h.divided;
      normal = h.normal;
      low = λ i l. omega arith;
      high = λ i l. omega arith;
      unsplit = λ e. let mark = h.whole e in λ j. record { extent = d.extent; axes = e j; mark = mark j; low = none j; high = none_after j };
    }

plain_dimensions : (g : List ℕ) (ds : List Dimension) → AllByRecursion (IsPlain g) ds → AllByRecursion (IsDimension g) ds
plain_dimensions g [] h = tt
plain_dimensions g (d ∷ ds) h = (plain_dimension g d h.0, plain_dimensions g ds h.1)

no_halos : (g : List ℕ) (ds : List Dimension) → AllByRecursion (IsPlain g) ds → HasNoHalos ds
no_halos g [] h = tt
no_halos g (d ∷ ds) h = ((h.0.low, h.0.high), no_halos g ds h.1)

-- without halos no local tensor has more cells than the whole
plain_cells : (g : List ℕ) (device : ℕ) (ds : List Dimension) → AllByRecursion (IsPlaced g device) ds → HasNoHalos ds → counted_cells (map (local_extent g device) ds) ≤ counted_cells (map (λ d. d.extent) ds)
unfolding local_extent
plain_cells g device [] placed none = omega arith
plain_cells g device (d ∷ ds) placed none =
    let fits = placed.0.fits in
    let low : d.low ≡ 0 = none.0.0 in
    let high : d.high ≡ 0 = none.0.1 in
    let first : max 1 (d.low + size_in g device d + d.high) ≤ max 1 d.extent = omega arith in
    mul-le (max 1 (d.low + size_in g device d + d.high)) (counted_cells (map (local_extent g device) ds)) (max 1 d.extent) (counted_cells (map (λ e. e.extent) ds)) first
    (plain_cells g device ds placed.1 none.1)

pub in_order : (s : ShardingValue) → IsInOrder s → IsState s
in_order s h =
    let g = s.grid.extents in
    let dimensions = plain_dimensions g s.dimensions h.dimensions in
    let none = no_halos g s.dimensions h.dimensions in
    record {
      sharding = record {
        grid = h.grid;
        axes = h.axes;
        dimensions = dimensions;
        short = h.short;
        one_mark = λ some. none;
        small = h.small;
        fits = λ device l.
            let cells = plain_cells g device s.dimensions (are_placed g device s.dimensions l (axes_of-each (length g) s.dimensions h.axes) dimensions) none in
            let small = h.small in
            omega arith;
      };
      plain = none;
    }

-- ---- without halos

bare_dimension : (g : List ℕ) (d : Dimension) → IsDimension g d → IsPlain g (plain d)
unfolding parts_of
bare_dimension g d h = record { divided = h.divided; normal = h.normal; low = refl; high = refl; whole = λ e. ap (λ x. x.mark) (h.unsplit e) }

bare_dimensions : (g : List ℕ) (ds : List Dimension) → AllByRecursion (IsDimension g) ds → AllByRecursion (IsPlain g) (map plain ds)
bare_dimensions g [] h = tt
bare_dimensions g (d ∷ ds) h = (bare_dimension g d h.0, bare_dimensions g ds h.1)

axes-plain : (ds : List Dimension) → axes_of (map plain ds) ≡ axes_of ds
axes-plain [] = refl
axes-plain (d ∷ ds) = ap (λ z. d.axes ++ z) (axes-plain ds)

extents-plain : (ds : List Dimension) → map (λ d. d.extent) (map plain ds) ≡ map (λ d. d.extent) ds
extents-plain [] = refl
extents-plain (d ∷ ds) = ap (λ z. d.extent ∷ z) (extents-plain ds)

pub made_plain : (s : ShardingValue) → IsSharding s → IsState (without_halos s)
made_plain s h =
    let short = h.short in
    in_order (without_halos s) (record {
      grid = h.grid;
      axes = subst (AreAxesOf (length s.grid.extents)) (sym (axes-plain s.dimensions)) h.axes;
      dimensions = bare_dimensions s.grid.extents s.dimensions h.dimensions;
      short = omega (arith, length-map s.dimensions plain);
      small = rw (extents-plain s.dimensions) h.small;
    })

pub made_plain_at : (s : ShardingValue) (grid : GridValue) (ds : List Dimension) → IsSharding s → grid ≡ s.grid → ds ≡ map plain s.dimensions → IsSharding (record { grid = grid; dimensions = ds })
made_plain_at s grid ds h eg ed =
    let same : without_halos s ≡ record { grid = grid; dimensions = ds } = λ j. record { grid = sym eg j; dimensions = sym ed j } in
    subst IsSharding same (made_plain s h).sharding

-- ---- another dimension in place of one

state_dimension : (g : List ℕ) (d : Dimension) → IsDimension g d → (d.low ≡ 0) × (d.high ≡ 0) → IsPlain g d
state_dimension g d h none = record { divided = h.divided; normal = h.normal; low = none.0; high = none.1; whole = λ e. ap (λ x. x.mark) (h.unsplit e) }

state_dimensions : (g : List ℕ) (ds : List Dimension) → AllByRecursion (IsDimension g) ds → HasNoHalos ds → AllByRecursion (IsPlain g) ds
state_dimensions g [] h none = tt
state_dimensions g (d ∷ ds) h none = (state_dimension g d h.0 none.0, state_dimensions g ds h.1 none.1)

each_set : {X : Type 0} (P : X → Type 0) (xs : List X) (i : ℕ) (x : X) → AllByRecursion P xs → P x → AllByRecursion P (set xs i x)
each_set P [] i x h p = tt
each_set P (y ∷ xs) zero x h p = (p, h.1)
each_set P (y ∷ xs) (suc i) x h p = (h.0, each_set P xs i x h.1 p)

each_get : {X : Type 0} (P : X → Type 0) (xs : List X) (i : ℕ) (d : X) → AllByRecursion P xs → i < length xs → P (get_or xs i d)
each_get P [] i d h l = absurd (omega arith)
each_get P (y ∷ xs) zero d h l = h.0
each_get P (y ∷ xs) (suc i) d h l = each_get P xs i d h.1 (omega arith)

extents-set : (ds : List Dimension) (dim : ℕ) (d e : Dimension) → d.extent ≡ (get_or ds dim e).extent → map (λ x. x.extent) (set ds dim d) ≡ map (λ x. x.extent) ds
extents-set [] dim d e h = refl
extents-set (x ∷ ds) zero d e h = ap (λ n. n ∷ map (λ y. y.extent) ds) h
extents-set (x ∷ ds) (suc dim) d e h = ap (λ ns. x.extent ∷ ns) (extents-set ds dim d e h)

-- how often an axis is listed afterwards
count-set : (a : ℕ) (ds : List Dimension) (dim : ℕ) (d e : Dimension) → dim < length ds
    → count_by (λ b. b == a) (axes_of (set ds dim d)) + count_by (λ b. b == a) (get_or ds dim e).axes ≡ count_by (λ b. b == a) (axes_of ds) + count_by (λ b. b == a) d.axes
count-set a [] dim d e l = absurd (omega arith)
count-set a (x ∷ ds) zero d e l =
    let after = count-append a d.axes (axes_of ds) in
    let before = count-append a x.axes (axes_of ds) in
    omega arith
count-set a (x ∷ ds) (suc dim) d e l =
    let after = count-append a x.axes (axes_of (set ds dim d)) in
    let before = count-append a x.axes (axes_of ds) in
    let rec = count-set a ds dim d e (omega arith) in
    omega arith

below-set : (rank : ℕ) (ds : List Dimension) (dim : ℕ) (d : Dimension) → All (λ a. a < rank) (axes_of ds) → All (λ a. a < rank) d.axes → All (λ a. a < rank) (axes_of (set ds dim d))
below-set rank [] dim d h k = h
below-set rank (x ∷ ds) zero d h k = All-append (λ a. a < rank) d.axes (axes_of ds) k (All-right (λ a. a < rank) x.axes (axes_of ds) h)
below-set rank (x ∷ ds) (suc dim) d h k =
    All-append (λ a. a < rank) x.axes (axes_of (set ds dim d)) (All-left (λ a. a < rank) x.axes (axes_of ds) h) (below-set rank ds dim d (All-right (λ a. a < rank) x.axes (axes_of ds) h) k)

below-at : (rank : ℕ) (ds : List Dimension) (dim : ℕ) (e : Dimension) → dim < length ds → All (λ a. a < rank) (axes_of ds) → All (λ a. a < rank) (get_or ds dim e).axes
below-at rank [] dim e l h = absurd (omega arith)
below-at rank (x ∷ ds) zero e l h = All-left (λ a. a < rank) x.axes (axes_of ds) h
below-at rank (x ∷ ds) (suc dim) e l h = below-at rank ds dim e (omega arith) (All-right (λ a. a < rank) x.axes (axes_of ds) h)

-- what is asked of the new dimension
pub record IsPlaceable (s : ShardingValue) (dim : ℕ) (d : Dimension) : Type 0 where
  pub extent : d.extent ≡ (dimension_of s dim).extent
  pub plain : IsPlain s.grid.extents d
  pub below : All (λ a. a < length s.grid.extents) d.axes
  pub once : (a : ℕ) → count_by (λ b. b == a) (axes_of s.dimensions) + count_by (λ b. b == a) d.axes ≤ 1 + count_by (λ b. b == a) (dimension_of s dim).axes

placed_dimension : (s : ShardingValue) (dim : ℕ) (d : Dimension) → IsState s → dim < length s.dimensions → IsPlaceable s dim d → IsState (with_dimension s dim d)
placed_dimension s dim d h l new =
    let g = s.grid.extents in
    let rank = length g in
    let ok = h.sharding in
    let short = ok.short in
    in_order (with_dimension s dim d) (record {
      grid = ok.grid;
      axes = distinct_axes rank (axes_of (set s.dimensions dim d)) (below-set rank s.dimensions dim d (axes_below rank (axes_of s.dimensions) ok.axes) new.below)
          (λ a.
          let count = count-set a s.dimensions dim d (unsplit 0) l in
          let once = new.once a in
          omega arith);
      dimensions = each_set (IsPlain g) s.dimensions dim d (state_dimensions g s.dimensions ok.dimensions h.plain) new.plain;
      short = omega (arith, length-set s.dimensions dim d);
      small = rw (extents-set s.dimensions dim d (unsplit 0) new.extent) ok.small;
    })

-- what is known of the dimension in whose place it comes
record IsAt (s : ShardingValue) (dim : ℕ) : Type 0 where
  pub plain : IsPlain s.grid.extents (dimension_of s dim)
  pub axes : AreAxesOf (length s.grid.extents) (dimension_of s dim).axes

is_at : (s : ShardingValue) (dim : ℕ) → IsState s → dim < length s.dimensions → IsAt s dim
is_at s dim h l = record {
  plain = each_get (IsPlain s.grid.extents) s.dimensions dim (unsplit 0) (state_dimensions s.grid.extents s.dimensions h.sharding.dimensions h.plain) l;
  axes = each_get (λ d. AreAxesOf (length s.grid.extents) d.axes) s.dimensions dim (unsplit 0) (axes_of-each (length s.grid.extents) s.dimensions h.sharding.axes) l;
}

once_in : (s : ShardingValue) (a : ℕ) → IsState s → count_by (λ b. b == a) (axes_of s.dimensions) ≤ 1
once_in s a h = listed_once (length s.grid.extents) a (axes_of s.dimensions) h.sharding.axes

-- a balanced dimension with other axes
balanced_plain : (g : List ℕ) (d : Dimension) (axes : List ℕ) → d.mark ≡ Balanced → d.low ≡ 0 → d.high ≡ 0 → 0 < group_size_of g axes → IsPlain g (record d { axes = axes })
unfolding parts_of
balanced_plain g d axes mark low high some = record {
  divided = subst (IsDivided d.extent (group_size_of g axes)) (sym mark) (balanced_divided d.extent (group_size_of g axes) some);
  normal = subst (IsNormalMark d.extent (group_size_of g axes)) (sym mark) tt;
  low = low;
  high = high;
  whole = λ e. mark;
}

some_along : (g axes : List ℕ) → IsGrid g → AreAxesOf (length g) axes → 0 < group_size_of g axes
unfolding parts_of
some_along g axes ok m = some_parts g (record (unsplit 0) { axes = axes }) ok m

-- ---- the changes

-- an axis is dropped
record IsDropping (s : ShardingValue) (dim : ℕ) (front : List ℕ) : Type 0 where
  pub state : IsState (with_dimension s dim (record (dimension_of s dim) { axes = front }))
  pub even : IsEvenOrWhole s.grid.extents (record (dimension_of s dim) { axes = front })

front_axes : (rank : ℕ) (front : List ℕ) (last : ℕ) → AreAxesOf rank (front ++ last ∷ []) → AreAxesOf rank front
front_axes rank front last m =
    distinct_axes rank front (All-left (λ a. a < rank) front (last ∷ []) (axes_below rank (front ++ last ∷ []) m))
    (λ a.
    let once = listed_once rank a (front ++ last ∷ []) m in
    let count = count-append a front (last ∷ []) in
    omega arith)

still_even : (g : List ℕ) (d : Dimension) (front : List ℕ) (last : ℕ) → IsGrid g → AreAxesOf (length g) (front ++ last ∷ []) → d.mark ≡ Balanced → d.extent % group_size_of g (front ++ last ∷ []) ≡ 0
    → IsEvenOrWhole g (record d { axes = front })
unfolding parts_of
still_even g d [] last ok m mark h = inr refl
still_even g d (x ∷ front) last ok m mark h =
    let axes = x ∷ front in
    let product = group_size_of-push g axes last in
    let some = some_along g axes ok (front_axes (length g) axes last m) in
    let all : 0 < group_size_of g axes * get_or g last 0 = subst (λ n. 0 < n) product (some_along g (axes ++ last ∷ []) ok m) in
    let divides : d.extent % group_size_of g axes ≡ 0 = divides_front d.extent (group_size_of g axes) (get_or g last 0) some all (sym (ap (λ n. d.extent % n) product) ∙ h) in
    inl (is_even_dimension g (record d { axes = axes }) (record { split = refl; balanced = mark; divisible = divides }))

drop_axis : (s : ShardingValue) (dim : ℕ) (front : List ℕ) (last : ℕ) → IsState s → dim < length s.dimensions → is_even s.grid.extents (dimension_of s dim) ≡ true → (dimension_of s dim).axes ≡ front ++ last ∷ []
    → IsDropping s dim front
unfolding parts_of
drop_axis s dim front last h l even e =
    let g = s.grid.extents in
    let rank = length g in
    let d = dimension_of s dim in
    let at = is_at s dim h l in
    let is = even_dimension g d even in
    let m : AreAxesOf rank (front ++ last ∷ []) = subst (AreAxesOf rank) e at.axes in
    let own = front_axes rank front last m in
    record {
      state = placed_dimension s dim (record d { axes = front }) h l (record {
        extent = refl;
        plain = balanced_plain g d front is.balanced at.plain.low at.plain.high (some_along g front h.sharding.grid own);
        below = axes_below rank front own;
        once = λ a.
            let few = once_in s a h in
            let count = count-append a front (last ∷ []) in
            let same : count_by (λ b. b == a) d.axes ≡ count_by (λ b. b == a) (front ++ last ∷ []) = ap (count_by (λ b. b == a)) e in
            omega arith;
      });
      even = still_even g d front last h.sharding.grid m is.balanced (sym (ap (λ axes. d.extent % group_size_of g axes) e) ∙ is.divisible);
    }

append_axis : (s : ShardingValue) (dim axis : ℕ) → IsState s → dim < length s.dimensions → axis < length s.grid.extents → IsNoneOf axis (axes_of s.dimensions)
    → is_even s.grid.extents (record (dimension_of s dim) { axes = (dimension_of s dim).axes ++ axis ∷ [] }) ≡ true
    → IsState (with_dimension s dim (record (dimension_of s dim) { axes = (dimension_of s dim).axes ++ axis ∷ [] }))
append_axis s dim axis h l below unused even =
    let g = s.grid.extents in
    let rank = length g in
    let d = dimension_of s dim in
    let at = is_at s dim h l in
    let axes = d.axes ++ axis ∷ [] in
    let is = even_dimension g (record d { axes = axes }) even in
    let one : All (λ a. a < rank) (axis ∷ []) = All-cons (λ a. a < rank) axis [] below (λ k x m. absurd (omega arith)) in
    let all = All-append (λ a. a < rank) d.axes (axis ∷ []) (axes_below rank d.axes at.axes) one in
    let used : (a : ℕ) → count_by (λ b. b == a) (axis ∷ []) + count_by (λ b. b == a) (axes_of s.dimensions) ≤ 1 =
    λ a. let few = listed_once rank a (axis ∷ axes_of s.dimensions) (below, unused, h.sharding.axes) in let count = count-append a (axis ∷ []) (axes_of s.dimensions) in omega arith in
    let at_most : (a : ℕ) → count_by (λ b. b == a) d.axes ≤ count_by (λ b. b == a) (axes_of s.dimensions) = λ a. count-at a s.dimensions dim (unsplit 0) l in
    let own = distinct_axes rank axes all (λ a.
    let few = used a in
    let most = at_most a in
    let count = count-append a d.axes (axis ∷ []) in
    omega arith) in
    placed_dimension s dim (record d { axes = axes }) h l (record {
      extent = refl;
      plain = balanced_plain g d axes is.balanced at.plain.low at.plain.high (some_along g axes h.sharding.grid own);
      below = all;
      once = λ a. let few = used a in let count = count-append a d.axes (axis ∷ []) in omega arith;
    })
  where
    count-at : (a : ℕ) (ds : List Dimension) (dim : ℕ) (e : Dimension) → dim < length ds → count_by (λ b. b == a) (get_or ds dim e).axes ≤ count_by (λ b. b == a) (axes_of ds)
    count-at a [] dim e l = absurd (omega arith)
    count-at a (x ∷ ds) zero e l = omega (arith, count-append a x.axes (axes_of ds))
    count-at a (x ∷ ds) (suc dim) e l = let rec = count-at a ds dim e (omega arith) in omega (arith, count-append a x.axes (axes_of ds))

gather : (s : ShardingValue) (dim : ℕ) → IsState s → dim < length s.dimensions → IsState (with_dimension s dim (unsplit (dimension_of s dim).extent))
gather s dim h l =
    let g = s.grid.extents in
    let n = (dimension_of s dim).extent in
    let one : 0 < group_size_of g [] = let e = group_size_of-none g [] refl in omega arith in
    placed_dimension s dim (unsplit n) h l (record {
      extent = refl;
      plain = balanced_plain g (unsplit n) [] refl refl refl one;
      below = λ k d m. absurd (omega arith);
      once = λ a. let few = once_in s a h in let none : count_by (λ b. b == a) [] ≡ 0 = refl in omega arith;
    })

split_by : (s : ShardingValue) (dim a : ℕ) (axes : List ℕ) (mark : Mark) → IsState s → dim < length s.dimensions → is_split (dimension_of s dim) ≡ false
    → AreAxesOf (length s.grid.extents) ((a ∷ axes) ++ axes_of s.dimensions)
    → IsDivided (dimension_of s dim).extent (group_size_of s.grid.extents (a ∷ axes)) mark → IsNormalMark (dimension_of s dim).extent (group_size_of s.grid.extents (a ∷ axes)) mark
    → IsState (with_dimension s dim (record (dimension_of s dim) { axes = a ∷ axes; mark = mark }))
unfolding parts_of
split_by s dim a axes mark h l whole m divided normal =
    let g = s.grid.extents in
    let rank = length g in
    let d = dimension_of s dim in
    let at = is_at s dim h l in
    placed_dimension s dim (record d { axes = a ∷ axes; mark = mark }) h l (record {
      extent = refl;
      plain = record { divided = divided; normal = normal; low = at.plain.low; high = at.plain.high; whole = λ e. absurd (cc) };
      below = All-left (λ b. b < rank) (a ∷ axes) (axes_of s.dimensions) (axes_below rank ((a ∷ axes) ++ axes_of s.dimensions) m);
      once = λ b.
          let few = listed_once rank b ((a ∷ axes) ++ axes_of s.dimensions) m in
          let count = count-append b (a ∷ axes) (axes_of s.dimensions) in
          omega arith;
    })

pub states_stay : (s : ShardingValue) → IsState s → StatesStay s
states_stay s h = record {
  dropped = λ dim front last l even e. let is = drop_axis s dim front last h l even e in (is.state, is.even);
  appended = λ dim axis l below unused before even. append_axis s dim axis h l below unused even;
  gathered = λ dim l. gather s dim h l;
  split = λ dim a axes mark l whole m divided normal. split_by s dim a axes mark h l whole m divided normal;
}
