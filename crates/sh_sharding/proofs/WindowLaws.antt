-- A cut is what slicing and padding leave, one dimension after the other.
use Rattle.std.proofs.Common.{◌≡◌, ℕ, zero, suc, ◌+◌, ◌-◌, ◌*◌, ◌<◌, ◌≤◌, List, [], ◌∷◌, length, get_or, set, map, min, max, take, drop, replicate, Bool, true, false, refl, ap, ap₂, sym, ◌∙◌, arith, subst, inl, inr}
use Rattle.std.specs.List.{AllByRecursion}
use Rattle.std.specs.Prelude.{nat_le, nat_lt, ◌&&◌, if◌then◌else◌}
use Rattle.std.proofs.lemmas.Bool.Decides.{nat_tests}
use Rattle.std.proofs.lemmas.List.{set-set, set-get_or, length-set, get_or-set_same}
use Rattle.std.proofs.lemmas.Nat.{mul-le}
use Rattle.std.proofs.Math.Nat.{mul-le-mul_left, mul-le-mul_right}
use Rattle.sh_base.specs.declared.numbers.Cell.{Cell}
use Rattle.sh_base.specs.declared.numbers.Cell.TheVariants.{Undef}
use Rattle.sh_base.specs.Shape.{cell_count, IsIndexOf, flat_of, max_cells}
use Rattle.sh_base.proofs.IndexLaws.{IsIndexOf-set, IsIndexOf-entry, IsIndexOf-long, cell_count-set}
use Rattle.sh_tensor.specs.Tensor.{TensorValue, IsTensor, at, build, slice_of, CanJoin, IsLike, joined_shape, joined_at, concat_of}
use Rattle.sh_tensor.proofs.TensorLaws.{at-build, build-ext, build-at, is_build, IsTensor-build}
use Rattle.sh_grid.specs.Grid.{GridValue}
use Rattle.sh_base.specs.declared.numbers.Width.{Width}
use Rattle.sh_tensor.proofs.SliceLaws.{sliced_index as slice_within}
use Rattle.sh_sharding.specs.declared.shardings.Dimension.{Dimension}
use Rattle.sh_sharding.specs.Sharding.{ShardingValue, start_in, size_in, local_extent, local_shape, whole_of, counted_cells, unsplit, IsSharding}
use Rattle.sh_sharding.specs.Cut.{whole_index, is_inside, cut_cell, cut_of}
use Rattle.sh_sharding.specs.Windows.{from_in, end_in, taken_in, before_in, after_in, undefined_of, padded_cell, padded_of, sliced_shape, sliced_index, sliced_by, padded_shape, padded_index, is_taken, padded_by_cell, padded_by}
use Rattle.sh_sharding.proofs.PartLaws.{IsPlaced, placed}
use Rattle.sh_sharding.proofs.Cases.{and_left, and_right, le_from, lt_from, lt_or_le}

-- ---- slices

sliced_shape-none : (g : List ℕ) (c : ℕ) (ds : List Dimension) → sliced_shape g c 0 ds ≡ map (λ d. d.extent) ds
sliced_shape-none g c [] = refl
sliced_shape-none g c (d ∷ ds) = ap (λ z. d.extent ∷ z) (sliced_shape-none g c ds)

pub get_or-sliced_shape : (g : List ℕ) (c k : ℕ) (ds : List Dimension) (e : Dimension) → k < length ds → get_or (sliced_shape g c k ds) k 0 ≡ (get_or ds k e).extent
get_or-sliced_shape g c k [] e l = absurd (omega arith)
get_or-sliced_shape g c zero (d ∷ ds) e l = refl
get_or-sliced_shape g c (suc k) (d ∷ ds) e l = get_or-sliced_shape g c k ds e (omega arith)

pub length-sliced_shape : (g : List ℕ) (c k : ℕ) (ds : List Dimension) → length (sliced_shape g c k ds) ≡ length ds
length-sliced_shape g c k [] = refl
length-sliced_shape g c zero (d ∷ ds) = ap suc (length-sliced_shape g c zero ds)
length-sliced_shape g c (suc k) (d ∷ ds) = ap suc (length-sliced_shape g c k ds)

sliced_shape-more : (g : List ℕ) (c k : ℕ) (ds : List Dimension) (e : Dimension) → k < length ds → set (sliced_shape g c k ds) k (taken_in g c (get_or ds k e)) ≡ sliced_shape g c (suc k) ds
sliced_shape-more g c k [] e l = absurd (omega arith)
sliced_shape-more g c zero (d ∷ ds) e l = refl
sliced_shape-more g c (suc k) (d ∷ ds) e l = ap (λ z. taken_in g c d ∷ z) (sliced_shape-more g c k ds e (omega arith))

sliced_index-more : (g : List ℕ) (c k : ℕ) (ds : List Dimension) (e : Dimension) (i : List ℕ) → k < length ds → IsIndexOf (sliced_shape g c (suc k) ds) i
    → sliced_index g c k ds (set i k (from_in g c (get_or ds k e) + get_or i k 0)) ≡ sliced_index g c (suc k) ds i
sliced_index-more g c k [] e i l h = absurd (omega arith)
sliced_index-more g c k (d ∷ ds) e [] l h = absurd h
sliced_index-more g c zero (d ∷ ds) e (x ∷ i) l h = refl
sliced_index-more g c (suc k) (d ∷ ds) e (x ∷ i) l h = ap (λ z. (from_in g c d + x) ∷ z) (sliced_index-more g c k ds e i (omega arith) h.1)

-- before the first slice there is the tensor
pub sliced_by-none : (g : List ℕ) (c : ℕ) (ds : List Dimension) (t : TensorValue) → IsTensor t → t.shape ≡ map (λ d. d.extent) ds → sliced_by g c ds t 0 ≡ t
unfolding sliced_by
sliced_by-none g c ds t ok e =
    ap (λ s. build s t.width (λ i. at t i)) (sliced_shape-none g c ds ∙ sym e) ∙ build-at t ok

-- one slice more
pub sliced_by-more : (g : List ℕ) (c k : ℕ) (ds : List Dimension) (t : TensorValue) (e : Dimension) → k < length ds → from_in g c (get_or ds k e) + taken_in g c (get_or ds k e) ≤ (get_or ds k e).extent
    → slice_of (sliced_by g c ds t k) k (from_in g c (get_or ds k e)) (taken_in g c (get_or ds k e)) ≡ sliced_by g c ds t (suc k)
unfolding sliced_by
sliced_by-more g c k ds t e l fits =
    let d = get_or ds k e in
    let u = build (sliced_shape g c k ds) t.width (λ i. at t (sliced_index g c k ds i)) in
    let shapes = sliced_shape-more g c k ds e l in
    let long : k < length (sliced_shape g c k ds) = rw (length-sliced_shape g c k ds) l in
    let room : from_in g c d + taken_in g c d ≤ get_or (sliced_shape g c k ds) k 0 = rw (get_or-sliced_shape g c k ds e l) fits in
    ap (λ s. build s t.width (λ i. at u (set i k (from_in g c d + get_or i k 0)))) shapes
    ∙ build-ext (sliced_shape g c (suc k) ds) t.width (λ i. at u (set i k (from_in g c d + get_or i k 0))) (λ i. at t (sliced_index g c (suc k) ds i))
    (λ i h.
    let h' : IsIndexOf (set (sliced_shape g c k ds) k (taken_in g c d)) i = subst (λ s. IsIndexOf s i) (sym shapes) h in
    at-build (sliced_shape g c k ds) t.width (λ i. at t (sliced_index g c k ds i)) (set i k (from_in g c d + get_or i k 0))
    (slice_within (sliced_shape g c k ds) i k (from_in g c d) (taken_in g c d) long room h')
    ∙ ap (at t) (sliced_index-more g c k ds e i l h))

-- ---- a tensor with undefined cells around it

pub padded_shape-none : (g : List ℕ) (c : ℕ) (ds : List Dimension) → padded_shape g c 0 ds ≡ sliced_shape g c (length ds) ds
padded_shape-none g c [] = refl
padded_shape-none g c (d ∷ ds) = ap (λ z. taken_in g c d ∷ z) (padded_shape-none g c ds)

pub length-padded_shape : (g : List ℕ) (c k : ℕ) (ds : List Dimension) → length (padded_shape g c k ds) ≡ length ds
length-padded_shape g c k [] = refl
length-padded_shape g c zero (d ∷ ds) = ap suc (length-padded_shape g c zero ds)
length-padded_shape g c (suc k) (d ∷ ds) = ap suc (length-padded_shape g c k ds)

pub get_or-padded_shape : (g : List ℕ) (c k : ℕ) (ds : List Dimension) (e : Dimension) → k < length ds → get_or (padded_shape g c k ds) k 0 ≡ taken_in g c (get_or ds k e)
get_or-padded_shape g c k [] e l = absurd (omega arith)
get_or-padded_shape g c zero (d ∷ ds) e l = refl
get_or-padded_shape g c (suc k) (d ∷ ds) e l = get_or-padded_shape g c k ds e (omega arith)

pub padded_shape-more : (g : List ℕ) (c k : ℕ) (ds : List Dimension) (e : Dimension) → k < length ds
    → set (padded_shape g c k ds) k (before_in g c (get_or ds k e) + taken_in g c (get_or ds k e) + after_in g c (get_or ds k e)) ≡ padded_shape g c (suc k) ds
padded_shape-more g c k [] e l = absurd (omega arith)
padded_shape-more g c zero (d ∷ ds) e l = refl
padded_shape-more g c (suc k) (d ∷ ds) e l = ap (λ z. (before_in g c d + taken_in g c d + after_in g c d) ∷ z) (padded_shape-more g c k ds e (omega arith))

padded_index-more : (g : List ℕ) (c k : ℕ) (ds : List Dimension) (e : Dimension) (i : List ℕ) → k < length ds → IsIndexOf (padded_shape g c (suc k) ds) i
    → padded_index g c k ds (set i k (get_or i k 0 - before_in g c (get_or ds k e))) ≡ padded_index g c (suc k) ds i
padded_index-more g c k [] e i l h = absurd (omega arith)
padded_index-more g c k (d ∷ ds) e [] l h = absurd h
padded_index-more g c zero (d ∷ ds) e (x ∷ i) l h = refl
padded_index-more g c (suc k) (d ∷ ds) e (x ∷ i) l h = ap (λ z. (x - before_in g c d) ∷ z) (padded_index-more g c k ds e i (omega arith) h.1)

and_true : (a : Bool) → (a && true) ≡ a
and_true true = refl
and_true false = refl

and_swap : (a b c : Bool) → (a && (b && c)) ≡ (b && (a && c))
and_swap true b c = refl
and_swap false true c = refl
and_swap false false c = refl

is_taken-more : (g : List ℕ) (c k : ℕ) (ds : List Dimension) (e : Dimension) (i : List ℕ) → k < length ds → IsIndexOf (padded_shape g c (suc k) ds) i
    → (nat_le (before_in g c (get_or ds k e)) (get_or i k 0) && nat_lt (get_or i k 0 - before_in g c (get_or ds k e)) (taken_in g c (get_or ds k e))
    && is_taken g c k ds (set i k (get_or i k 0 - before_in g c (get_or ds k e))))
    ≡ is_taken g c (suc k) ds i
is_taken-more g c k [] e i l h = absurd (omega arith)
is_taken-more g c k (d ∷ ds) e [] l h = absurd h
is_taken-more g c zero (d ∷ ds) e (x ∷ i) l h = refl
is_taken-more g c (suc k) (d ∷ ds) e (x ∷ i) l h =
    let f = get_or ds k e in
    let here = nat_le (before_in g c f) (get_or i k 0) && nat_lt (get_or i k 0 - before_in g c f) (taken_in g c f) in
    let first = nat_le (before_in g c d) x && nat_lt (x - before_in g c d) (taken_in g c d) in
    let rest = is_taken g c k ds (set i k (get_or i k 0 - before_in g c f)) in
    and_swap here first rest ∙ ap (λ (b : Bool). first && b) (is_taken-more g c k ds e i (omega arith) h.1)

choose_both : (p q : Bool) (x y z : Cell) → (p ≡ true → x ≡ (if q then y else z)) → (if p then x else z) ≡ (if p && q then y else z)
choose_both true q x y z h = h refl
choose_both false true x y z h = refl
choose_both false false x y z h = refl

-- the index in the tensor that is padded
padded_within : (g : List ℕ) (c k : ℕ) (ds : List Dimension) (e : Dimension) (i : List ℕ) (y : ℕ) → k < length ds → IsIndexOf (padded_shape g c (suc k) ds) i → y < taken_in g c (get_or ds k e)
    → IsIndexOf (padded_shape g c k ds) (set i k y)
padded_within g c k ds e i y l h lt =
    let d = get_or ds k e in
    let s = padded_shape g c k ds in
    let more = padded_shape-more g c k ds e l in
    let extent = get_or-padded_shape g c k ds e l in
    let back : set (padded_shape g c (suc k) ds) k (taken_in g c d) ≡ s =
    ap (λ z. set z k (taken_in g c d)) (sym more)
    ∙ set-set s k (before_in g c d + taken_in g c d + after_in g c d) (taken_in g c d)
    ∙ ap (set s k) (sym extent)
    ∙ set-get_or s k 0 in
    subst (λ z. IsIndexOf z (set i k y)) back (IsIndexOf-set (padded_shape g c (suc k) ds) i k y (taken_in g c d) h lt)

padded_cell-more : (g : List ℕ) (c k : ℕ) (ds : List Dimension) (t : TensorValue) (e : Dimension) (i : List ℕ) → k < length ds → IsIndexOf (padded_shape g c (suc k) ds) i
    → (if nat_le (before_in g c (get_or ds k e)) (get_or i k 0) && nat_lt (get_or i k 0 - before_in g c (get_or ds k e)) (taken_in g c (get_or ds k e))
    then at (build (padded_shape g c k ds) t.width (padded_by_cell g c ds t k)) (set i k (get_or i k 0 - before_in g c (get_or ds k e))) else Undef)
    ≡ padded_by_cell g c ds t (suc k) i
padded_cell-more g c k ds t e i l h =
    let d = get_or ds k e in
    let y = get_or i k 0 - before_in g c d in
    let here = nat_le (before_in g c d) (get_or i k 0) && nat_lt y (taken_in g c d) in
    choose_both here (is_taken g c k ds (set i k y)) (at (build (padded_shape g c k ds) t.width (padded_by_cell g c ds t k)) (set i k y)) (at t (padded_index g c k ds (set i k y))) Undef
    (λ p.
    let lt : y < taken_in g c d = lt_from y (taken_in g c d) (and_right (nat_le (before_in g c d) (get_or i k 0)) (nat_lt y (taken_in g c d)) p) in
    at-build (padded_shape g c k ds) t.width (padded_by_cell g c ds t k) (set i k y) (padded_within g c k ds e i y l h lt))
    ∙ ap₂ (λ (b : Bool) (j : List ℕ). if b then at t j else Undef) (is_taken-more g c k ds e i l h) (padded_index-more g c k ds e i l h)

-- padding one dimension more
pub padded_by-more : (g : List ℕ) (c k : ℕ) (ds : List Dimension) (t : TensorValue) (e : Dimension) → k < length ds
    → padded_of (padded_by g c ds t k) k (before_in g c (get_or ds k e)) (after_in g c (get_or ds k e)) ≡ padded_by g c ds t (suc k)
unfolding padded_by padded_of padded_cell
padded_by-more g c k ds t e l =
    let d = get_or ds k e in
    let u = build (padded_shape g c k ds) t.width (padded_by_cell g c ds t k) in
    let extent = get_or-padded_shape g c k ds e l in
    let cell : ℕ → List ℕ → Cell = λ n i. if nat_le (before_in g c d) (get_or i k 0) && nat_lt (get_or i k 0 - before_in g c d) n then at u (set i k (get_or i k 0 - before_in g c d)) else Undef in
    ap (λ n. build (set (padded_shape g c k ds) k (before_in g c d + n + after_in g c d)) t.width (cell n)) extent
    ∙ ap (λ s. build s t.width (cell (taken_in g c d))) (padded_shape-more g c k ds e l)
    ∙ build-ext (padded_shape g c (suc k) ds) t.width (cell (taken_in g c d)) (padded_by_cell g c ds t (suc k))
    (λ i h. padded_cell-more g c k ds t e i l h)

-- before the first padding there is the sliced tensor
pub padded_by-none : (g : List ℕ) (c : ℕ) (ds : List Dimension) (t : TensorValue) → IsTensor t → t.shape ≡ sliced_shape g c (length ds) ds → padded_by g c ds t 0 ≡ t
unfolding padded_by
padded_by-none g c ds t ok e =
    ap (λ s. build s t.width (λ i. at t i)) (padded_shape-none g c ds ∙ sym e) ∙ build-at t ok

-- ---- the whole cut

-- one dimension of a cut by windows: where it lies, and how long it is
pub record IsWindow (g : List ℕ) (c : ℕ) (d : Dimension) : Type 0 where
  pub fits : from_in g c d + taken_in g c d ≤ d.extent
  pub extent : before_in g c d + taken_in g c d + after_in g c d ≡ local_extent g c d

pub is_window : (g : List ℕ) (c : ℕ) (d : Dimension) → IsPlaced g c d → IsWindow g c d
unfolding from_in end_in taken_in before_in after_in local_extent
is_window g c d ok =
    let fits = ok.fits in
    let low = ok.low in
    let high = ok.high in
    record { fits = omega arith; extent = omega arith }

padded_shape-all : (g : List ℕ) (c : ℕ) (ds : List Dimension) → AllByRecursion (IsPlaced g c) ds → padded_shape g c (length ds) ds ≡ map (local_extent g c) ds
padded_shape-all g c [] ok = refl
padded_shape-all g c (d ∷ ds) ok = ap₂ ◌∷◌ (is_window g c d ok.0).extent (padded_shape-all g c ds ok.1)

le_same : (a b m n : ℕ) → (a ≤ b → m ≤ n) → (m ≤ n → a ≤ b) → nat_le a b ≡ nat_le m n
le_same a b m n h k = grind (arith, nat_tests)

lt_same : (a b m n : ℕ) → (a < b → m < n) → (m < n → a < b) → nat_lt a b ≡ nat_lt m n
lt_same a b m n h k = grind (arith, nat_tests)

and_same : (p q r : Bool) → (p ≡ true → q ≡ r) → (p && q) ≡ (p && r)
and_same true q r h = h refl
and_same false true true h = refl
and_same false true false h = refl
and_same false false true h = refl
and_same false false false h = refl

-- a local index lies in what is sliced exactly where it stands in the whole
test_same : (start size low high extent x : ℕ) → start + size ≤ extent → low ≤ size → high ≤ size → x < low + size + high
    → (nat_le (low - start) x && nat_lt (x - (low - start)) (min (start + size + high) extent - (start - low)))
    ≡ (nat_le low (start + x) && nat_lt (start + x - low) extent)
test_same start size low high extent x fits l h lt =
    let begins : nat_le (low - start) x ≡ nat_le low (start + x) = le_same (low - start) x low (start + x) (λ a. omega arith) (λ a. omega arith) in
    ap (λ (b : Bool). b && nat_lt (x - (low - start)) (min (start + size + high) extent - (start - low))) begins
    ∙ and_same (nat_le low (start + x)) (nat_lt (x - (low - start)) (min (start + size + high) extent - (start - low))) (nat_lt (start + x - low) extent)
    (λ p.
    let le : low ≤ start + x = le_from low (start + x) p in
    lt_same (x - (low - start)) (min (start + size + high) extent - (start - low)) (start + x - low) extent (λ a. omega arith) (λ a. omega arith))

window_test : (g : List ℕ) (c : ℕ) (d : Dimension) (x : ℕ) → IsPlaced g c d → x < local_extent g c d
    → (nat_le (before_in g c d) x && nat_lt (x - before_in g c d) (taken_in g c d)) ≡ (nat_le d.low (start_in g c d + x) && nat_lt (start_in g c d + x - d.low) d.extent)
unfolding from_in end_in taken_in before_in local_extent
window_test g c d x ok h = test_same (start_in g c d) (size_in g c d) d.low d.high d.extent x ok.fits ok.low ok.high h

window_entry : (g : List ℕ) (c : ℕ) (d : Dimension) (x : ℕ) → d.low ≤ start_in g c d + x → from_in g c d + (x - before_in g c d) ≡ start_in g c d + x - d.low
unfolding from_in before_in
window_entry g c d x h = omega arith

window_index : (g : List ℕ) (c : ℕ) (ds : List Dimension) (j : List ℕ) → IsIndexOf (map (local_extent g c) ds) j → is_inside g c ds j ≡ true
    → sliced_index g c (length ds) ds (padded_index g c (length ds) ds j) ≡ whole_index g c ds j
window_index g c [] [] h inside = refl
window_index g c [] (x ∷ j) h inside = absurd h
window_index g c (d ∷ ds) [] h inside = absurd h
window_index g c (d ∷ ds) (x ∷ j) h inside =
    let first = nat_le d.low (start_in g c d + x) && nat_lt (start_in g c d + x - d.low) d.extent in
    let here : first ≡ true = and_left first (is_inside g c ds j) inside in
    let rest : is_inside g c ds j ≡ true = and_right first (is_inside g c ds j) inside in
    let le : d.low ≤ start_in g c d + x = le_from d.low (start_in g c d + x) (and_left (nat_le d.low (start_in g c d + x)) (nat_lt (start_in g c d + x - d.low) d.extent) here) in
    ap₂ ◌∷◌ (window_entry g c d x le) (window_index g c ds j h.1 rest)

window_inside : (g : List ℕ) (c : ℕ) (ds : List Dimension) (j : List ℕ) → AllByRecursion (IsPlaced g c) ds → IsIndexOf (map (local_extent g c) ds) j
    → is_taken g c (length ds) ds j ≡ is_inside g c ds j
window_inside g c [] [] ok h = refl
window_inside g c [] (x ∷ j) ok h = absurd h
window_inside g c (d ∷ ds) [] ok h = absurd h
window_inside g c (d ∷ ds) (x ∷ j) ok h =
    ap₂ (λ (a b : Bool). a && b) (window_test g c d x ok.0 h.0) (window_inside g c ds j ok.1 h.1)

-- the index of the sliced tensor
taken_index : (g : List ℕ) (c : ℕ) (ds : List Dimension) (j : List ℕ) → IsIndexOf (map (local_extent g c) ds) j → is_taken g c (length ds) ds j ≡ true
    → IsIndexOf (sliced_shape g c (length ds) ds) (padded_index g c (length ds) ds j)
taken_index g c [] [] h inside = tt
taken_index g c [] (x ∷ j) h inside = absurd h
taken_index g c (d ∷ ds) [] h inside = absurd h
taken_index g c (d ∷ ds) (x ∷ j) h inside =
    let first = nat_le (before_in g c d) x && nat_lt (x - before_in g c d) (taken_in g c d) in
    let here : first ≡ true = and_left first (is_taken g c (length ds) ds j) inside in (
      lt_from (x - before_in g c d) (taken_in g c d) (and_right (nat_le (before_in g c d) x) (nat_lt (x - before_in g c d) (taken_in g c d)) here),
      taken_index g c ds j h.1 (and_right first (is_taken g c (length ds) ds j) inside),
    )

choose_same : (p q : Bool) (x y : Cell) → p ≡ q → (q ≡ true → x ≡ y) → (if p then x else Undef) ≡ (if q then y else Undef)
choose_same true true x y e h = h refl
choose_same true false x y e h = absurd (cc)
choose_same false true x y e h = absurd (cc)
choose_same false false x y e h = refl

-- After all dimensions are sliced and padded there is the cut.
pub windows_cut : (s : ShardingValue) (t : TensorValue) (c : ℕ) → IsSharding s → c < cell_count s.grid.extents
    → padded_by s.grid.extents c s.dimensions (sliced_by s.grid.extents c s.dimensions t (length s.dimensions)) (length s.dimensions) ≡ cut_of s t c
unfolding padded_by sliced_by cut_of
windows_cut s t c ok l =
    let g = s.grid.extents in
    let ds = s.dimensions in
    let at_device = placed s c ok l in
    let u = build (sliced_shape g c (length ds) ds) t.width (λ i. at t (sliced_index g c (length ds) ds i)) in
    ap (λ z. build z t.width (padded_by_cell g c ds u (length ds))) (padded_shape-all g c ds at_device)
    ∙ build-ext (local_shape s c) t.width (padded_by_cell g c ds u (length ds)) (cut_cell s t c)
    (λ j h.
    let same = window_inside g c ds j at_device h in
    choose_same (is_taken g c (length ds) ds j) (is_inside g c ds j) (at u (padded_index g c (length ds) ds j)) (at t (whole_index g c ds j)) same
    (λ inside.
    at-build (sliced_shape g c (length ds) ds) t.width (λ i. at t (sliced_index g c (length ds) ds i)) (padded_index g c (length ds) ds j) (taken_index g c ds j h (same ∙ inside))
    ∙ ap (at t) (window_index g c ds j h inside)))

-- ---- sizes

le_max : (n : ℕ) → n ≤ max 1 n
le_max n = omega arith

-- each padded extent is at most a local one
padded_shape-le : (g : List ℕ) (c k : ℕ) (ds : List Dimension) → AllByRecursion (IsPlaced g c) ds → cell_count (padded_shape g c k ds) ≤ counted_cells (map (local_extent g c) ds)
padded_shape-le g c k [] ok = omega arith
padded_shape-le g c zero (d ∷ ds) ok =
    let rec = padded_shape-le g c zero ds ok.1 in
    let window = (is_window g c d ok.0).extent in
    mul-le (taken_in g c d) (cell_count (padded_shape g c zero ds)) (max 1 (local_extent g c d)) (counted_cells (map (local_extent g c) ds)) (omega arith) rec
padded_shape-le g c (suc k) (d ∷ ds) ok =
    let rec = padded_shape-le g c k ds ok.1 in
    let window = (is_window g c d ok.0).extent in
    mul-le (before_in g c d + taken_in g c d + after_in g c d) (cell_count (padded_shape g c k ds)) (max 1 (local_extent g c d)) (counted_cells (map (local_extent g c) ds)) (omega arith) rec

-- what the code asks when it pads dimension k of a cut
pub padded_small : (s : ShardingValue) (c k : ℕ) → IsSharding s → c < cell_count s.grid.extents → cell_count (padded_shape s.grid.extents c k s.dimensions) ≤ max_cells
padded_small s c k ok l =
    let le = padded_shape-le s.grid.extents c k s.dimensions (placed s c ok l) in
    let fits = ok.fits c l in
    omega arith

-- ---- what the code asks and leaves at each dimension

slice_all : (t : TensorValue) (a start size : ℕ) (i : List ℕ) → start ≡ 0 → at t i ≡ at t (set i a (start + get_or i a 0))
slice_all t a start size i e =
    let entry : start + get_or i a 0 ≡ get_or i a 0 = omega arith in
    ap (at t) (sym (ap (set i a) entry ∙ set-get_or i a 0))

-- a slice that takes all is the tensor
pub slice_of-all : (t : TensorValue) (a start size : ℕ) → IsTensor t → start + size ≤ get_or t.shape a 0 → size ≡ get_or t.shape a 0 → t ≡ slice_of t a start size
slice_of-all t a start size ok fits e =
    let none : start ≡ 0 = omega arith in
    let f : List ℕ → Cell = λ i. at t (set i a (start + get_or i a 0)) in
    is_build t f ok.counted (λ i l. slice_all t a start size i none)
    ∙ ap (λ s. build s t.width f) (sym (ap (set t.shape a) e ∙ set-get_or t.shape a 0))

shape-sliced_by : (g : List ℕ) (c k : ℕ) (ds : List Dimension) (t : TensorValue) → (sliced_by g c ds t k).shape ≡ sliced_shape g c k ds
unfolding sliced_by
shape-sliced_by g c k ds t = refl

pub record IsSliceStep (g : List ℕ) (c : ℕ) (ds : List Dimension) (t : TensorValue) (k : ℕ) (part : TensorValue) (from taken : ℕ) : Type 0 where
  pub ranked : k < length part.shape
  pub within : from + taken ≤ get_or part.shape k 0
  pub next : slice_of part k from taken ≡ sliced_by g c ds t (k + 1)

pub slice_step : (g : List ℕ) (c : ℕ) (ds : List Dimension) (t : TensorValue) (k : ℕ) (part : TensorValue) (d : Dimension) (from taken : ℕ) → k < length ds → part ≡ sliced_by g c ds t k
    → d ≡ get_or ds k (unsplit 0) → from ≡ from_in g c d → taken ≡ taken_in g c d → from + taken ≤ d.extent → IsSliceStep g c ds t k part from taken
slice_step g c ds t k part d from taken l e ed ef et fits =
    let f = get_or ds k (unsplit 0) in
    let ef' : from ≡ from_in g c f = ef ∙ ap (from_in g c) ed in
    let et' : taken ≡ taken_in g c f = et ∙ ap (taken_in g c) ed in
    let within : from + taken ≤ f.extent = subst (λ x. from + taken ≤ x.extent) ed fits in
    let shape : part.shape ≡ sliced_shape g c k ds = ap (λ z. z.shape) e ∙ shape-sliced_by g c k ds t in
    let fits' : from_in g c f + taken_in g c f ≤ f.extent = omega arith in
    record {
      ranked = rw (shape, length-sliced_shape g c k ds) l;
      within = rw (shape, get_or-sliced_shape g c k ds (unsplit 0) l) within;
      next =
          ap (λ z. slice_of z k from taken) e
          ∙ ap₂ (λ a b. slice_of (sliced_by g c ds t k) k a b) ef' et'
          ∙ sliced_by-more g c k ds t (unsplit 0) l fits'
          ∙ ap (sliced_by g c ds t) (omega arith);
    }

sliced_index-within : (g : List ℕ) (c k : ℕ) (ds : List Dimension) (i : List ℕ) → AllByRecursion (IsPlaced g c) ds → IsIndexOf (sliced_shape g c k ds) i → IsIndexOf (map (λ d. d.extent) ds) (sliced_index g c k ds i)
sliced_index-within g c zero ds i ok h = subst (λ s. IsIndexOf s i) (sliced_shape-none g c ds) h
sliced_index-within g c (suc k) [] i ok h = h
sliced_index-within g c (suc k) (d ∷ ds) [] ok h = absurd h
sliced_index-within g c (suc k) (d ∷ ds) (x ∷ i) ok h =
    let window = is_window g c d ok.0 in
    let fits = window.fits in
    let below : x < taken_in g c d = h.0 in
    (omega arith, sliced_index-within g c k ds i ok.1 h.1)

IsTensor-sliced_by : (g : List ℕ) (c k : ℕ) (ds : List Dimension) (t : TensorValue) → AllByRecursion (IsPlaced g c) ds → IsTensor t → t.shape ≡ map (λ d. d.extent) ds → IsTensor (sliced_by g c ds t k)
unfolding sliced_by
IsTensor-sliced_by g c k ds t ok whole e =
    IsTensor-build (sliced_shape g c k ds) t.width (λ i. at t (sliced_index g c k ds i))
    (λ i h. whole.fitting (sliced_index g c k ds i) (subst (λ s. IsIndexOf s (sliced_index g c k ds i)) (sym e) (sliced_index-within g c k ds i ok h)))

pub padded_start : (s : ShardingValue) (g : GridValue) (c : ℕ) (t : TensorValue) → IsSharding s → s.grid ≡ g → c < cell_count g.extents → IsTensor t → t.shape ≡ whole_of s
    → padded_by g.extents c s.dimensions (sliced_by g.extents c s.dimensions t (length s.dimensions)) 0 ≡ sliced_by g.extents c s.dimensions t (length s.dimensions)
padded_start s g c t ok e l whole shape =
    let l' : c < cell_count s.grid.extents = subst (λ h. c < cell_count h.extents) (sym e) l in
    let at_device : AllByRecursion (IsPlaced g.extents c) s.dimensions = subst (λ h. AllByRecursion (IsPlaced h.extents c) s.dimensions) e (placed s c ok l') in
    padded_by-none g.extents c s.dimensions (sliced_by g.extents c s.dimensions t (length s.dimensions))
    (IsTensor-sliced_by g.extents c (length s.dimensions) s.dimensions t at_device whole shape)
    (shape-sliced_by g.extents c (length s.dimensions) s.dimensions t)

shape-padded_by : (g : List ℕ) (c k : ℕ) (ds : List Dimension) (t : TensorValue) → (padded_by g c ds t k).shape ≡ padded_shape g c k ds
unfolding padded_by
shape-padded_by g c k ds t = refl

pub record IsPadStep (g : List ℕ) (c : ℕ) (ds : List Dimension) (u : TensorValue) (k : ℕ) (part : TensorValue) (before after : ℕ) : Type 0 where
  pub ranked : k < length part.shape
  pub extent : before + get_or part.shape k 0 + after ≤ (3 * max_cells)
  pub small : cell_count (set part.shape k (before + get_or part.shape k 0 + after)) ≤ max_cells
  pub next : padded_of part k before after ≡ padded_by g c ds u (k + 1)

pub pad_step : (s : ShardingValue) (g : GridValue) (c : ℕ) (u : TensorValue) (k : ℕ) (part : TensorValue) (d : Dimension) (before taken after : ℕ) → IsSharding s → s.grid ≡ g → c < cell_count g.extents
    → k < length s.dimensions → part ≡ padded_by g.extents c s.dimensions u k
    → d ≡ get_or s.dimensions k (unsplit 0) → before ≡ before_in g.extents c d → taken ≡ taken_in g.extents c d → after ≡ after_in g.extents c d → before + taken + after ≤ (3 * max_cells)
    → IsPadStep g.extents c s.dimensions u k part before after
pad_step s g c u k part d before taken after ok eg l lk e ed eb et ea few =
    let ds = s.dimensions in
    let f = get_or ds k (unsplit 0) in
    let l' : c < cell_count s.grid.extents = subst (λ h. c < cell_count h.extents) (sym eg) l in
    let eb' : before ≡ before_in g.extents c f = eb ∙ ap (before_in g.extents c) ed in
    let et' : taken ≡ taken_in g.extents c f = et ∙ ap (taken_in g.extents c) ed in
    let ea' : after ≡ after_in g.extents c f = ea ∙ ap (after_in g.extents c) ed in
    let shape : part.shape ≡ padded_shape g.extents c k ds = ap (λ z. z.shape) e ∙ shape-padded_by g.extents c k ds u in
    let here : get_or part.shape k 0 ≡ taken_in g.extents c f = ap (λ z. get_or z k 0) shape ∙ get_or-padded_shape g.extents c k ds (unsplit 0) lk in
    let sum : before + get_or part.shape k 0 + after ≡ before_in g.extents c f + taken_in g.extents c f + after_in g.extents c f = omega arith in
    let whole : set part.shape k (before + get_or part.shape k 0 + after) ≡ padded_shape g.extents c (suc k) ds =
    ap₂ (λ z n. set z k n) shape sum ∙ padded_shape-more g.extents c k ds (unsplit 0) lk in
    let small : cell_count (padded_shape g.extents c (suc k) ds) ≤ max_cells = subst (λ h. cell_count (padded_shape h.extents c (suc k) ds) ≤ max_cells) eg (padded_small s c (suc k) ok l') in
    record {
      ranked = rw (shape, length-padded_shape g.extents c k ds) lk;
      extent = omega arith;
      small = rw whole small;
      next =
          ap (λ z. padded_of z k before after) e
          ∙ ap₂ (λ a b. padded_of (padded_by g.extents c ds u k) k a b) eb' ea'
          ∙ padded_by-more g.extents c k ds u (unsplit 0) lk
          ∙ ap (padded_by g.extents c ds u) (omega arith);
    }

pub cut_end : (s : ShardingValue) (g : GridValue) (c : ℕ) (t : TensorValue) (k : ℕ) (part : TensorValue) → IsSharding s → s.grid ≡ g → c < cell_count g.extents → k ≡ length s.dimensions
    → part ≡ padded_by g.extents c s.dimensions (sliced_by g.extents c s.dimensions t (length s.dimensions)) k → part ≡ cut_of s t c
cut_end s g c t k part ok eg l ek e =
    let l' : c < cell_count s.grid.extents = subst (λ h. c < cell_count h.extents) (sym eg) l in
    e ∙ ap (padded_by g.extents c s.dimensions (sliced_by g.extents c s.dimensions t (length s.dimensions))) ek
    ∙ subst (λ h. padded_by h.extents c s.dimensions (sliced_by h.extents c s.dimensions t (length s.dimensions)) (length s.dimensions) ≡ cut_of s t c) eg (windows_cut s t c ok l')

-- ---- padding by joining

get_or-undefined : (n k : ℕ) → get_or (replicate n Undef) k Undef ≡ Undef
get_or-undefined zero k = refl
get_or-undefined (suc n) zero = refl
get_or-undefined (suc n) (suc k) = get_or-undefined n k

at-undefined_of : (s : List ℕ) (w : Width) (i : List ℕ) → at (undefined_of s w) i ≡ Undef
unfolding at
at-undefined_of s w i = get_or-undefined (cell_count s) (flat_of s i)

-- nothing is added
pub padded_of-none : (t : TensorValue) (a before after : ℕ) → IsTensor t → a < length t.shape → before + get_or t.shape a 0 + after ≡ get_or t.shape a 0 → t ≡ padded_of t a before after
unfolding padded_of padded_cell
padded_of-none t a before after ok l e =
    let none : before ≡ 0 = omega arith in
    is_build t (padded_cell t a before) ok.counted (λ i h.
    let below : get_or i a 0 < get_or t.shape a 0 = IsIndexOf-entry t.shape i a h l in
    let begins : nat_le before (get_or i a 0) ≡ true = grind (arith, nat_tests) in
    let ends : nat_lt (get_or i a 0 - before) (get_or t.shape a 0) ≡ true = grind (arith, nat_tests) in
    let entry : get_or i a 0 - before ≡ get_or i a 0 = omega arith in
    sym (ap₂ (λ (p q : Bool). if p && q then at t (set i a (get_or i a 0 - before)) else Undef) begins ends
    ∙ ap (λ y. at t (set i a y)) entry ∙ ap (at t) (set-get_or i a 0)))
    ∙ ap (λ s. build s t.width (padded_cell t a before)) (sym (ap (set t.shape a) e ∙ set-get_or t.shape a 0))

choose_part : (x b : ℕ) (q : Bool) (y u v : Cell) → u ≡ Undef → v ≡ Undef → (if nat_lt x b then u else (if q then y else v)) ≡ (if nat_le b x && q then y else Undef)
choose_part x b q y u v eu ev = elim (lt_or_le x b) [
  | inl lt ↦
      let first : nat_lt x b ≡ true = grind (arith, nat_tests) in
      let second : nat_le b x ≡ false = grind (arith, nat_tests) in
      ap (λ (p : Bool). if p then u else (if q then y else v)) first ∙ eu ∙ sym (ap (λ (p : Bool). if p && q then y else Undef) second)
  | inr le ↦
      let first : nat_lt x b ≡ false = grind (arith, nat_tests) in
      let second : nat_le b x ≡ true = grind (arith, nat_tests) in
      ap (λ (p : Bool). if p then u else (if q then y else v)) first ∙ ap (λ (z : Cell). if q then y else z) ev ∙ sym (ap (λ (p : Bool). if p && q then y else Undef) second)
]

like_first : (t : TensorValue) (a before n : ℕ) (w : Width) → a < length t.shape → IsLike a (undefined_of (set t.shape a before) w) (undefined_of (set t.shape a n) w)
like_first t a before n w l = record {
  ranked = rw (length-set t.shape a n) l;
  width = refl;
  others = set-set t.shape a n 0 ∙ sym (set-set t.shape a before 0);
}

like_tensor : (t : TensorValue) (a before : ℕ) → a < length t.shape → IsLike a (undefined_of (set t.shape a before) t.width) t
like_tensor t a before l = record { ranked = l; width = refl; others = sym (set-set t.shape a before 0) }

pub can_join_pads : (t : TensorValue) (a before after : ℕ) → a < length t.shape
    → CanJoin a (undefined_of (set t.shape a before) t.width ∷ t ∷ undefined_of (set t.shape a after) t.width ∷ [])
can_join_pads t a before after l = (like_first t a before before t.width l, (like_tensor t a before l, (like_first t a before after t.width l, tt)))

joined_pads_shape : (t : TensorValue) (a before after : ℕ) → a < length t.shape
    → joined_shape a (undefined_of (set t.shape a before) t.width ∷ t ∷ undefined_of (set t.shape a after) t.width ∷ []) ≡ set t.shape a (before + get_or t.shape a 0 + after)
joined_pads_shape t a before after l =
    let first : get_or (set t.shape a before) a 0 ≡ before = get_or-set_same t.shape a before 0 l in
    let last : get_or (set t.shape a after) a 0 ≡ after = get_or-set_same t.shape a after 0 l in
    let sum : get_or (set t.shape a before) a 0 + (get_or t.shape a 0 + (get_or (set t.shape a after) a 0 + 0)) ≡ before + get_or t.shape a 0 + after = omega arith in
    set-set t.shape a before (get_or (set t.shape a before) a 0 + (get_or t.shape a 0 + (get_or (set t.shape a after) a 0 + 0))) ∙ ap (set t.shape a) sum

joined_pads_cell : (t : TensorValue) (a before after : ℕ) (i : List ℕ) → a < length t.shape → IsIndexOf (set t.shape a (before + get_or t.shape a 0 + after)) i
    → joined_at a (undefined_of (set t.shape a before) t.width ∷ t ∷ undefined_of (set t.shape a after) t.width ∷ []) i ≡ padded_cell t a before i
unfolding padded_cell
joined_pads_cell t a before after i l h =
    let x = get_or i a 0 in
    let f = undefined_of (set t.shape a before) t.width in
    let u = undefined_of (set t.shape a after) t.width in
    let first : get_or (set t.shape a before) a 0 ≡ before = get_or-set_same t.shape a before 0 l in
    let there : a < length i = IsIndexOf-long (set t.shape a (before + get_or t.shape a 0 + after)) i a h (rw (length-set t.shape a (before + get_or t.shape a 0 + after)) l) in
    let rest : ℕ → Cell = λ y. if nat_lt (get_or (set i a y) a 0) (get_or t.shape a 0) then at t (set i a y) else joined_at a (u ∷ []) (set (set i a y) a (get_or (set i a y) a 0 - get_or t.shape a 0)) in
    ap (λ b. if nat_lt x b then at f i else rest (x - b)) first
    ∙ ap (λ z. if nat_lt x before then at f i else (if nat_lt z (get_or t.shape a 0) then at t (set i a (x - before)) else joined_at a (u ∷ []) (set (set i a (x - before)) a (get_or (set i a (x - before)) a 0 - get_or t.shape a 0)))) (get_or-set_same i a (x - before) 0 there)
    ∙ choose_part x before (nat_lt (x - before) (get_or t.shape a 0)) (at t (set i a (x - before))) (at f i) (joined_at a (u ∷ []) (set (set i a (x - before)) a (get_or (set i a (x - before)) a 0 - get_or t.shape a 0)))
    (at-undefined_of (set t.shape a before) t.width i)
    (only_undefined (get_or (set (set i a (x - before)) a (get_or (set i a (x - before)) a 0 - get_or t.shape a 0)) a 0) (get_or (set t.shape a after) a 0) (at u (set (set i a (x - before)) a (get_or (set i a (x - before)) a 0 - get_or t.shape a 0))) (at-undefined_of (set t.shape a after) t.width (set (set i a (x - before)) a (get_or (set i a (x - before)) a 0 - get_or t.shape a 0))))
  where
    only_undefined : (x n : ℕ) (u : Cell) → u ≡ Undef → (if nat_lt x n then u else Undef) ≡ Undef
    only_undefined x n u e = elim (nat_lt x n) as (λ (b : Bool). (if b then u else Undef) ≡ Undef) [ true ↦ e | false ↦ refl ]

-- joined they are the padded tensor
pub joined_pads : (t : TensorValue) (a before after : ℕ) → a < length t.shape
    → concat_of (undefined_of (set t.shape a before) t.width ∷ t ∷ undefined_of (set t.shape a after) t.width ∷ []) a ≡ padded_of t a before after
unfolding padded_of
joined_pads t a before after l =
    let ts = undefined_of (set t.shape a before) t.width ∷ t ∷ undefined_of (set t.shape a after) t.width ∷ [] in
    ap (λ s. build s t.width (joined_at a ts)) (joined_pads_shape t a before after l)
    ∙ build-ext (set t.shape a (before + get_or t.shape a 0 + after)) t.width (joined_at a ts) (padded_cell t a before) (λ i h. joined_pads_cell t a before after i l h)

-- what the code asks and leaves
pub record IsPadJoin (t : TensorValue) (a before after : ℕ) (ts : List TensorValue) : Type 0 where
  pub alike : CanJoin a ts
  pub shape : joined_shape a ts ≡ set t.shape a (before + get_or t.shape a 0 + after)
  pub value : concat_of ts a ≡ padded_of t a before after

pub pad_join : (t : TensorValue) (a before after : ℕ) (first last : TensorValue) (ts : List TensorValue) → a < length t.shape
    → first ≡ undefined_of (set t.shape a before) t.width → last ≡ undefined_of (set t.shape a after) t.width → ts ≡ first ∷ t ∷ last ∷ [] → IsPadJoin t a before after ts
pad_join t a before after first last ts l ef el e =
    let all : ts ≡ undefined_of (set t.shape a before) t.width ∷ t ∷ undefined_of (set t.shape a after) t.width ∷ [] = e ∙ ap₂ (λ x y. x ∷ t ∷ y ∷ []) ef el in
    subst (IsPadJoin t a before after) (sym all)
    (record { alike = can_join_pads t a before after l; shape = joined_pads_shape t a before after l; value = joined_pads t a before after l })

-- a smaller extent gives no more cells
pub fewer_cells : (s : List ℕ) (a m n top : ℕ) → a < length s → m ≤ n → cell_count (set s a n) ≤ top → cell_count (set s a m) ≤ top
fewer_cells s a m n top l le h =
    let some : cell_count (take a s) * m * cell_count (drop (suc a) s) ≤ cell_count (take a s) * n * cell_count (drop (suc a) s) =
    mul-le-mul_right (cell_count (drop (suc a) s)) (mul-le-mul_left (cell_count (take a s)) le) in
    let less = cell_count-set s a m l in
    let more = cell_count-set s a n l in
    omega arith
