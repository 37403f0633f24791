-- From the state that isn't split moves lead to the target: each of them brings one dimension nearer.
use Rattle.std.proofs.Common.{zero, suc, ◌≡◌, ◌∙◌, ◌⊎◌, ℕ, ◌+◌, ◌*◌, ◌%◌, ◌<◌, ◌≤◌, ◌==◌, Bool, true, false, ◌||◌, List, [], ◌∷◌, ◌++◌, length, set, take, drop, get_or, ap, sym, refl, arith, inl, inr, length-append, take-append-drop}
use Rattle.std.specs.Prelude.{Contains}
use Rattle.std.specs.List.{AllByRecursion, AllZip, list_any}
use Rattle.std.proofs.Math.Arith.{mod-mul}
use Rattle.std.proofs.lemmas.Bool.{cases_Bool}
use Rattle.std.proofs.lemmas.List.{length-set, length-take-le, take_all, take_more}
use Rattle.sh_base.specs.Shape.{cell_count}
use Rattle.sh_grid.specs.Grid.{AreAxesOf, IsGrid, group_size_of, on_axes}
use Rattle.sh_grid.proofs.GroupLaws.{axes_join, on_axes-append}
use Rattle.sh_grid.proofs.GroupSteps.{AreAxesOf-at, group_size_of-some}
use Rattle.sh_sharding.specs.declared.shardings.Dimension.{Dimension}
use Rattle.sh_sharding.specs.Sharding.{axes_of, is_even, is_split, is_uneven, parts_of, unsplit}
use Rattle.sh_sharding.proofs.Cases.{lt_or_le}
use Rattle.sh_plan.specs.declared.moves.Move.{Move}
use Rattle.sh_plan.specs.declared.moves.Move.TheVariants.{M2, M5}
use Rattle.sh_plan.specs.Moves.{after, at, is_even_or_unsplit, is_listed, may, with_axis}
use Rattle.sh_plan.specs.Costs.{reshards}
use Rattle.sh_plan.proofs.Gathers.{HasShortWay, candidate_2, candidate_5, extents_of, is_move, no_steps, step, whole_of}
use Rattle.sh_plan.proofs.States.{AreInState, IsStateDimension, all_at, axes_set, even_is, even_or_uneven, is_even_of, is_unsplit, none_split, some_split, split_some, state_of_balanced, state_unsplit, uneven_is_split}
use Rattle.sh_plan.proofs.Unused.{IsWithin, listed_at, not_before, or_false, or_left, or_right, unused}

-- a dimension with its first axes alone
abbrev pub front : Dimension → ℕ → Dimension
front t k = record t { axes = take k t.axes }

-- what of a dimension of the target is still to be done
pub data Unfinished (g : List ℕ) (t s : Dimension) : Type 0 where
  -- an even one has its first axes
  Begun : is_even g t ≡ true → (k : ℕ) → k < length t.axes → s ≡ front t k → Unfinished g t s
  -- an uneven one is split in one move
  Waits : is_uneven g t ≡ true → s ≡ unsplit t.extent → Unfinished g t s

abbrev pub IsTowards : List ℕ → Dimension → Dimension → Type 0
IsTowards g t s = (s ≡ t) ⊎ Unfinished g t s

abbrev pub AreTowards : List ℕ → List Dimension → List Dimension → Type 0
AreTowards g ts ss = AllZip (IsTowards g) ts ss

-- ---- even fronts

pub cells-append : (xs ys : List ℕ) → cell_count (xs ++ ys) ≡ cell_count xs * cell_count ys
cells-append [] ys = omega arith
cells-append (x ∷ xs) ys = let rest = cells-append xs ys in rw rest (grind arith)

-- a number that the product of two divides, the first divides
divided_by_first : (n a b : ℕ) → 0 < a → 0 < b → n % (a * b) ≡ 0 → n % a ≡ 0
divided_by_first n a b a_some b_some h =
    let swapped : n % (b * a) ≡ 0 = rw (sym (commuted a b)) h in
    let sum = mod-mul n {m = b} {c = a} b_some a_some in
    omega (arith, sum, swapped)
  where
    commuted : (x y : ℕ) → x * y ≡ y * x
    commuted x y = grind arith

pub even_front : (g : List ℕ) (t : Dimension) (k : ℕ) → IsGrid g → AreAxesOf (length g) t.axes → is_even g t ≡ true → 0 < k → k ≤ length t.axes →
    is_even g (front t k) ≡ true
unfolding parts_of group_size_of
even_front g t k grid axes even some within =
    let e = even_is g t even in
    let parts = (axes_join (length g) (take k t.axes) (drop k t.axes)).0 (rw (take-append-drop k t.axes) axes) in
    let joined : cell_count (on_axes t.axes g) ≡ cell_count (on_axes (take k t.axes) g) * cell_count (on_axes (drop k t.axes) g) =
    ap (λ (xs : List ℕ). cell_count (on_axes xs g)) (sym (take-append-drop k t.axes))
    ∙ ap cell_count (on_axes-append (take k t.axes) (drop k t.axes) g)
    ∙ cells-append (on_axes (take k t.axes) g) (on_axes (drop k t.axes) g) in
    let first : 0 < cell_count (on_axes (take k t.axes) g) = group_size_of-some g (take k t.axes) grid.positive parts.0 in
    let last : 0 < cell_count (on_axes (drop k t.axes) g) = group_size_of-some g (drop k t.axes) grid.positive parts.2 in
    let whole : t.extent % (cell_count (on_axes (take k t.axes) g) * cell_count (on_axes (drop k t.axes) g)) ≡ 0 = rw joined at e.divided in
    let long : length (take k t.axes) ≡ k = length-take-le k t.axes within in
    is_even_of g (front t k) (record {
      split = split_some (take k t.axes) (omega arith);
      balanced = e.balanced;
      divided = divided_by_first t.extent (cell_count (on_axes (take k t.axes) g)) (cell_count (on_axes (drop k t.axes) g)) first last whole;
    })

-- a front is even, or not split
regular_front : (g : List ℕ) (t : Dimension) (k : ℕ) → IsGrid g → AreAxesOf (length g) t.axes → is_even g t ≡ true → k ≤ length t.axes →
    is_even_or_unsplit g (front t k) ≡ true
regular_front g t zero grid axes even within = or_true (is_even g (front t 0))
  where
    or_true : (b : Bool) → (b || true) ≡ true
    or_true true = refl
    or_true false = refl
regular_front g t (suc k) grid axes even within = rw (even_front g t (suc k) grid axes even (omega arith) within) refl

-- ---- what holds of a dimension on the way

towards_state : (g : List ℕ) (t s : Dimension) → IsStateDimension g t → IsTowards g t s → IsStateDimension g s
towards_state g t s state (inl e) = rw e state
towards_state g t s state (inr (Begun even k h e)) = rw e (state_of_balanced g (front t k) state.low state.high (even_is g t even).balanced)
towards_state g t s state (inr (Waits uneven e)) = rw e (state_unsplit g t.extent)

towards_extent : (g : List ℕ) (t s : Dimension) → IsTowards g t s → s.extent ≡ t.extent
towards_extent g t s (inl e) = rw e refl
towards_extent g t s (inr (Begun even k h e)) = rw e refl
towards_extent g t s (inr (Waits uneven e)) = rw e refl

towards_few : (g : List ℕ) (t s : Dimension) → IsTowards g t s → length s.axes ≤ length t.axes
towards_few g t s (inl e) = rw e (omega arith)
towards_few g t s (inr (Begun even k h e)) = rw e (let long : length (take k t.axes) ≡ k = length-take-le k t.axes (omega arith) in omega arith)
towards_few g t s (inr (Waits uneven e)) = rw e (omega arith)

pub listed_front : (a k : ℕ) (xs : List ℕ) → is_listed a xs ≡ false → is_listed a (take k xs) ≡ false
listed_front a zero xs h = refl
listed_front a (suc k) [] h = refl
listed_front a (suc k) (x ∷ xs) h =
    or_false (x == a) (is_listed a (take k xs)) (or_left (x == a) (is_listed a xs) h) (listed_front a k xs (or_right (x == a) (is_listed a xs) h))

towards_within : (g : List ℕ) (t s : Dimension) → IsTowards g t s → IsWithin t s
towards_within g t s (inl e) a h = rw e h
towards_within g t s (inr (Begun even k below e)) a h = rw e (listed_front a k t.axes h)
towards_within g t s (inr (Waits uneven e)) a h = rw e refl

-- ---- what holds of all dimensions

are_within : (g : List ℕ) (ts ss : List Dimension) → AreTowards g ts ss → AllZip IsWithin ts ss
are_within g [] [] zip = tt
are_within g [] (s ∷ ss) zip = absurd zip
are_within g (t ∷ ts) [] zip = absurd zip
are_within g (t ∷ ts) (s ∷ ss) zip = (towards_within g t s zip.0, are_within g ts ss zip.1)

are_states : (g : List ℕ) (ts ss : List Dimension) → AreInState g ts → AreTowards g ts ss → AreInState g ss
are_states g [] [] state zip = tt
are_states g [] (s ∷ ss) state zip = absurd zip
are_states g (t ∷ ts) [] state zip = absurd zip
are_states g (t ∷ ts) (s ∷ ss) state zip = (towards_state g t s state.0 zip.0, are_states g ts ss state.1 zip.1)

are_extents : (g : List ℕ) (ts ss : List Dimension) → AreTowards g ts ss → extents_of ss ≡ extents_of ts
are_extents g [] [] zip = refl
are_extents g [] (s ∷ ss) zip = absurd zip
are_extents g (t ∷ ts) [] zip = absurd zip
are_extents g (t ∷ ts) (s ∷ ss) zip = rw (towards_extent g t s zip.0, are_extents g ts ss zip.1) refl

are_few : (g : List ℕ) (ts ss : List Dimension) → AreTowards g ts ss → length (axes_of ss) ≤ length (axes_of ts)
are_few g [] [] zip = omega arith
are_few g [] (s ∷ ss) zip = absurd zip
are_few g (t ∷ ts) [] zip = absurd zip
are_few g (t ∷ ts) (s ∷ ss) zip =
    let first = towards_few g t s zip.0 in
    let rest = are_few g ts ss zip.1 in
    let t_long = length-append t.axes (axes_of ts) in
    let s_long = length-append s.axes (axes_of ss) in
    omega (arith, first, rest, t_long, s_long)

as_long : (g : List ℕ) (ts ss : List Dimension) → AreTowards g ts ss → length ss ≡ length ts
as_long g [] [] zip = refl
as_long g [] (s ∷ ss) zip = absurd zip
as_long g (t ∷ ts) [] zip = absurd zip
as_long g (t ∷ ts) (s ∷ ss) zip = ap suc (as_long g ts ss zip.1)

towards_set : (g : List ℕ) (ts ss : List Dimension) (i : ℕ) (x : Dimension) → AreTowards g ts ss → IsTowards g (at ts i) x → AreTowards g ts (set ss i x)
towards_set g [] [] i x zip h = tt
towards_set g [] (s ∷ ss) i x zip h = absurd zip
towards_set g (t ∷ ts) [] i x zip h = absurd zip
towards_set g (t ∷ ts) (s ∷ ss) zero x zip h = (h, zip.1)
towards_set g (t ∷ ts) (s ∷ ss) (suc i) x zip h = (zip.0, towards_set g ts ss i x zip.1 h)

-- the state is the target, or a dimension is still to be done
find_unfinished : (g : List ℕ) (ts ss : List Dimension) → AreTowards g ts ss → (ss ≡ ts) ⊎ ((i : ℕ) × (i < length ts) × Unfinished g (at ts i) (at ss i))
find_unfinished g [] [] zip = inl refl
find_unfinished g [] (s ∷ ss) zip = absurd zip
find_unfinished g (t ∷ ts) [] zip = absurd zip
find_unfinished g (t ∷ ts) (s ∷ ss) (inr h, zip) = inr (0, omega arith, h)
find_unfinished g (t ∷ ts) (s ∷ ss) (inl e, zip) = elim (find_unfinished g ts ss zip) [
  | inl same ↦ inl (rw (e, same) refl)
  | inr r ↦ inr (suc r.0, omega (arith, r.1), r.2)
]

are_whole_towards : (g : List ℕ) (ts : List Dimension) → AreInState g ts → AreTowards g ts (whole_of ts)
are_whole_towards g [] state = tt
are_whole_towards g (t ∷ ts) state = (first (cases_Bool (is_split t)), are_whole_towards g ts state.1)
  where
    balanced_whole : is_even g t ≡ true → unsplit t.extent ≡ front t 0
    balanced_whole even = rw ((even_is g t even).balanced, state.0.low, state.0.high) refl

    split_first : (is_even g t ≡ true) ⊎ (is_uneven g t ≡ true) → is_split t ≡ true → IsTowards g t (unsplit t.extent)
    split_first (inl even) split = inr (Begun even 0 (some_split t.axes split) (balanced_whole even))
    split_first (inr uneven) split = inr (Waits uneven refl)

    first : (is_split t ≡ true) ⊎ (is_split t ≡ false) → IsTowards g t (unsplit t.extent)
    first (inl split) = split_first (even_or_uneven g t split) split
    first (inr none) = inl (sym (is_unsplit g t state.0 (none_split t.axes none)))

-- ---- a move that brings one dimension nearer

record IsNearer (g : List ℕ) (ts ss : List Dimension) (m : Move) : Type 0 where
  pub has : Contains ((reshards g ts).moves ss) m
  pub towards : AreTowards g ts (after ts ss m)
  pub more : length (axes_of ss) < length (axes_of (after ts ss m))
  pub same : length ss ≡ length (after ts ss m)

any_none : (p : ℕ → Bool) (xs : List ℕ) → ((k : ℕ) → k < length xs → p (get_or xs k 0) ≡ false) → list_any p xs ≡ false
any_none p [] f = refl
any_none p (x ∷ xs) f = or_false (p x) (list_any p xs) (f 0 (omega arith)) (any_none p xs (λ k h. f (suc k) (omega arith)))

grown_front : (g : List ℕ) (t : Dimension) (k : ℕ) → is_even g t ≡ true → k < length t.axes → IsTowards g t (front t (k + 1))
grown_front g t k even h = elim (lt_or_le (k + 1) (length t.axes)) [
  | inl less ↦ inr (Begun even (k + 1) less refl)
  | inr all ↦ inl (ap (λ (xs : List ℕ). record t { axes = xs }) (take_all (k + 1) t.axes all))
]

nearer_begun : (g : List ℕ) (ts ss : List Dimension) (i k : ℕ) → IsGrid g → AreAxesOf (length g) (axes_of ts) → AreTowards g ts ss → i < length ts →
    AreAxesOf (length g) (at ts i).axes → is_even g (at ts i) ≡ true → k < length (at ts i).axes → at ss i ≡ front (at ts i) k →
    IsNearer g ts ss (M2 i (get_or (at ts i).axes k 0))
unfolding after may
nearer_begun g ts ss i k grid axes zip within own even below e =
    let new = with_axis (at ss i) (get_or (at ts i).axes k 0) in
    let grown : with_axis (at ss i) (get_or (at ts i).axes k 0) ≡ front (at ts i) (k + 1) =
    ap (λ (s : Dimension). with_axis s (get_or (at ts i).axes k 0)) e ∙ ap (λ (xs : List ℕ). record (at ts i) { axes = xs }) (sym (take_more (at ts i).axes k 0 below)) in
    let not_there : is_listed (get_or (at ts i).axes k 0) (at ss i).axes ≡ false = rw e (not_before (length g) (at ts i).axes k own below) in
    let free : is_listed (get_or (at ts i).axes k 0) (axes_of ss) ≡ false =
    unused (length g) ts ss i (get_or (at ts i).axes k 0) (are_within g ts ss zip) axes (listed_at (at ts i).axes k below) not_there in
    let regular : is_even_or_unsplit g (at ss i) ≡ true = rw e (regular_front g (at ts i) k grid own even (omega arith)) in
    let even_then : is_even g (with_axis (at ss i) (get_or (at ts i).axes k 0)) ≡ true = rw grown (even_front g (at ts i) (k + 1) grid own even (omega arith) (omega arith)) in
    let long : length ss ≡ length ts = as_long g ts ss zip in
    let count = axes_set ss i (with_axis (at ss i) (get_or (at ts i).axes k 0)) (omega arith) in
    let one = length-append (at ss i).axes (get_or (at ts i).axes k 0 ∷ []) in
    record {
      has = is_move g ts ss (M2 i (get_or (at ts i).axes k 0)) (rw (free, regular, even_then) refl)
          (candidate_2 (length g) (length ss) i (get_or (at ts i).axes k 0) (omega arith) (AreAxesOf-at (length g) (at ts i).axes k own below));
      towards = towards_set g ts ss i (with_axis (at ss i) (get_or (at ts i).axes k 0)) zip (rw grown (grown_front g (at ts i) k even below));
      more = omega (arith, count, one);
      same = sym (length-set ss i (with_axis (at ss i) (get_or (at ts i).axes k 0)));
    }

nearer_waits : (g : List ℕ) (ts ss : List Dimension) (i : ℕ) → AreAxesOf (length g) (axes_of ts) → AreTowards g ts ss → i < length ts →
    is_uneven g (at ts i) ≡ true → at ss i ≡ unsplit (at ts i).extent → IsNearer g ts ss (M5 i)
unfolding after may
nearer_waits g ts ss i axes zip within uneven e =
    let not_split : is_split (at ss i) ≡ false = rw e refl in
    let free : list_any (λ a. is_listed a (axes_of ss)) (at ts i).axes ≡ false =
    any_none (λ a. is_listed a (axes_of ss)) (at ts i).axes (λ k below.
    unused (length g) ts ss i (get_or (at ts i).axes k 0) (are_within g ts ss zip) axes (listed_at (at ts i).axes k below) (rw e refl)) in
    let long : length ss ≡ length ts = as_long g ts ss zip in
    let none : length (at ss i).axes ≡ 0 = rw e refl in
    let some : 0 < length (at ts i).axes = some_split (at ts i).axes (uneven_is_split g (at ts i) uneven) in
    let count = axes_set ss i (at ts i) (omega arith) in
    record {
      has = is_move g ts ss (M5 i) (rw (not_split, uneven, free) refl) (candidate_5 (length g) (length ss) i (omega arith));
      towards = towards_set g ts ss i (at ts i) zip (inl refl);
      more = omega (arith, count, none, some);
      same = sym (length-set ss i (at ts i));
    }

some_nearer : (g : List ℕ) (ts ss : List Dimension) (i : ℕ) → IsGrid g → AreAxesOf (length g) (axes_of ts) → AllByRecursion (λ t. AreAxesOf (length g) t.axes) ts →
    AreTowards g ts ss → i < length ts → Unfinished g (at ts i) (at ss i) → (m : Move) × IsNearer g ts ss m
some_nearer g ts ss i grid axes each zip within (Begun even k below e) =
    (M2 i (get_or (at ts i).axes k 0), nearer_begun g ts ss i k grid axes zip within (all_at (λ t. AreAxesOf (length g) t.axes) ts i each within) even below e)
some_nearer g ts ss i grid axes each zip within (Waits uneven e) = (M5 i, nearer_waits g ts ss i axes zip within uneven e)

pub nearer : (g : List ℕ) (ts : List Dimension) (cells n : ℕ) (ss : List Dimension) → IsGrid g → AreAxesOf (length g) (axes_of ts) →
    AllByRecursion (λ t. AreAxesOf (length g) t.axes) ts → AreInState g ts → cell_count (extents_of ts) ≤ cells → AreTowards g ts ss →
    length (axes_of ts) ≤ n + length (axes_of ss) → HasShortWay g ts cells n ss ts
nearer g ts cells zero ss grid axes each state small zip few = elim (find_unfinished g ts ss zip) [
  | inl same ↦ no_steps g ts cells 0 ss ts same
  | inr found ↦
      let m = some_nearer g ts ss found.0 grid axes each zip found.1 found.2 in
      let most_axes = are_few g ts (after ts ss m.0) m.1.towards in
      absurd (omega (arith, m.1.more, most_axes))
]
nearer g ts cells (suc n) ss grid axes each state small zip few = elim (find_unfinished g ts ss zip) [
  | inl same ↦ no_steps g ts cells (suc n) ss ts same
  | inr found ↦
      let m = some_nearer g ts ss found.0 grid axes each zip found.1 found.2 in
      let rest : HasShortWay g ts cells n (after ts ss m.0) ts =
      nearer g ts cells n (after ts ss m.0) grid axes each state small m.1.towards (omega (arith, m.1.more)) in
      let smaller : cell_count (extents_of (after ts ss m.0)) ≤ cells = rw (are_extents g ts (after ts ss m.0) m.1.towards) small in
      step g ts cells n ss ts m.0 m.1.has (are_states g ts (after ts ss m.0) state m.1.towards) m.1.same smaller rest
]

pub split_all : (g : List ℕ) (ts : List Dimension) (cells n : ℕ) → IsGrid g → AreAxesOf (length g) (axes_of ts) →
    AllByRecursion (λ t. AreAxesOf (length g) t.axes) ts → AreInState g ts → cell_count (extents_of ts) ≤ cells → length (axes_of ts) ≤ n →
    HasShortWay g ts cells n (whole_of ts) ts
split_all g ts cells n grid axes each state small few =
    nearer g ts cells n (whole_of ts) grid axes each state small (are_whole_towards g ts state) (omega arith)
