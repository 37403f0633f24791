-- How many splits a state has: a move adds one at most, and only one that splits adds any. So as
-- many splits as moves are added where each move splits, and there alone.
use Rattle.std.proofs.Common.{zero, suc, ◌≡◌, ◌≢◌, ℕ, ◌+◌, ◌-◌, ◌<◌, ◌≤◌, ◌==◌, Bool, true, false, not, ◌&&◌, ◌||◌, List, [], ◌∷◌, length, set, ap, refl, arith, inl, inr}
use Rattle.std.specs.Prelude.{Contains, sum_by}
use Rattle.std.specs.List.{AllByRecursion}
use Rattle.std.proofs.lemmas.Bool.{cases_Bool, not-true}
use Rattle.std.proofs.lemmas.Bool.Decides.{nat_tests}
use Rattle.std.proofs.lemmas.List.{get_or-set_other, length-append, length-take-le}
use Rattle.std.proofs.lemmas.List.Elements.{All-contains}
use Rattle.std.proofs.lemmas.List.Sums.{sum_by-cons}
use Rattle.sh_sharding.specs.declared.shardings.Dimension.{Dimension}
use Rattle.sh_sharding.specs.Sharding.{ShardingValue, is_even, is_split, is_uneven, unsplit}
use Rattle.sh_sharding.proofs.Cases.{and_left, and_right}
use Rattle.sh_ways.specs.Graph.{Leads}
use Rattle.sh_plan.specs.declared.moves.Move.{Move}
use Rattle.sh_plan.specs.declared.moves.Move.TheVariants.{M1, M2, M3, M4, M5}
use Rattle.sh_plan.specs.Costs.{reshards}
use Rattle.sh_plan.specs.Moves.{after, are_unused, at, is_even_or_unsplit, last_axis, may, may_append, moves_at, with_axis, without_last}
use Rattle.sh_plan.specs.Replication.{IsSplitMove, splits_of}
use Rattle.sh_plan.proofs.EdgeRows.{are_allowed}
use Rattle.sh_plan.proofs.Gathers.{whole_of}
use Rattle.sh_plan.proofs.States.{even_is, some_split, uneven_is_split}

-- ---- one dimension

pub uneven_once : (g : List ℕ) (d : Dimension) → is_uneven g d ≡ true → splits_of g d ≡ 1
unfolding splits_of
uneven_once g d h = rw h refl

axis_by_axis : (g : List ℕ) (d : Dimension) → is_uneven g d ≡ false → splits_of g d ≡ length d.axes
unfolding splits_of
axis_by_axis g d h = rw h refl

regular_axes : (g : List ℕ) (d : Dimension) → is_even_or_unsplit g d ≡ true → splits_of g d ≡ length d.axes
unfolding is_uneven
regular_axes g d h = axis_by_axis g d (by (is_split d) (is_even g d) h)
  where
    by : (split even : Bool) → (even || not split) ≡ true → (split && not even) ≡ false
    by true true h = refl
    by true false h = absurd (cc)
    by false even h = refl

pub even_axes : (g : List ℕ) (d : Dimension) → is_even g d ≡ true → splits_of g d ≡ length d.axes
even_axes g d even = regular_axes g d (rw even refl)

pub few_splits : (g : List ℕ) (d : Dimension) → splits_of g d ≤ length d.axes
few_splits g d = elim (cases_Bool (is_uneven g d)) [
  | inl uneven ↦
      let one = uneven_once g d uneven in
      let some = some_split d.axes (uneven_is_split g d uneven) in
      omega (arith, one, some)
  | inr h ↦ let axes = axis_by_axis g d h in omega (arith, axes)
]

-- ---- all dimensions

abbrev pub splits_in : List ℕ → List Dimension → ℕ
splits_in g ds = sum_by (splits_of g) ds

pub none_in_whole : (g : List ℕ) (ds : List Dimension) → splits_in g (whole_of ds) ≡ 0
none_in_whole g [] = refl
none_in_whole g (d ∷ ds) =
    let first = few_splits g (unsplit d.extent) in
    let rest = none_in_whole g ds in
    let both = sum_by-cons (splits_of g) (unsplit d.extent) (whole_of ds) in
    omega (arith, first, rest, both)

-- another dimension in place of one
set_splits : (g : List ℕ) (ds : List Dimension) (i : ℕ) (x : Dimension) → splits_in g (set ds i x) + splits_of g (at ds i) ≤ splits_in g ds + splits_of g x
set_splits g [] i x = let none = few_splits g (unsplit 0) in omega (arith, none)
set_splits g (d ∷ ds) zero x =
    let new = sum_by-cons (splits_of g) x ds in
    let old = sum_by-cons (splits_of g) d ds in
    omega (arith, new, old)
set_splits g (d ∷ ds) (suc i) x =
    let rest = set_splits g ds i x in
    let new = sum_by-cons (splits_of g) d (set ds i x) in
    let old = sum_by-cons (splits_of g) d ds in
    omega (arith, rest, new, old)

-- an even dimension without its last axis
one_less : (g : List ℕ) (ds : List Dimension) (i : ℕ) → is_even g (at ds i) ≡ true → splits_in g (set ds i (without_last (at ds i))) < splits_in g ds
one_less g ds i even =
    let change = set_splits g ds i (without_last (at ds i)) in
    let some = some_split (at ds i).axes (even_is g (at ds i) even).split in
    let before = even_axes g (at ds i) even in
    let after = few_splits g (without_last (at ds i)) in
    let long = length-take-le (length (at ds i).axes - 1) (at ds i).axes (omega arith) in
    omega (arith, change, some, before, after, long)

-- a dimension with one axis more, also where another has changed before
one_more : (g : List ℕ) (ds es : List Dimension) (i a : ℕ) → at es i ≡ at ds i → may_append g ds i a ≡ true → splits_in g (set es i (with_axis (at ds i) a)) ≤ splits_in g es + 1
one_more g ds es i a same allowed =
    let change = set_splits g es i (with_axis (at ds i) a) in
    let before = regular_axes g (at ds i) (and_left (is_even_or_unsplit g (at ds i)) (is_even g (with_axis (at ds i) a)) allowed) in
    let after = even_axes g (with_axis (at ds i) a) (and_right (is_even_or_unsplit g (at ds i)) (is_even g (with_axis (at ds i) a)) allowed) in
    let long = length-append (at ds i).axes (a ∷ []) in
    let here : splits_of g (at es i) ≡ splits_of g (at ds i) = ap (splits_of g) same in
    omega (arith, change, before, after, long, here)

-- ---- one move

record IsCounted (g : List ℕ) (before after : List Dimension) (m : Move) : Type 0 where
  pub most : splits_in g after ≤ splits_in g before + 1
  pub more : splits_in g before < splits_in g after → IsSplitMove m

adds_none : (g : List ℕ) (before after : List Dimension) (m : Move) → splits_in g after ≤ splits_in g before → IsCounted g before after m
adds_none g before after m h = record { most = omega (arith, h); more = λ more. absurd (omega (arith, h, more)) }

apart : (d e : ℕ) → not (d == e) ≡ true → e ≢ d
apart d e h same =
    let other : (d == e) ≡ false = not-true (d == e) h in
    let equal : (d == e) ≡ true = grind (arith, nat_tests) in
    cc

counted : (g : List ℕ) (ts ds : List Dimension) (m : Move) → may g ts ds m ≡ true → IsCounted g ds (after ts ds m) m
unfolding after may
counted g ts ds (M1 d) allowed = adds_none g ds (set ds d (without_last (at ds d))) (M1 d) (let less = one_less g ds d allowed in omega (arith, less))
counted g ts ds (M2 d a) allowed = record {
  most = one_more g ds ds d a refl (and_right (are_unused ds (a ∷ [])) (may_append g ds d a) allowed);
  more = λ _. tt;
}
counted g ts ds (M3 d e) allowed =
    let rest = and_right (not (d == e)) (is_even g (at ds d) && may_append g ds e (last_axis (at ds d))) allowed in
    let other : e ≢ d = apart d e (and_left (not (d == e)) (is_even g (at ds d) && may_append g ds e (last_axis (at ds d))) allowed) in
    let less = one_less g ds d (and_left (is_even g (at ds d)) (may_append g ds e (last_axis (at ds d))) rest) in
    let more = one_more g ds (set ds d (without_last (at ds d))) e (last_axis (at ds d)) (get_or-set_other ds d e (without_last (at ds d)) (unsplit 0) other)
    (and_right (is_even g (at ds d)) (may_append g ds e (last_axis (at ds d))) rest) in
    adds_none g ds (set (set ds d (without_last (at ds d))) e (with_axis (at ds e) (last_axis (at ds d)))) (M3 d e) (omega (arith, less, more))
counted g ts ds (M4 d) allowed =
    let change = set_splits g ds d (unsplit (at ds d).extent) in
    let none = few_splits g (unsplit (at ds d).extent) in
    adds_none g ds (set ds d (unsplit (at ds d).extent)) (M4 d) (omega (arith, change, none))
counted g ts ds (M5 d) allowed =
    let rest = and_right (not (is_split (at ds d))) (is_uneven g (at ts d) && are_unused ds (at ts d).axes) allowed in
    let one = uneven_once g (at ts d) (and_left (is_uneven g (at ts d)) (are_unused ds (at ts d).axes) rest) in
    let change = set_splits g ds d (at ts d) in
    record { most = omega (arith, change, one); more = λ _. tt }

-- a sharding on a grid of these extents
abbrev on_grid : List ℕ → List Dimension → ShardingValue
on_grid g ds = record { grid = record { name = []; extents = g }; dimensions = ds }

counted_at : (g : List ℕ) (ts ds : List Dimension) (m : Move) → Contains ((reshards g ts).moves ds) m → IsCounted g ds (after ts ds m) m
unfolding reshards
counted_at g ts ds m has =
    counted g ts ds m (All-contains (λ x. may g ts ds x ≡ true) (moves_at g ts ds) m (are_allowed (on_grid g ds) (on_grid g ts) (moves_at g ts ds) refl) has)

-- ---- lists of moves

pub few_added : (g : List ℕ) (ts from to : List Dimension) (ms : List Move) → Leads (reshards g ts) from ms to → splits_in g to ≤ splits_in g from + length ms
unfolding reshards
few_added g ts from to [] e = rw e (omega arith)
few_added g ts from to (m ∷ ms) leads =
    let first = (counted_at g ts from m leads.0).most in
    let rest = few_added g ts (after ts from m) to ms leads.1 in
    omega (arith, first, rest)

pub each_splits : (g : List ℕ) (ts from to : List Dimension) (ms : List Move) → Leads (reshards g ts) from ms to → splits_in g from + length ms ≤ splits_in g to →
    AllByRecursion IsSplitMove ms
unfolding reshards
each_splits g ts from to [] e many = tt
each_splits g ts from to (m ∷ ms) leads many =
    let first = counted_at g ts from m leads.0 in
    let most = first.most in
    let rest = few_added g ts (after ts from m) to ms leads.1 in
    (first.more (omega (arith, rest, many)), each_splits g ts (after ts from m) to ms leads.1 (omega (arith, most, many)))
