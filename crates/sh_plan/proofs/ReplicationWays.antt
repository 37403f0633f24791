-- From replication to a target: its dimensions are split one after the other, each move at cost 1.
use Rattle.std.proofs.Common.{zero, suc, ◌≡◌, ◌∙◌, ℕ, ◌+◌, ◌<◌, ◌≤◌, true, false, List, [], ◌∷◌, ◌++◌, length, set, get_or, ap, sym, subst, refl, arith, inl, inr, add-one, append_assoc}
use Rattle.std.specs.Prelude.{Contains}
use Rattle.std.specs.List.{AllByRecursion, AllZip, list_any}
use Rattle.std.proofs.Math.Bool.{or-true}
use Rattle.std.proofs.Math.Seq.{get_or-append_seam, set-append_seam}
use Rattle.std.proofs.lemmas.Bool.{cases_Bool}
use Rattle.std.proofs.lemmas.List.{length-append, take_all, take_more}
use Rattle.std.proofs.lemmas.List.Elements.{All-from_get_or}
use Rattle.std.proofs.lemmas.List.Folds.{list_any_none}
use Rattle.std.proofs.lemmas.List.Sums.{sum_by-cons}
use Rattle.sh_base.specs.Shape.{cell_count}
use Rattle.sh_grid.specs.Grid.{AreAxesOf, IsGrid}
use Rattle.sh_grid.proofs.GroupSteps.{AreAxesOf-at}
use Rattle.sh_sharding.specs.declared.shardings.Dimension.{Dimension}
use Rattle.sh_sharding.specs.Sharding.{axes_of, is_even, is_split, is_uneven, unsplit}
use Rattle.sh_sharding.proofs.PartLaws.{IsPlaced}
use Rattle.sh_ways.specs.Graph.{HasWay}
use Rattle.sh_ways.proofs.Passes.{joined}
use Rattle.sh_plan.specs.declared.moves.Move.{Move}
use Rattle.sh_plan.specs.declared.moves.Move.TheVariants.{M2, M5}
use Rattle.sh_plan.specs.Costs.{cost_between, reshards}
use Rattle.sh_plan.specs.Moves.{after, at, is_even_or_unsplit, is_listed, may, with_axis}
use Rattle.sh_plan.specs.Replication.{splits_of}
use Rattle.sh_plan.proofs.Gathers.{candidate_2, candidate_5, is_move, whole_of}
use Rattle.sh_plan.proofs.AxisMore.{inside_front}
use Rattle.sh_plan.proofs.Inside.{inside_whole, one_inside}
use Rattle.sh_plan.proofs.ReplicationCounts.{even_axes, few_splits, splits_in, uneven_once}
use Rattle.sh_plan.proofs.States.{even_is, even_or_uneven, none_split}
use Rattle.sh_plan.proofs.Towards.{even_front, front, listed_front}
use Rattle.sh_plan.proofs.Unused.{IsWithin, listed_at, not_before, unused}

-- a dimension of a target, as moves make it from the whole one
pub record IsTarget (g : List ℕ) (t : Dimension) : Type 0 where
  pub low : t.low ≡ 0
  pub high : t.high ≡ 0
  pub axes : AreAxesOf (length g) t.axes
  pub whole : t.axes ≡ [] → t ≡ unsplit t.extent
  pub placed : (device : ℕ) → device < cell_count g → IsPlaced g device t

no_move : (g : List ℕ) (ts from to : List Dimension) → from ≡ to → HasWay (reshards g ts) from to 0
no_move g ts from to e = record { way = []; leads = e; sum = refl }

one_move : (g : List ℕ) (ts from to : List Dimension) (m : Move) → Contains ((reshards g ts).moves from) m → after ts from m ≡ to → cost_between g from to ≡ 1 →
    HasWay (reshards g ts) from to 1
unfolding reshards
one_move g ts from to m has leads one =
    let cost : cost_between g from (after ts from m) ≡ 1 = rw leads one in
    record { way = m ∷ []; leads = (has, leads); sum = omega (arith, cost) }

-- ---- the dimensions before one are done, and those after it are whole

abbrev state : List Dimension → Dimension → List Dimension → List Dimension
state done d later = done ++ d ∷ whole_of later

here : (done later : List Dimension) (d : Dimension) → at (done ++ d ∷ later) (length done) ≡ d
here done later d = get_or-append_seam done d later (unsplit 0)

in_rank : (done later : List Dimension) (d : Dimension) → length done < length (done ++ d ∷ later)
in_rank done later d = let long = length-append done (d ∷ later) in omega (arith, long)

whole_within : (ds : List Dimension) → AllZip IsWithin ds (whole_of ds)
whole_within [] = tt
whole_within (d ∷ ds) = ((λ a h. refl), whole_within ds)

are_within : (done later : List Dimension) (t d : Dimension) → IsWithin t d → AllZip IsWithin (done ++ t ∷ later) (state done d later)
are_within [] later t d h = (h, whole_within later)
are_within (x ∷ done) later t d h = ((λ a none. none), are_within done later t d h)

-- an axis of the target's dimension that doesn't split this one splits none
free : (g : List ℕ) (done later : List Dimension) (t d : Dimension) (a : ℕ) → AreAxesOf (length g) (axes_of (done ++ t ∷ later)) → IsWithin t d →
    is_listed a t.axes ≡ true → is_listed a d.axes ≡ false → is_listed a (axes_of (state done d later)) ≡ false
free g done later t d a axes within listed not_here =
    unused (length g) (done ++ t ∷ later) (state done d later) (length done) a (are_within done later t d within) axes (rw (here done later t) listed)
    (rw (here done (whole_of later) d) not_here)

-- ---- an even dimension, axis by axis

regular_whole : (g : List ℕ) (d : Dimension) → is_split d ≡ false → is_even_or_unsplit g d ≡ true
regular_whole g d none = rw none (or-true (is_even g d))

regular_front : (g : List ℕ) (t : Dimension) (k : ℕ) → IsGrid g → AreAxesOf (length g) t.axes → is_even g t ≡ true → k < length t.axes → is_even_or_unsplit g (front t k) ≡ true
regular_front g t zero grid own even below = regular_whole g (front t 0) refl
regular_front g t (suc k) grid own even below = rw (even_front g t (suc k) grid own even (omega arith) (omega arith)) refl

split_axis : (g : List ℕ) (done later : List Dimension) (t : Dimension) (k : ℕ) → IsGrid g → AreAxesOf (length g) (axes_of (done ++ t ∷ later)) → AreAxesOf (length g) t.axes →
    is_even g t ≡ true → k < length t.axes → HasWay (reshards g (done ++ t ∷ later)) (state done (front t k) later) (state done (front t (k + 1)) later) 1
unfolding after may
split_axis g done later t k grid axes own even below =
    let now = here done (whole_of later) (front t k) in
    let grown : with_axis (at (state done (front t k) later) (length done)) (get_or t.axes k 0) ≡ front t (k + 1) =
    ap (λ (d : Dimension). with_axis d (get_or t.axes k 0)) now ∙ ap (λ (xs : List ℕ). record t { axes = xs }) (sym (take_more t.axes k 0 below)) in
    let unlisted : is_listed (get_or t.axes k 0) (axes_of (state done (front t k) later)) ≡ false =
    free g done later t (front t k) (get_or t.axes k 0) axes (λ a none. listed_front a k t.axes none) (listed_at t.axes k below) (not_before (length g) t.axes k own below) in
    let regular : is_even_or_unsplit g (at (state done (front t k) later) (length done)) ≡ true = rw now (regular_front g t k grid own even below) in
    let even_then : is_even g (with_axis (at (state done (front t k) later) (length done)) (get_or t.axes k 0)) ≡ true =
    rw grown (even_front g t (k + 1) grid own even (omega arith) (omega arith)) in
    let has = is_move g (done ++ t ∷ later) (state done (front t k) later) (M2 (length done) (get_or t.axes k 0)) (rw (unlisted, regular, even_then) refl)
    (candidate_2 (length g) (length (state done (front t k) later)) (length done) (get_or t.axes k 0) (in_rank done (whole_of later) (front t k))
    (AreAxesOf-at (length g) t.axes k own below)) in
    let leads : after (done ++ t ∷ later) (state done (front t k) later) (M2 (length done) (get_or t.axes k 0)) ≡ state done (front t (k + 1)) later =
    ap (λ (d : Dimension). set (state done (front t k) later) (length done) d) grown ∙ set-append_seam done (front t k) (whole_of later) (front t (k + 1)) in
    one_move g (done ++ t ∷ later) (state done (front t k) later) (state done (front t (k + 1)) later) (M2 (length done) (get_or t.axes k 0)) has leads
    (one_inside g done (whole_of later) (front t k) (front t (k + 1)) (inside_front g t k grid own even below))

split_axes : (g : List ℕ) (done later : List Dimension) (t : Dimension) (k : ℕ) → IsGrid g → AreAxesOf (length g) (axes_of (done ++ t ∷ later)) → AreAxesOf (length g) t.axes →
    is_even g t ≡ true → k ≤ length t.axes → HasWay (reshards g (done ++ t ∷ later)) (state done (front t 0) later) (state done (front t k) later) k
split_axes g done later t zero grid axes own even below = no_move g (done ++ t ∷ later) (state done (front t 0) later) (state done (front t 0) later) refl
split_axes g done later t (suc k) grid axes own even below =
    subst (λ n. HasWay (reshards g (done ++ t ∷ later)) (state done (front t 0) later) (state done (front t n) later) n) (add-one k)
    (joined (reshards g (done ++ t ∷ later)) (state done (front t 0) later) (state done (front t k) later) (state done (front t (k + 1)) later) k 1
    (split_axes g done later t k grid axes own even (omega arith)) (split_axis g done later t k grid axes own even (omega arith)))

split_even : (g : List ℕ) (done later : List Dimension) (t : Dimension) → IsGrid g → AreAxesOf (length g) (axes_of (done ++ t ∷ later)) → IsTarget g t →
    is_even g t ≡ true → HasWay (reshards g (done ++ t ∷ later)) (state done (unsplit t.extent) later) (state done t later) (length t.axes)
split_even g done later t grid axes target even =
    let none : front t 0 ≡ unsplit t.extent = rw ((even_is g t even).balanced, target.low, target.high) refl in
    let all : front t (length t.axes) ≡ t = ap (λ (xs : List ℕ). record t { axes = xs }) (take_all (length t.axes) t.axes (omega arith)) in
    subst (λ d. HasWay (reshards g (done ++ t ∷ later)) (state done (unsplit t.extent) later) (state done d later) (length t.axes)) all
    (subst (λ d. HasWay (reshards g (done ++ t ∷ later)) (state done d later) (state done (front t (length t.axes)) later) (length t.axes)) none
    (split_axes g done later t (length t.axes) grid axes target.axes even (omega arith)))

-- ---- an uneven dimension, at once

split_uneven : (g : List ℕ) (done later : List Dimension) (t : Dimension) → AreAxesOf (length g) (axes_of (done ++ t ∷ later)) → IsTarget g t →
    is_uneven g t ≡ true → HasWay (reshards g (done ++ t ∷ later)) (state done (unsplit t.extent) later) (state done t later) 1
unfolding after may
split_uneven g done later t axes target uneven =
    let there = here done later t in
    let whole : is_split (at (state done (unsplit t.extent) later) (length done)) ≡ false = rw (here done (whole_of later) (unsplit t.extent)) refl in
    let uneven_there : is_uneven g (at (done ++ t ∷ later) (length done)) ≡ true = rw there uneven in
    let unlisted : list_any (λ a. is_listed a (axes_of (state done (unsplit t.extent) later))) t.axes ≡ false =
    list_any_none (λ a. is_listed a (axes_of (state done (unsplit t.extent) later))) t.axes
    (All-from_get_or (λ a. is_listed a (axes_of (state done (unsplit t.extent) later)) ≡ false) t.axes 0
    (λ k below. free g done later t (unsplit t.extent) (get_or t.axes k 0) axes (λ a none. refl) (listed_at t.axes k below) refl)) in
    let unlisted_there : list_any (λ a. is_listed a (axes_of (state done (unsplit t.extent) later))) (at (done ++ t ∷ later) (length done)).axes ≡ false = rw there unlisted in
    let has = is_move g (done ++ t ∷ later) (state done (unsplit t.extent) later) (M5 (length done)) (rw (whole, uneven_there, unlisted_there) refl)
    (candidate_5 (length g) (length (state done (unsplit t.extent) later)) (length done) (in_rank done (whole_of later) (unsplit t.extent))) in
    let leads : after (done ++ t ∷ later) (state done (unsplit t.extent) later) (M5 (length done)) ≡ state done t later =
    ap (λ (d : Dimension). set (state done (unsplit t.extent) later) (length done) d) there ∙ set-append_seam done (unsplit t.extent) (whole_of later) t in
    one_move g (done ++ t ∷ later) (state done (unsplit t.extent) later) (state done t later) (M5 (length done)) has leads
    (one_inside g done (whole_of later) (unsplit t.extent) t (inside_whole g t target.placed))

-- ---- dimension by dimension

split_dimension : (g : List ℕ) (done later : List Dimension) (t : Dimension) → IsGrid g → AreAxesOf (length g) (axes_of (done ++ t ∷ later)) → IsTarget g t →
    HasWay (reshards g (done ++ t ∷ later)) (state done (unsplit t.extent) later) (state done t later) (splits_of g t)
split_dimension g done later t grid axes target = elim (cases_Bool (is_split t)) [
  | inl split ↦ elim (even_or_uneven g t split) [
    | inl even ↦ rw (even_axes g t even) (split_even g done later t grid axes target even)
    | inr uneven ↦ rw (uneven_once g t uneven) (split_uneven g done later t axes target uneven)
  ]
  | inr none ↦
      let same : unsplit t.extent ≡ t = sym (target.whole (none_split t.axes none)) in
      let no_axes : length t.axes ≡ 0 = ap length (none_split t.axes none) in
      let few = few_splits g t in
      let count : splits_of g t ≡ 0 = omega (arith, few, no_axes) in
      rw count (no_move g (done ++ t ∷ later) (state done (unsplit t.extent) later) (state done t later) (ap (λ (d : Dimension). state done d later) same))
]

-- a way on, where the target's axes are in order
abbrev IsReady : List ℕ → List Dimension → List Dimension → Type 0
IsReady g done later =
    AreAxesOf (length g) (axes_of (done ++ later)) → HasWay (reshards g (done ++ later)) (done ++ whole_of later) (done ++ later) (splits_in g later)

pub split_all : (g : List ℕ) (done later : List Dimension) → IsGrid g → AllByRecursion (IsTarget g) later → IsReady g done later
split_all g done [] grid targets axes = no_move g (done ++ []) (done ++ []) (done ++ []) refl
split_all g done (t ∷ later) grid targets axes =
    let moved : (ds : List Dimension) → (done ++ t ∷ []) ++ ds ≡ done ++ (t ∷ ds) = λ ds. append_assoc done (t ∷ []) ds in
    let first = split_dimension g done later t grid axes targets.0 in
    let rest : HasWay (reshards g ((done ++ t ∷ []) ++ later)) ((done ++ t ∷ []) ++ whole_of later) ((done ++ t ∷ []) ++ later) (splits_in g later) =
    split_all g (done ++ t ∷ []) later grid targets.1 (rw (moved later) axes) in
    let on : HasWay (reshards g (done ++ t ∷ later)) (state done t later) (done ++ t ∷ later) (splits_in g later) = rw (moved later, moved (whole_of later)) at rest in
    rw (sum_by-cons (splits_of g) t later)
    (joined (reshards g (done ++ t ∷ later)) (state done (unsplit t.extent) later) (state done t later) (done ++ t ∷ later) (splits_of g t) (splits_in g later) first on)
