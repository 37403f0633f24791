-- Ways through a table of which each move from an entry leads to an entry.
use Rattle.std.proofs.Common.{suc, ◌↔◌, ◌≡◌, ◌≢◌, ◌∙◌, ℕ, ◌+◌, ◌<◌, ◌≤◌, add-one, true, false, List, [], ◌∷◌, drop, length, get_or, Some, ap, sym, subst, refl, arith}
use Rattle.std.specs.Prelude.{slice_get}
use Rattle.std.specs.List.{Contains}
use Rattle.std.proofs.Math.Seq.{drop-cons}
use Rattle.std.proofs.lemmas.List.{drop_all}
use Rattle.std.proofs.lemmas.List.Elements.{All-contains}
use Rattle.sh_sharding.specs.declared.shardings.Dimension.{Dimension}
use Rattle.sh_sharding.specs.Sharding.{ShardingValue}
use Rattle.sh_plan.specs.declared.moves.Move.{Move}
use Rattle.sh_plan.specs.declared.moves.Move.TheVariants.{M1, M2, M3, M4, M5}
use Rattle.sh_plan.specs.declared.plans.Distance.{Distance}
use Rattle.sh_plan.specs.Checks.{Covers, EntryHolds, IsOnward, IsWay, MoveHolds, NotOnward}
use Rattle.sh_plan.specs.Costs.{cost_between, cost_from, reshards}
use Rattle.sh_plan.specs.Moves.{IsNamedAt, after, candidates, may_be, moves_from}
use Rattle.sh_plan.specs.States.{IsStateTo, towards}
use Rattle.sh_plan.proofs.EdgeRows.{are_allowed, are_named, moves_are}
use Rattle.sh_plan.proofs.Elements.{IsIn}
use Rattle.sh_plan.proofs.Gathers.{candidate_1, candidate_2, candidate_3, candidate_4, candidate_5, is_move}

-- a move of a state is one that names what there is and may be made
pub of_moves : (to s : ShardingValue) (m : Move) → IsStateTo to s → Contains ((towards to).moves s.dimensions) m → IsNamedAt s m × (may_be s to m ≡ true)
of_moves to s m is has =
    let here : Contains (moves_from s to) m = rw (moves_are s to (moves_from s to) is refl) has in (
      All-contains (IsNamedAt s) (moves_from s to) m (are_named s to (moves_from s to) refl) here,
      All-contains (λ x. may_be s to x ≡ true) (moves_from s to) m (are_allowed s to (moves_from s to) refl) here,
    )

candidate : (axes rank : ℕ) (s : ShardingValue) (m : Move) → axes ≡ length s.grid.extents → rank ≡ length s.dimensions → IsNamedAt s m → IsIn m (candidates axes rank)
candidate axes rank s (M1 d) a r named = candidate_1 axes rank d (rw r named)
candidate axes rank s (M2 d x) a r named = candidate_2 axes rank d x (rw r named.0) (rw a named.1)
candidate axes rank s (M3 d e) a r named = candidate_3 axes rank d e (rw r named.0) (rw r named.1)
candidate axes rank s (M4 d) a r named = candidate_4 axes rank d (rw r named)
candidate axes rank s (M5 d) a r named = candidate_5 axes rank d (rw r named)

pub to_moves : (to s : ShardingValue) (m : Move) → IsStateTo to s → IsNamedAt s m → may_be s to m ≡ true → Contains ((towards to).moves s.dimensions) m
to_moves to s m is named ok =
    is_move to.grid.extents to.dimensions s.dimensions m (rw (← is.grid) ok) (candidate (length to.grid.extents) (length s.dimensions) s m (ap (λ g. length g.extents) (sym is.grid)) refl named)

pub each_holds : (to : ShardingValue) (table : List Distance) (e : Distance) (m : Move) → EntryHolds to table e → IsNamedAt e.sharding m → MoveHolds to table e m
each_holds to table e (M1 d) h named = (h.each d named).m1
each_holds to table e (M2 d a) h named = (h.each d named.0).m2 a named.1
each_holds to table e (M3 d f) h named = (h.each d named.0).m3 f named.1
each_holds to table e (M4 d) h named = (h.each d named).m4
each_holds to table e (M5 d) h named = (h.each d named).m5

-- ---- a way that begins with a move

pub not_named : (to s : ShardingValue) (rest : ℕ) (m : Move) → IsStateTo to s → (IsNamedAt s m → ⊥) → NotOnward to s.dimensions rest m
not_named to s rest m is none = record { none = λ ms w. none (of_moves to s m is w.leads.0).0 }

pub not_allowed : (to s : ShardingValue) (rest : ℕ) (m : Move) → IsStateTo to s → may_be s to m ≡ false → NotOnward to s.dimensions rest m
not_allowed to s rest m is none = record { none = λ ms w. let ok = (of_moves to s m is w.leads.0).1 in let bad : true ≡ false = sym ok ∙ none in cc }

pub not_placed : (to : ShardingValue) (table : List Distance) (e : Distance) (rest : ℕ) (m : Move) → EntryHolds to table e → IsNamedAt e.sharding m → may_be e.sharding to m ≡ true →
    ((i : ℕ) (x : Distance) → slice_get table i ≡ Some x → x.sharding.dimensions ≢ after to.dimensions e.sharding.dimensions m) → NotOnward to e.sharding.dimensions rest m
unfolding reshards
not_placed to table e rest m h named ok none =
    let c : Covers to table e m = each_holds to table e m h named ok in
    absurd (none c.listed.place c.listed.entry c.listed.found c.listed.state)

step_cost : (to s x : ShardingValue) (m : Move) → IsStateTo to s → x.dimensions ≡ after to.dimensions s.dimensions m → cost_from s x ≡ (towards to).cost s.dimensions m
unfolding reshards
step_cost to s x m is same = ap (λ g. cost_between g.extents s.dimensions x.dimensions) is.grid ∙ ap (cost_between to.grid.extents s.dimensions) same

pub too_much : (to s x : ShardingValue) (rest : ℕ) (m : Move) → IsStateTo to s → x.dimensions ≡ after to.dimensions s.dimensions m → rest < cost_from s x → NotOnward to s.dimensions rest m
too_much to s x rest m is same more = record {
  none = λ ms w.
      let cost = step_cost to s x m is same in
      let sum = w.sum in
      omega (arith, cost, sum, more);
}

pub goes_on : (to : ShardingValue) (table : List Distance) (s : ShardingValue) (x : Distance) (rest left next : ℕ) (m : Move) → IsStateTo to s → IsNamedAt s m → may_be s to m ≡ true →
    slice_get table next ≡ Some x → x.sharding.dimensions ≡ after to.dimensions s.dimensions m → rest ≡ cost_from s x.sharding + left → IsOnward to table s.dimensions rest m (next, left)
unfolding reshards
goes_on to table s x rest left next m is named ok at same paid =
    let cost : cost_from s x.sharding ≡ (towards to).cost s.dimensions m = step_cost to s x.sharding m is same in
    record {
      place = record { entry = x; found = at; state = same };
      ways = λ ms. (
        (λ w. record { leads = w.leads.1; sum = let sum = w.sum in omega (arith, cost, sum, paid) }),
        (λ w. record { leads = (to_moves to s m is named ok, w.leads); sum = let sum = w.sum in omega (arith, cost, sum, paid) }),
      );
    }

-- ---- the moves that are left

pub blocked : (to : ShardingValue) (ds : List Dimension) (ms : List Move) (i : ℕ) (d : Move) (rest : ℕ) → i < length ms → NotOnward to ds rest (get_or ms i d) → IsWay to ds (drop i ms) rest → ⊥
blocked to ds ms i d rest within none w =
    let here : IsWay to ds (get_or ms i d ∷ drop (suc i) ms) rest = subst (λ xs. IsWay to ds xs rest) (drop-cons ms i d within) w in
    none.none (drop (suc i) ms) here

pub onwards : (to : ShardingValue) (table : List Distance) (ds es : List Dimension) (ms : List Move) (i : ℕ) (d : Move) (rest next left : ℕ) → i < length ms →
    IsOnward to table ds rest (get_or ms i d) (next, left) → es ≡ (towards to).to ds (get_or ms i d) → IsWay to ds (drop i ms) rest ↔ IsWay to es (drop (i + 1) ms) left
onwards to table ds es ms i d rest next left within on same =
    let front : drop i ms ≡ get_or ms i d ∷ drop (suc i) ms = drop-cons ms i d within in
    let after : drop (suc i) ms ≡ drop (i + 1) ms = ap (λ k. drop k ms) (sym (add-one i)) in (
      (λ w.
          let there : IsWay to ((towards to).to ds (get_or ms i d)) (drop (suc i) ms) left = (on.ways (drop (suc i) ms)).0 (subst (λ xs. IsWay to ds xs rest) front w) in
          rw same (subst (λ xs. IsWay to ((towards to).to ds (get_or ms i d)) xs left) after there)),
      (λ w.
          let there : IsWay to ((towards to).to ds (get_or ms i d)) (drop (suc i) ms) left =
          subst (λ xs. IsWay to ((towards to).to ds (get_or ms i d)) xs left) (sym after) (subst (λ xs. IsWay to xs (drop (i + 1) ms) left) same w) in
          subst (λ xs. IsWay to ds xs rest) (sym front) ((on.ways (drop (suc i) ms)).1 there)),
    )

pub ended : (to : ShardingValue) (ds : List Dimension) (ms : List Move) (i rest : ℕ) → length ms ≤ i → IsWay to ds (drop i ms) rest ↔ ((ds ≡ to.dimensions) × (rest ≡ 0))
ended to ds ms i rest past =
    let none : drop i ms ≡ [] = drop_all i ms past in (
      (λ w. let here : IsWay to ds [] rest = subst (λ xs. IsWay to ds xs rest) none w in (here.leads, sym here.sum)),
      (λ e. subst (λ xs. IsWay to ds xs rest) (sym none) (record { leads = e.0; sum = sym e.1 })),
    )
