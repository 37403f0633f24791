-- What the tests of a table decide.
use Rattle.std.proofs.Common.{zero, suc, ◌↔◌, ◌≡◌, ◌≢◌, ◌∙◌, ℕ, ◌+◌, ◌<◌, ◌≤◌, true, List, length, get_or, Some, ap, refl, arith, add-one, inl, inr}
use Rattle.std.specs.Prelude.{IfSome, Option, None, slice_get}
use Rattle.std.specs.declared.cmp.Ordering.TheVariants.{Less}
use Rattle.std.proofs.lemmas.Bool.{cases_eq, cases_lt}
use Rattle.std.proofs.lemmas.Option.{slice_get-get_or, slice_get_within}
use Rattle.sh_sharding.specs.declared.shardings.Dimension.{Dimension}
use Rattle.sh_sharding.specs.Made.{IsState}
use Rattle.sh_sharding.proofs.MadeLaws.{states_stay}
use Rattle.sh_sharding.specs.Order.{order_of}
use Rattle.sh_sharding.specs.Sharding.{ShardingValue}
use Rattle.sh_sharding.proofs.OrderLaws.{total_order}
use Rattle.sh_plan.specs.declared.moves.Move.{Move}
use Rattle.sh_plan.specs.declared.plans.Distance.{Distance}
use Rattle.sh_plan.specs.declared.moves.Move.TheVariants.{M1, M2, M3, M4, M5}
use Rattle.sh_plan.specs.Checks.{Covers, IsPlaceOf, IsSought, IsTableOf}
use Rattle.sh_plan.specs.Costs.{cost_between, cost_from, reshards}
use Rattle.sh_plan.specs.Moves.{IsNamedAt, after, may, may_be, moved}
use Rattle.sh_plan.specs.Plans.{IsListed, IsRising}
use Rattle.sh_plan.specs.States.{IsStateTo}
use Rattle.sh_plan.proofs.CertificateLaws.{one_number}
use Rattle.sh_plan.proofs.EdgeRows.{moved_to}
use Rattle.sh_plan.proofs.MovedSteps.{is_dropped}
use Rattle.sh_plan.proofs.MovedViews.{appended_by, exchange}
use Rattle.sh_plan.proofs.SplitSteps.{is_split_as}

-- the entries before a place rise, one by one
abbrev pub RisesTo : List ℕ → List Distance → ℕ → Type 0
RisesTo g table n =
    (j : ℕ) (a b : Distance) → j + 1 < n → slice_get table j ≡ Some a → slice_get table (j + 1) ≡ Some b → order_of g a.sharding.dimensions b.sharding.dimensions ≡ Less

-- neighbors that rise, rise all along
pub rises_all : (g : List ℕ) (table : List Distance) (n : ℕ) → length table ≤ n → RisesTo g table n → IsRising g table
rises_all g table n most next i j a b less at_i at_j = by j b less at_j
  where
    by : (j : ℕ) (b : Distance) → i < j → slice_get table j ≡ Some b → order_of g a.sharding.dimensions b.sharding.dimensions ≡ Less
    by zero b h at = absurd (omega arith)
    by (suc j) b h at =
        let within : suc j < length table = slice_get_within table (suc j) b at in
        let at' : slice_get table (j + 1) ≡ Some b = rw (add-one j) at in
        elim (cases_eq i j) [
          | inl e ↦ next j a b (omega arith) (rw e at at_i) at'
          | inr ne ↦
              let before : slice_get table j ≡ Some (get_or table j b) = slice_get-get_or table j b (omega arith) in
              (total_order g).trans a.sharding.dimensions (get_or table j b).sharding.dimensions b.sharding.dimensions (by j (get_or table j b) (omega arith) before)
              (next j (get_or table j b) b (omega arith) before at')
        ]

pub rises_part : (g : List ℕ) (table : List Distance) → IsRising g table → (n : ℕ) → RisesTo g table n
rises_part g table rising n j a b less at_i at_j = rising j (j + 1) a b (omega arith) at_i at_j

pub below_more : (P : ℕ → Type 0) (n : ℕ) → ((i : ℕ) → i < n → P i) → P n → (i : ℕ) → i < n + 1 → P i
below_more P n all p i h = elim (cases_lt i n) [
  | inl less ↦ all i less
  | inr more ↦ let e : i ≡ n = omega arith in rw e p
]

-- ---- a move from an entry

-- a move that may be made leads to a state
pub state_after : (to s : ShardingValue) (m : Move) → IsStateTo to s → IsState to → IsNamedAt s m → may_be s to m ≡ true → IsState (moved s to m)
unfolding after may
state_after to s (M1 d) is target named ok = is_dropped s d is.state named ok
state_after to s (M2 d a) is target named ok = (appended_by s to.dimensions d a is.state named.0 named.1 ok).1
state_after to s (M3 d e) is target named ok = (exchange s d e is.state named.0 named.1 ok).state
state_after to s (M4 d) is target named ok = (states_stay s is.state).gathered d named
state_after to s (M5 d) is target named ok = is_split_as s to d is.state target is.grid is.whole named ok

pub sought_after : (to s : ShardingValue) (m : Move) (ds : List Dimension) → IsStateTo to s → IsState to → IsNamedAt s m → may_be s to m ≡ true →
    ds ≡ after to.dimensions s.dimensions m → IsSought to (moved s to m) ds
sought_after to s m ds is target named ok same = record {
  state = moved_to to s (moved s to m) m is refl (state_after to s m is target named ok);
  order = λ es. ap (λ xs. order_of to.grid.extents es xs) same;
}

-- what is asked of it, where the next entry is known
pub covered : (to : ShardingValue) (table : List Distance) (e x : Distance) (m : Move) (at : ℕ) → IsTableOf to table → IsStateTo to e.sharding → slice_get table at ≡ Some x →
    x.sharding.dimensions ≡ after to.dimensions e.sharding.dimensions m → (e.cost ≤ cost_from e.sharding x.sharding + x.cost) ↔ Covers to table e m
unfolding reshards
covered to table e x m at all is at_x same = (
  (λ within. record { next = x.cost; listed = here; within = omega (arith, within, cost) }),
  (λ c.
      let number : c.next ≡ x.cost = one_number to.grid.extents table all.rising (after to.dimensions e.sharding.dimensions m) c.next x.cost c.listed here in
      let within = c.within in
      omega (arith, number, within, cost)),
)
  where
    here : IsListed table (after to.dimensions e.sharding.dimensions m) x.cost
    here = record { place = at; entry = x; found = at_x; state = same; number = refl }

    cost : cost_from e.sharding x.sharding ≡ cost_between to.grid.extents e.sharding.dimensions (after to.dimensions e.sharding.dimensions m)
    cost = ap (λ g. cost_between g.extents e.sharding.dimensions x.sharding.dimensions) is.grid ∙ ap (cost_between to.grid.extents e.sharding.dimensions) same

pub not_covered : (to : ShardingValue) (table : List Distance) (e : Distance) (m : Move) →
    ((i : ℕ) (x : Distance) → slice_get table i ≡ Some x → x.sharding.dimensions ≢ after to.dimensions e.sharding.dimensions m) → Covers to table e m → ⊥
unfolding reshards
not_covered to table e m none c = none c.listed.place c.listed.entry c.listed.found c.listed.state

pub place_within : (table : List Distance) (ds : List Dimension) (r : Option ℕ) → IsPlaceOf table ds r → IfSome r (λ at. at < length table)
place_within table ds None h = tt
place_within table ds (Some at) h = slice_get_within table at h.entry h.found
