-- What a binary search answers in a rising table of states.
use Rattle.std.proofs.Common.{◌≡◌, ◌∙◌, ℕ, ◌<◌, ◌≤◌, List, length, get_or, Some, Result, Ok, Err, ap, sym, refl, arith, inl, inr}
use Rattle.std.specs.Prelude.{slice_get}
use Rattle.std.specs.Cmp.{IsTotalOrder}
use Rattle.std.specs.List.Sorted.{IsBinarySearchResult, IsNonDecreasingBy, IsSearchInRange}
use Rattle.std.specs.Ordering.{ordering_index, ordering_reverse}
use Rattle.std.specs.Result.{result_ok}
use Rattle.std.specs.declared.cmp.Ordering.{Ordering}
use Rattle.std.specs.declared.cmp.Ordering.TheVariants.{Less, Equal, Greater}
use Rattle.std.proofs.lemmas.Bool.{cases_eq, cases_lt}
use Rattle.std.proofs.lemmas.Option.{get_or_from_slice_get, slice_get-get_or, slice_get_within}
use Rattle.sh_grid.specs.Grid.{GridValue}
use Rattle.sh_sharding.specs.declared.shardings.Dimension.{Dimension}
use Rattle.sh_sharding.specs.Order.{order_of}
use Rattle.sh_sharding.specs.Sharding.{ShardingValue}
use Rattle.sh_sharding.proofs.OrderLaws.{same_place, total_order}
use Rattle.sh_plan.specs.declared.plans.Distance.{Distance}
use Rattle.sh_plan.specs.Checks.{IsPlaceOf, IsSought, IsTableOf}
use Rattle.sh_plan.specs.States.{IsStateTo}
use Rattle.sh_plan.specs.Tables.{dimensions_on}
use Rattle.sh_plan.proofs.CertificateLaws.{own_state}
use Rattle.sh_plan.proofs.Numbers.{all_get}
use Rattle.sh_plan.proofs.TableSteps.{on_own_grid}

module _ {K : Type 0} {R : K → K → Ordering} (o : IsTotalOrder R) where
  most : (r : Ordering) → ordering_index r ≤ 2
  most Less = omega arith
  most Equal = omega arith
  most Greater = omega arith

  before_by : (a b t : K) (r : Ordering) → R a b ≡ Less → R b t ≡ r → ordering_index (R a t) ≤ ordering_index r
  before_by a b t Less less e = let h : R a t ≡ Less = o.trans a b t less e in rw h (omega arith)
  before_by a b t Equal less e =
      let back : R t b ≡ Equal = o.antisymm t b ∙ ap ordering_reverse e in
      let other : R b a ≡ R t a = o.congr b t a e in
      let flip : R a t ≡ R a b = o.antisymm a t ∙ ap ordering_reverse (sym other) ∙ sym (o.antisymm a b) in
      let h : R a t ≡ Less = flip ∙ less in
      rw h (omega arith)
  before_by a b t Greater less e = most (R a t)

  pub before_less : (a b t : K) → R a b ≡ Less → ordering_index (R a t) ≤ ordering_index (R b t)
  before_less a b t less = before_by a b t (R b t) less refl

-- the order that the search asks
abbrev pub asked : List ℕ → List Dimension → Distance → Ordering
asked g ds e = order_of g (dimensions_on g e.sharding) ds

asked_is : (to t : ShardingValue) (g : GridValue) (table : List Distance) (ds : List Dimension) → to.grid ≡ g → IsTableOf to table → IsSought to t ds → (i : ℕ) (e : Distance) →
    slice_get table i ≡ Some e → asked g.extents ds e ≡ order_of g.extents e.sharding.dimensions t.dimensions
asked_is to t g table ds grid all sought i e at =
    let is : IsStateTo to e.sharding = all_get (λ (x : Distance). IsStateTo to x.sharding) table i e all.each at in
    ap (λ es. order_of g.extents es ds) (on_own_grid g e.sharding (is.grid ∙ grid)) ∙ rw (← grid) (sought.order e.sharding.dimensions)

nondecreasing : (to t : ShardingValue) (g : GridValue) (table : List Distance) (ds : List Dimension) → to.grid ≡ g → IsTableOf to table → IsSought to t ds →
    IsNonDecreasingBy (λ e. ordering_index (asked g.extents ds e)) table
nondecreasing to t g table ds grid all sought i j d le within = elim (cases_eq i j) [
  | inl same ↦ rw same (omega arith)
  | inr ne ↦
      let at_i : slice_get table i ≡ Some (get_or table i d) = slice_get-get_or table i d (omega arith) in
      let at_j : slice_get table j ≡ Some (get_or table j d) = slice_get-get_or table j d within in
      let less : order_of g.extents (get_or table i d).sharding.dimensions (get_or table j d).sharding.dimensions ≡ Less =
      rw (← grid) (all.rising i j (get_or table i d) (get_or table j d) (omega arith) at_i at_j) in
      rw (asked_is to t g table ds grid all sought i (get_or table i d) at_i, asked_is to t g table ds grid all sought j (get_or table j d) at_j)
      (before_less (total_order g.extents) (get_or table i d).sharding.dimensions (get_or table j d).sharding.dimensions t.dimensions less)
]

equal_state : (to t : ShardingValue) (g : GridValue) (e : Distance) → to.grid ≡ g → IsStateTo to t → IsStateTo to e.sharding →
    order_of g.extents e.sharding.dimensions t.dimensions ≡ Equal → e.sharding.dimensions ≡ t.dimensions
equal_state to t g e grid is_t is_e equal =
    let here : order_of e.sharding.grid.extents e.sharding.dimensions t.dimensions ≡ Equal = rw (is_e.grid ∙ grid) equal in
    ap (λ (s : ShardingValue). s.dimensions) (same_place e.sharding t is_e.state is_t.state (is_e.grid ∙ sym is_t.grid) (is_e.whole ∙ sym is_t.whole) here)

pub place_is : (to t : ShardingValue) (g : GridValue) (table : List Distance) (ds : List Dimension) (r : Result ℕ ℕ) → to.grid ≡ g → IsTableOf to table → IsSought to t ds →
    IsSearchInRange r (length table) → IsBinarySearchResult (asked g.extents ds) table r → IsPlaceOf table t.dimensions (result_ok r)
place_is to t g table ds (Ok i) grid all sought within found =
    let d : Distance = record { sharding = t; cost = 0 } in
    let at : slice_get table i ≡ Some (get_or table i (record { sharding = t; cost = 0 })) = slice_get-get_or table i (record { sharding = t; cost = 0 }) within in
    let is : IsStateTo to (get_or table i (record { sharding = t; cost = 0 })).sharding = all_get (λ (x : Distance). IsStateTo to x.sharding) table i (get_or table i (record { sharding = t; cost = 0 })) all.each at in
    let equal : order_of g.extents (get_or table i (record { sharding = t; cost = 0 })).sharding.dimensions t.dimensions ≡ Equal =
    sym (asked_is to t g table ds grid all sought i (get_or table i (record { sharding = t; cost = 0 })) at) ∙ found (record { sharding = t; cost = 0 }) in
    record {
      entry = get_or table i (record { sharding = t; cost = 0 });
      found = at;
      state = equal_state to t g (get_or table i (record { sharding = t; cost = 0 })) grid sought.state is equal;
    }
place_is to t g table ds (Err i) grid all sought within found = λ j e at same.
    let parts = found (nondecreasing to t g table ds grid all sought) in
    let j_in : j < length table = slice_get_within table j e at in
    let is : get_or table j e ≡ e = get_or_from_slice_get table j e e at in
    let equal : asked g.extents ds e ≡ Equal = asked_is to t g table ds grid all sought j e at ∙ ap (λ es. order_of g.extents es t.dimensions) same ∙ own_state g.extents t.dimensions in
    let equal' : asked g.extents ds (get_or table j e) ≡ Equal = rw is equal in
    elim (cases_lt j i) [
      | inl less ↦ let l : asked g.extents ds (get_or table j e) ≡ Less = parts.0 j e (omega arith) less in cc
      | inr more ↦ let l : asked g.extents ds (get_or table j e) ≡ Greater = parts.1 j e more j_in in cc
    ]
