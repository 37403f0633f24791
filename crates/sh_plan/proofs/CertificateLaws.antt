-- A certificate shows that no list of moves costs less.
use Rattle.std.proofs.Common.{◌≡◌, ◌∙◌, ℕ, List, ap, sym, refl, inl, inr, Some}
use Rattle.std.specs.Prelude.{slice_get}
use Rattle.std.specs.declared.cmp.Ordering.{Ordering}
use Rattle.std.specs.declared.cmp.Ordering.TheVariants.{Less, Equal, Greater}
use Rattle.std.specs.Ordering.{ordering_reverse}
use Rattle.std.proofs.lemmas.Bool.{cases_order}
use Rattle.sh_sharding.specs.declared.shardings.Dimension.{Dimension}
use Rattle.sh_sharding.specs.Sharding.{ShardingValue}
use Rattle.sh_sharding.specs.Order.{order_of}
use Rattle.sh_sharding.proofs.OrderLaws.{total_order}
use Rattle.sh_ways.specs.Graph.{IsPotential}
use Rattle.sh_ways.proofs.Least.{certified}
use Rattle.sh_plan.specs.declared.plans.Distance.{Distance}
use Rattle.sh_plan.specs.declared.plans.Plan.{Plan}
use Rattle.sh_plan.specs.Plans.{HasState, IsCertificate, IsLeast, IsListed, IsRising, reshards_to, state_of}

own : (o : Ordering) → o ≡ ordering_reverse o → o ≡ Equal
own Less e = cc
own Equal e = refl
own Greater e = cc

-- a state compares equal to itself
pub own_state : (g : List ℕ) (ds : List Dimension) → order_of g ds ds ≡ Equal
own_state g ds = own (order_of g ds ds) ((total_order g).antisymm ds ds)

-- a state of a rising table has one place
pub one_place : (g : List ℕ) (table : List Distance) → IsRising g table → (i j : ℕ) (a b : Distance) →
    slice_get table i ≡ Some a → slice_get table j ≡ Some b → a.sharding.dimensions ≡ b.sharding.dimensions → i ≡ j
one_place g table rising i j a b at_i at_j same = elim (cases_order i j) [
  | inl e ↦ e
  | inr (inl less) ↦
      let l : order_of g a.sharding.dimensions b.sharding.dimensions ≡ Less = rising i j a b less at_i at_j in
      let e : order_of g a.sharding.dimensions b.sharding.dimensions ≡ Equal = rw same (own_state g b.sharding.dimensions) in
      cc
  | inr (inr more) ↦
      let l : order_of g b.sharding.dimensions a.sharding.dimensions ≡ Less = rising j i b a more at_j at_i in
      let e : order_of g b.sharding.dimensions a.sharding.dimensions ≡ Equal = rw same (own_state g b.sharding.dimensions) in
      cc
]

-- and one number
pub one_number : (g : List ℕ) (table : List Distance) → IsRising g table → (ds : List Dimension) (n k : ℕ) → IsListed table ds n → IsListed table ds k → n ≡ k
one_number g table rising ds n k a b =
    let place : a.place ≡ b.place = one_place g table rising a.place b.place a.entry b.entry a.found b.found (a.state ∙ sym b.state) in
    let there : slice_get table b.place ≡ Some a.entry = rw place at a.found in
    let same : a.entry ≡ b.entry = cc in
    sym a.number ∙ ap (λ (e : Distance). e.cost) same ∙ b.number

potential : (from to : ShardingValue) (p : Plan) → IsCertificate from to p → IsPotential (reshards_to to) (IsListed p.table) (state_of to)
potential from to p c = record {
  covered = λ ds n m listed has.
      let there : HasState p.table ((reshards_to to).to ds m) = c.closed ds m (record { number = n; listed = listed }) has in
      record { next = there.number; there = there.listed; within = c.below ds n m there.number listed has there.listed };
  zero_at = λ n listed. one_number to.grid.extents p.table c.rising (state_of to) n 0 listed c.zero_at;
}

pub least : (from to : ShardingValue) (p : Plan) → IsCertificate from to p → IsLeast from to p
least from to p c = record {
  leads = c.leads;
  sum = c.sum;
  dist = certified (reshards_to to) (IsListed p.table) (state_of from) (state_of to) p.cost (potential from to p c) c.distance
      (record { way = p.moves; leads = c.leads; sum = c.sum });
}
