-- What the tests of a table decide together: the clauses of a certificate.
use Rattle.std.proofs.Common.{◌≡◌, ◌∙◌, ℕ, ◌+◌, ◌≤◌, true, List, [], ◌∷◌, map, get_or, All, Some, ap, ap₂, sym, subst, refl, arith}
use Rattle.std.specs.Prelude.{slice_get}
use Rattle.std.specs.List.{Contains}
use Rattle.std.specs.Ordering.{ordering_then}
use Rattle.std.proofs.lemmas.Option.{get_or_from_slice_get, slice_get-get_or}
use Rattle.sh_sharding.specs.declared.shardings.Dimension.{Dimension}
use Rattle.sh_sharding.specs.Made.{plain, without_halos}
use Rattle.sh_sharding.specs.Order.{dimension_order, order_of}
use Rattle.sh_sharding.specs.Sharding.{HasNoHalos, IsSharding, ShardingValue, parts_of, whole_of}
use Rattle.sh_sharding.proofs.MadeLaws.{made_plain}
use Rattle.sh_ways.specs.Graph.{Leads, total}
use Rattle.sh_plan.specs.declared.moves.Move.{Move}
use Rattle.sh_plan.specs.declared.moves.Move.TheVariants.{M1, M2, M3, M4, M5}
use Rattle.sh_plan.specs.declared.plans.Distance.{Distance}
use Rattle.sh_plan.specs.declared.plans.Plan.{Plan}
use Rattle.sh_plan.specs.Checks.{AllHold, Covers, EntryHolds, IsChecked, IsSought, IsTableOf}
use Rattle.sh_plan.specs.Costs.{reshards}
use Rattle.sh_plan.specs.Found.{IsUncut}
use Rattle.sh_plan.specs.Moves.{IsNamedAt, may_be}
use Rattle.sh_plan.specs.Plans.{HasFlags, IsCertificate, IsListed, IsRising, reshards_to, state_of}
use Rattle.sh_plan.specs.States.{IsStateTo, towards}
use Rattle.sh_plan.proofs.CertificateLaws.{one_number}
use Rattle.sh_plan.proofs.Numbers.{all_get}
use Rattle.sh_plan.proofs.Reaches.{plain_whole}
use Rattle.sh_plan.proofs.WaySteps.{each_holds, of_moves, to_moves}

-- ---- a sharding with halos stands where the one without them does

order_plain : (g : List ℕ) (es ds : List Dimension) → order_of g es ds ≡ order_of g es (map plain ds)
unfolding dimension_order parts_of
order_plain g [] [] = refl
order_plain g [] (d ∷ ds) = refl
order_plain g (e ∷ es) [] = refl
order_plain g (e ∷ es) (d ∷ ds) = ap (λ o. ordering_then (dimension_order g e d) o) (order_plain g es ds)

pub sought_plain : (to s : ShardingValue) (ds : List Dimension) → IsSharding s → s.grid ≡ to.grid → whole_of s ≡ whole_of to → ds ≡ s.dimensions → IsSought to (without_halos s) ds
sought_plain to s ds ok grid whole same = record {
  state = record { state = made_plain s ok; grid = grid; whole = plain_whole s.dimensions ∙ whole };
  order = λ es. ap (λ xs. order_of to.grid.extents es xs) same ∙ order_plain to.grid.extents es s.dimensions;
}

-- ---- moves from entries

pub uncut_of : (to : ShardingValue) (table : List Distance) → IsTableOf to table → AllHold to table → IsUncut (towards to) table
uncut_of to table all hold = record {
  closed = λ ds m has move.
      let c = covers ds m has.number has.listed move in
      record { number = c.next; listed = subst (λ es. IsListed table ((towards to).to es m) c.next) has.listed.state c.listed };
  below = λ ds n m next l move l_next.
      let c = covers ds m n l move in
      let there : IsListed table ((towards to).to ds m) c.next = subst (λ es. IsListed table ((towards to).to es m) c.next) l.state c.listed in
      let number : next ≡ c.next = one_number to.grid.extents table all.rising ((towards to).to ds m) next c.next l_next there in
      let within : l.entry.cost ≤ (towards to).cost ds m + c.next = subst (λ es. l.entry.cost ≤ (towards to).cost es m + c.next) l.state c.within in
      omega (arith, number, within, l.number);
}
  where
    covers : (ds : List Dimension) (m : Move) (n : ℕ) → (l : IsListed table ds n) → Contains ((towards to).moves ds) m → Covers to table l.entry m
    covers ds m n l move =
        let is : IsStateTo to l.entry.sharding = all_get (λ (e : Distance). IsStateTo to e.sharding) table l.place l.entry all.each l.found in
        let holds : EntryHolds to table l.entry = all_get (EntryHolds to table) table l.place l.entry hold l.found in
        let here : Contains ((towards to).moves l.entry.sharding.dimensions) m = rw l.state move in
        let ok = of_moves to l.entry.sharding m is here in
        each_holds to table l.entry m holds ok.0 ok.1

pub hold_of : (to : ShardingValue) (table : List Distance) → IsTableOf to table → IsUncut (towards to) table → AllHold to table
hold_of to table all u k d within = record {
  each = λ i i_in. record {
    m1 = λ ok. covers (M1 i) i_in ok;
    m2 = λ a a_in ok. covers (M2 i a) (i_in, a_in) ok;
    m3 = λ f f_in ok. covers (M3 i f) (i_in, f_in) ok;
    m4 = λ ok. covers (M4 i) i_in ok;
    m5 = λ ok. covers (M5 i) i_in ok;
  };
}
  where
    found : slice_get table k ≡ Some (get_or table k d)
    found = slice_get-get_or table k d within

    covers : (m : Move) → IsNamedAt (get_or table k d).sharding m → may_be (get_or table k d).sharding to m ≡ true → Covers to table (get_or table k d) m
    covers m named ok =
        let is : IsStateTo to (get_or table k d).sharding = all_get (λ (e : Distance). IsStateTo to e.sharding) table k (get_or table k d) all.each found in
        let move = to_moves to (get_or table k d).sharding m is named ok in
        let own : IsListed table (get_or table k d).sharding.dimensions (get_or table k d).cost = record { place = k; entry = get_or table k d; found = found; state = refl; number = refl } in
        let next = u.closed (get_or table k d).sharding.dimensions m (record { number = (get_or table k d).cost; listed = own }) move in
        record {
          next = next.number;
          listed = next.listed;
          within = u.below (get_or table k d).sharding.dimensions (get_or table k d).cost m next.number own move next.listed;
        }

-- ---- the target's entry stands for the target

pub own_target : (to : ShardingValue) (t : Distance) (table : List Distance) → IsTableOf to table → IsStateTo to t.sharding → IsTableOf t.sharding table
own_target to t table all is = record {
  each = λ k d within. let e = all.each k d within in record { state = e.state; grid = e.grid ∙ sym is.grid; whole = e.whole ∙ sym is.whole };
  rising = rw is.grid all.rising;
}

graph_is : (to t : ShardingValue) → IsStateTo to t → t.dimensions ≡ state_of to → towards t ≡ reshards_to to
graph_is to t is same = ap₂ (λ g ds. reshards g.extents ds) is.grid same

own_entry : (table : List Distance) (ds : List Dimension) (i : ℕ) (e : Distance) → slice_get table i ≡ Some e → e.sharding.dimensions ≡ ds → IsListed table ds e.cost
own_entry table ds i e at same = record { place = i; entry = e; found = at; state = same; number = refl }

-- what is known of a table once its places are found
pub record IsReady (from to : ShardingValue) (p : Plan) (x t : Distance) : Type 0 where
  pub all : IsTableOf to p.table
  pub halo_free : All (λ e. HasNoHalos e.sharding.dimensions) p.table
  pub start : ℕ
  pub source : slice_get p.table start ≡ Some x
  pub from_is : x.sharding.dimensions ≡ state_of from
  pub goal : ℕ
  pub target : slice_get p.table goal ≡ Some t
  pub to_is : t.sharding.dimensions ≡ state_of to

pub certificate_of : (from to : ShardingValue) (p : Plan) (x t : Distance) → IsReady from to p x t → HasFlags from to p → IsChecked p.table x t p → IsCertificate from to p
certificate_of from to p x t r flags c =
    let is : IsStateTo to t.sharding = all_get (λ (e : Distance). IsStateTo to e.sharding) p.table r.goal t r.all.each r.target in
    let graph = graph_is to t.sharding is r.to_is in
    let u : IsUncut (reshards_to to) p.table = subst (λ g. IsUncut g p.table) graph (uncut_of t.sharding p.table (own_target to t p.table r.all is) c.hold) in
    let way : Leads (reshards_to to) x.sharding.dimensions p.moves t.sharding.dimensions = subst (λ g. Leads g x.sharding.dimensions p.moves t.sharding.dimensions) graph c.way.leads in
    let way' : Leads (reshards_to to) (state_of from) p.moves t.sharding.dimensions = subst (λ s. Leads (reshards_to to) s p.moves t.sharding.dimensions) r.from_is way in
    let sum : total (reshards_to to) x.sharding.dimensions p.moves ≡ p.cost = subst (λ g. total g x.sharding.dimensions p.moves ≡ p.cost) graph c.way.sum in
    let source : IsListed p.table (state_of from) x.cost = own_entry p.table (state_of from) r.start x r.source r.from_is in
    let target : IsListed p.table (state_of to) t.cost = own_entry p.table (state_of to) r.goal t r.target r.to_is in
    record {
      halo_free = r.halo_free;
      rising = r.all.rising;
      source = record { number = x.cost; listed = source };
      target = record { number = t.cost; listed = target };
      closed = u.closed;
      zero_at = subst (IsListed p.table (state_of to)) c.zero target;
      below = u.below;
      leads = subst (λ s. Leads (reshards_to to) (state_of from) p.moves s) r.to_is way';
      sum = subst (λ s. total (reshards_to to) s p.moves ≡ p.cost) r.from_is sum;
      distance = subst (IsListed p.table (state_of from)) c.cost source;
      flags = flags;
    }

pub checked_of : (from to : ShardingValue) (p : Plan) (x t : Distance) → IsReady from to p x t → IsCertificate from to p → IsChecked p.table x t p
checked_of from to p x t r c =
    let is : IsStateTo to t.sharding = all_get (λ (e : Distance). IsStateTo to e.sharding) p.table r.goal t r.all.each r.target in
    let graph = graph_is to t.sharding is r.to_is in
    let source : IsListed p.table (state_of from) x.cost = own_entry p.table (state_of from) r.start x r.source r.from_is in
    let target : IsListed p.table (state_of to) t.cost = own_entry p.table (state_of to) r.goal t r.target r.to_is in
    let u : IsUncut (reshards_to to) p.table = record { closed = c.closed; below = c.below } in
    let way : Leads (reshards_to to) x.sharding.dimensions p.moves (state_of to) = subst (λ s. Leads (reshards_to to) s p.moves (state_of to)) (sym r.from_is) c.leads in
    let way' : Leads (reshards_to to) x.sharding.dimensions p.moves t.sharding.dimensions = subst (λ s. Leads (reshards_to to) x.sharding.dimensions p.moves s) (sym r.to_is) way in
    let sum : total (reshards_to to) x.sharding.dimensions p.moves ≡ p.cost = subst (λ s. total (reshards_to to) s p.moves ≡ p.cost) (sym r.from_is) c.sum in
    record {
      zero = one_number to.grid.extents p.table r.all.rising (state_of to) t.cost 0 target c.zero_at;
      cost = one_number to.grid.extents p.table r.all.rising (state_of from) x.cost p.cost source c.distance;
      hold = hold_of t.sharding p.table (own_target to t p.table r.all is) (subst (λ g. IsUncut g p.table) (sym graph) u);
      way = record {
        leads = subst (λ g. Leads g x.sharding.dimensions p.moves t.sharding.dimensions) (sym graph) way';
        sum = subst (λ g. total g x.sharding.dimensions p.moves ≡ p.cost) (sym graph) sum;
      };
    }

pub ready : (from to : ShardingValue) (p : Plan) (table : List Distance) (x e t : Distance) (start goal : ℕ) → table ≡ p.table → All (λ y. IsStateTo to y.sharding) table →
    All (λ y. HasNoHalos y.sharding.dimensions) table → IsRising to.grid.extents table → slice_get table start ≡ Some x → x.sharding.dimensions ≡ state_of from →
    slice_get table goal ≡ Some e → e.sharding.dimensions ≡ state_of to → t ≡ get_or table goal t → IsReady from to p x t
ready from to p table x e t start goal same each free rising at_x x_is at_e e_is t_is =
    let entry : t ≡ e = t_is ∙ get_or_from_slice_get table goal e t at_e in
    record {
      all = subst (IsTableOf to) same (record { each = each; rising = rising });
      halo_free = subst (All (λ y. HasNoHalos y.sharding.dimensions)) same free;
      start = start;
      source = subst (λ l. slice_get l start ≡ Some x) same at_x;
      from_is = x_is;
      goal = goal;
      target = subst (λ l. slice_get l goal ≡ Some t) same (at_e ∙ ap Some (sym entry));
      to_is = ap (λ (y : Distance). y.sharding.dimensions) entry ∙ e_is;
    }
