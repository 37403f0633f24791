-- A sorted list of states and their numbers is their table: it rises, since no two states are the same.
use Rattle.std.proofs.Common.{◌≡◌, ◌∙◌, ℕ, ◌<◌, Bool, true, false, List, [], ◌∷◌, length, map, get_or, All, Some, ap, sym, subst, refl, arith}
use Rattle.std.specs.Prelude.{IsPermutation, IsSortedBy, nat_eq, slice_get}
use Rattle.std.specs.Cmp.{unsigned_Decides}
use Rattle.std.specs.Cmp.Lexicographic.{pointwise, pointwise_decides}
use Rattle.std.specs.List.{AllByRecursion, Contains, IsDistinct}
use Rattle.std.specs.Ordering.{is_lt, ordering_reverse}
use Rattle.std.specs.declared.cmp.Ordering.{Ordering}
use Rattle.std.specs.declared.cmp.Ordering.TheVariants.{Less, Equal, Greater}
use Rattle.std.proofs.lemmas.List.Sorted.{All-permutation, Contains-permutation, ranks_by, sorted_far}
use Rattle.std.proofs.lemmas.Map.Keys.{IsDistinct-IsPermutation, IsDistinct-cons, IsDistinct-head, IsDistinct-tail, apart_from_distinct}
use Rattle.std.proofs.lemmas.Option.{get_or_from_slice_get, slice_get-get_or, slice_get_within}
use Rattle.sh_grid.specs.Grid.{GridValue}
use Rattle.sh_sharding.specs.Order.{order_of}
use Rattle.sh_sharding.specs.Sharding.{ShardingValue}
use Rattle.sh_sharding.proofs.OrderLaws.{same_place, total_order}
use Rattle.sh_plan.specs.declared.plans.Distance.{Distance}
use Rattle.sh_plan.specs.Plans.{IsRising}
use Rattle.sh_plan.specs.States.{IsStateTo, code_of, keys_of}
use Rattle.sh_plan.specs.Tables.{AreOn, HasNumber, IsTable, dimensions_on, is_before}
use Rattle.sh_plan.proofs.Numbers.{all_get, at_image, image, own_code, same_codes}

-- ---- entries apart

abbrev code : Distance → List ℕ
code e = code_of e.sharding.dimensions

abbrev alike : Distance → Distance → Bool
alike a b = pointwise nat_eq (code a) (code b)

both_ways : (a b : Bool) → (a ≡ true → b ≡ true) → (b ≡ true → a ≡ true) → a ≡ b
both_ways true b f h = sym (f refl)
both_ways false true f h = h refl
both_ways false false f h = refl

flips : (a b : Distance) → alike a b ≡ alike b a
flips a b = both_ways (alike a b) (alike b a)
    (λ e. let same = same_codes (code a) (code b) e in rw same (own_code (code b)))
    (λ e. let same = same_codes (code b) (code a) e in rw same (own_code (code a)))

all_apart : (e : Distance) (es : List Distance) → AllByRecursion (λ y. pointwise nat_eq (code e) y ≡ false) (map code_of (keys_of (map (λ x. x.sharding) es))) →
    AllByRecursion (λ y. alike e y ≡ false) es
all_apart e [] all = tt
all_apart e (x ∷ es) all = (all.0, all_apart e es all.1)

none_apart : IsDistinct alike []
unfolding IsDistinct
none_apart = tt

entries_apart : (es : List Distance) → IsDistinct (pointwise nat_eq) (map code_of (keys_of (map (λ x. x.sharding) es))) → IsDistinct alike es
entries_apart [] d = none_apart
entries_apart (e ∷ es) d =
    IsDistinct-cons alike e es (all_apart e es (IsDistinct-head (pointwise nat_eq) (code e) (map code_of (keys_of (map (λ x. x.sharding) es))) d))
    (entries_apart es (IsDistinct-tail (pointwise nat_eq) (code e) (map code_of (keys_of (map (λ x. x.sharding) es))) d))

-- ---- rising

own_list : (xs : List ℕ) → pointwise nat_eq xs xs ≡ true
own_list xs = (pointwise_decides unsigned_Decides xs xs).1 refl

pub on_own_grid : (g : GridValue) (s : ShardingValue) → s.grid ≡ g → dimensions_on g.extents s ≡ s.dimensions
on_own_grid g s e =
    let same : pointwise nat_eq s.grid.extents g.extents ≡ true = rw e (own_list g.extents) in
    rw same refl

less_then : (o p : Ordering) → o ≡ ordering_reverse p → is_lt p ≡ false → (o ≡ Equal → ⊥) → o ≡ Less
less_then Less p e not_less apart = refl
less_then Equal p e not_less apart = absurd (apart refl)
less_then Greater Less e not_less apart = absurd (cc)
less_then Greater Equal e not_less apart = absurd (cc)
less_then Greater Greater e not_less apart = absurd (cc)

rises : (g : GridValue) (target : ShardingValue) (table : List Distance) → target.grid ≡ g → All (λ e. IsStateTo target e.sharding) table →
    IsSortedBy (is_before g.extents) table → IsDistinct alike table → IsRising g.extents table
rises g target table grid each sorted distinct i j a b less at_i at_j =
    let a_is : IsStateTo target a.sharding = all_get (λ e. IsStateTo target e.sharding) table i a each at_i in
    let b_is : IsStateTo target b.sharding = all_get (λ e. IsStateTo target e.sharding) table j b each at_j in
    let within : j < length table = slice_get_within table j b at_j in
    let here : get_or table i a ≡ a = get_or_from_slice_get table i a a at_i in
    let there : get_or table j a ≡ b = get_or_from_slice_get table j b a at_j in
    let far : is_before g.extents (get_or table j a) (get_or table i a) ≡ false =
    sorted_far (is_before g.extents) (ranks_by (total_order g.extents) (λ (e : Distance). dimensions_on g.extents e.sharding)) table sorted i j a (omega arith) within in
    let not_back : is_before g.extents b a ≡ false = rw (here, there) at far in
    let not_less : is_lt (order_of g.extents b.sharding.dimensions a.sharding.dimensions) ≡ false =
    rw (on_own_grid g a.sharding (a_is.grid ∙ grid), on_own_grid g b.sharding (b_is.grid ∙ grid)) at not_back in
    let differ : alike (get_or table i a) (get_or table j a) ≡ false = apart_from_distinct alike table i j a distinct less within in
    let apart : alike a b ≡ false = rw (here, there) at differ in
    less_then (order_of g.extents a.sharding.dimensions b.sharding.dimensions) (order_of g.extents b.sharding.dimensions a.sharding.dimensions)
    ((total_order g.extents).antisymm a.sharding.dimensions b.sharding.dimensions) not_less
    (λ e.
    let equal : order_of a.sharding.grid.extents a.sharding.dimensions b.sharding.dimensions ≡ Equal = rw (a_is.grid ∙ grid) e in
    let same : a.sharding ≡ b.sharding = same_place a.sharding b.sharding a_is.state b_is.state (a_is.grid ∙ sym b_is.grid) (a_is.whole ∙ sym b_is.whole) equal in
    let yes : alike a b ≡ true = rw same (own_code (code b)) in
    cc)

-- ---- entries and places

contains_at : {X : Type 0} (xs : List X) (i : ℕ) (x : X) → slice_get xs i ≡ Some x → Contains xs x
contains_at xs i x at = (i, slice_get_within xs i x at, get_or_from_slice_get xs i x x at)

placed : {X : Type 0} (xs : List X) (x : X) → Contains xs x → (i : ℕ) × (slice_get xs i ≡ Some x)
placed xs x c = (c.0, slice_get-get_or xs c.0 x c.1 ∙ ap Some c.2)

-- the parts of an entry at its place
entry_at : (es : List Distance) (states : List ShardingValue) (numbers : List ℕ) → map (λ e. e.sharding) es ≡ states → map (λ e. e.cost) es ≡ numbers →
    (s : ShardingValue) (n : ℕ) → HasNumber states numbers s n → (e : Distance) × Contains es e × (e.sharding ≡ s) × (e.cost ≡ n)
entry_at es states numbers are costs s n has =
    let there : slice_get (map (λ (e : Distance). e.sharding) es) has.place ≡ Some s = rw are has.state in
    let number : slice_get (map (λ (e : Distance). e.cost) es) has.place ≡ Some n = rw costs has.number in
    let x = image (λ (e : Distance). e.sharding) es has.place s there in
    let y = image (λ (e : Distance). e.cost) es has.place n number in
    let x_at : slice_get es has.place ≡ Some x.this = x.at in
    let y_at : slice_get es has.place ≡ Some y.this = y.at in
    let same : y.this ≡ x.this = cc in
    let cost : x.this.cost ≡ n = ap (λ (e : Distance). e.cost) (sym same) ∙ y.value in
    (x.this, contains_at es has.place x.this x.at, x.value, cost)

all_numbered : (es : List Distance) (states : List ShardingValue) (numbers : List ℕ) → map (λ e. e.sharding) es ≡ states → map (λ e. e.cost) es ≡ numbers →
    All (λ e. HasNumber states numbers e.sharding e.cost) es
all_numbered es states numbers are costs k d within =
    let at : slice_get es k ≡ Some (get_or es k d) = slice_get-get_or es k d within in
    record {
      place = k;
      state = rw (← are) (at_image (λ (e : Distance). e.sharding) es k (get_or es k d) at);
      number = rw (← costs) (at_image (λ (e : Distance). e.cost) es k (get_or es k d) at);
    }

all_states : (P : ShardingValue → Type 0) (es : List Distance) → All P (map (λ e. e.sharding) es) → All (λ e. P e.sharding) es
all_states P es all k d within =
    let at : slice_get es k ≡ Some (get_or es k d) = slice_get-get_or es k d within in
    all_get P (map (λ (e : Distance). e.sharding) es) k (get_or es k d).sharding all (at_image (λ (e : Distance). e.sharding) es k (get_or es k d) at)

pub is_table : (g : GridValue) (states : List ShardingValue) (numbers : List ℕ) (es table : List Distance) → AreOn g states →
    map (λ e. e.sharding) es ≡ states → map (λ e. e.cost) es ≡ numbers → IsPermutation es table → IsSortedBy (is_before g.extents) table →
    IsTable g.extents states numbers table
is_table g states numbers es table on are costs same sorted =
    let each : All (λ e. IsStateTo on.target e.sharding) es = all_states (IsStateTo on.target) es (subst (All (IsStateTo on.target)) (sym are) on.each) in
    let apart : IsDistinct alike es = entries_apart es (subst (λ ss. IsDistinct (pointwise nat_eq) (map code_of (keys_of ss))) (sym are) on.apart) in
    record {
      rising = rises g on.target table on.grid (All-permutation (λ (e : Distance). IsStateTo on.target e.sharding) es table same each) sorted
          (IsDistinct-IsPermutation alike flips es table same apart);
      all = λ s n has.
          let e = entry_at es states numbers are costs s n has in
          let here = placed table e.0 (Contains-permutation es table e.0 same e.1) in
          record { place = here.0; entry = e.0; found = here.1; state = ap (λ (x : ShardingValue). x.dimensions) e.2; number = e.3 };
      only = All-permutation (λ (e : Distance). HasNumber states numbers e.sharding e.cost) es table same (all_numbered es states numbers are costs);
    }
