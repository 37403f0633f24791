use Rattle.std.proofs.Common.{◌≡◌, ℕ, ◌+◌, ◌<◌, ◌≤◌, ◌≢◌, ◌⊎◌, Bool, true, false, List, [], ◌∷◌, ◌++◌, length, get_or, set, sum, All, arith, refl, sym, below_more, ap, ◌∙◌, inl, inr}
use Rattle.std.specs.Prelude.{Vec, slice_index}
use Rattle.std.specs.Global.{Global}
use Rattle.std.specs.List.{Contains}
use Rattle.std.proofs.lemmas.Bool.{cases_lt}
use Rattle.std.proofs.lemmas.List.{get_or_default, get_or-set_same, get_or-set_other, length-set}
use Rattle.std.proofs.lemmas.Bool.Decides.{eqb_tells}
use Rattle.std.proofs.lemmas.Option.{slice_get_cases, slice_get_read}
use Rattle.std.proofs.lemmas.List.Elements.{All-contains}
use Rattle.std.proofs.lemmas.List.Sums.{sum_by-set}
use Rattle.sh_ways.specs.declared.search.Edge.{Edge}
use Rattle.sh_ways.specs.Graph.{Graph, HasWay, Leads, total}
use Rattle.sh_ways.specs.Rows.{no_number, AreWays, InRange, IsBelow, edges_at, graph_of}

-- what holds before row i of a pass that began with the numbers `start`
pub record SoFar {M : Type 0} (rows : List (Vec (Edge M) Global)) (start : List ℕ) (i : ℕ) (d : List ℕ) (has_fallen : Bool) : Type 0 where
  pub same : length d ≡ length rows
  pub sums : sum d ≤ sum start
  pub fell : has_fallen ≡ true → sum d < sum start
  pub stays : has_fallen ≡ false → (d ≡ start) × ((j : ℕ) → j < i → All (IsBelow d (slice_index d j)) (edges_at rows j))
  pub ways : (goal : ℕ) → AreWays rows goal start → AreWays rows goal d
  pub least : (j : ℕ) → slice_index d j ≤ slice_index start j

-- a row's edges
pub edges_at-row : {M : Type 0} (rows : List (Vec (Edge M) Global)) (i : ℕ) (row : Vec (Edge M) Global) → i < length rows → row ≡ get_or rows i row → edges_at rows i ≡ row.items
edges_at-row rows i row h e = rw (slice_get_read rows (length rows) i row refl h e) refl

-- an edge leads to a row
pub in_range : {M : Type 0} (rows : List (Vec (Edge M) Global)) (i : ℕ) (e : Edge M) → InRange rows → Contains (edges_at rows i) e → e.to < length rows
in_range rows i e r has = elim (slice_get_cases rows i).1 [
  | inl h ↦
      let items : edges_at rows i ≡ h.0.items = rw h.2 refl in
      let all : All (λ edge. edge.to < length rows) h.0.items = rw h.3 at (r i h.0 h.1) in
      let in_row : Contains h.0.items e = rw items at has in
      All-contains (λ edge. edge.to < length rows) h.0.items e all in_row
  | inr h ↦
      let none : Contains [] e = rw h.1 at has in
      absurd (omega (arith, none.1))
]

-- a move before a way is a way
pub extended : {S M : Type 0} (g : Graph S M) (s t : S) (m : M) (n : ℕ) → Contains (g.moves s) m → HasWay g (g.to s m) t n → HasWay g s t (g.cost s m + n)
extended g s t m n h w = record { way = m ∷ w.way; leads = (h, w.leads); sum = ap (λ x. g.cost s m + x) w.sum }

pub starts : {M : Type 0} (rows : List (Vec (Edge M) Global)) (start : List ℕ) → length start ≡ length rows → SoFar rows start 0 start false
starts rows start e = record {
  same = e;
  sums = omega arith;
  fell = λ h. cc;
  stays = λ _. (refl, λ j h. absurd (omega arith));
  ways = λ goal w. w;
  least = λ j. omega arith;
}

-- a row that improves nothing
pub keeps : {M : Type 0} (rows : List (Vec (Edge M) Global)) (start : List ℕ) (i : ℕ) (d : List ℕ) (has_fallen : Bool) →
    SoFar rows start i d has_fallen → All (IsBelow d (slice_index d i)) (edges_at rows i) →
    SoFar rows start (i + 1) d has_fallen
keeps rows start i d has_fallen so below = record {
  same = so.same;
  sums = so.sums;
  fell = so.fell;
  stays = λ no_fall. ((so.stays no_fall).0, below_more (λ j. All (IsBelow d (slice_index d j)) (edges_at rows j)) i (so.stays no_fall).1 below);
  ways = so.ways;
  least = so.least;
}

same_or : (j i : ℕ) → (j ≡ i) ⊎ (j ≢ i)
same_or j i = elim (eqb_tells j i) [ inl h ↦ inl h.1 | inr h ↦ inr h.1 ]

lower_at : (d : List ℕ) (i lower j most : ℕ) → i < length d → get_or d j 0 ≤ most → lower ≤ get_or d i 0 → get_or (set d i lower) j 0 ≤ most
lower_at d i lower j most within h less = elim (same_or j i) [
  | inl e ↦ rw e (rw (get_or-set_same d i lower 0 within) (let k : get_or d i 0 ≤ most = rw e at h in omega arith))
  | inr ne ↦ rw (get_or-set_other d i j lower 0 ne) h
]

new_ways : {M : Type 0} (rows : List (Vec (Edge M) Global)) (goal i : ℕ) (d : List ℕ) (lower : ℕ) (e : Edge M) →
    AreWays rows goal d → i < length d → e.to < length d → lower < no_number →
    Contains (edges_at rows i) e → lower ≡ e.cost + get_or d e.to 0 →
    AreWays rows goal (set d i lower)
new_ways rows goal i d lower e w within to_in small has is j j_in j_small = elim (same_or j i) [
  | inl same ↦
      let there : HasWay (graph_of rows) e.to goal (get_or d e.to 0) = w e.to to_in (omega arith) in
      let here : HasWay (graph_of rows) i goal (e.cost + get_or d e.to 0) = extended (graph_of rows) i goal e (get_or d e.to 0) has there in
      rw same (rw (get_or-set_same d i lower 0 within) (rw is here))
  | inr ne ↦
      let old_in : j < length d = omega (arith, length-set d i lower) in
      let old_small : get_or d j 0 < no_number = rw (get_or-set_other d i j lower 0 ne) at j_small in
      rw (get_or-set_other d i j lower 0 ne) (w j old_in old_small)
]

-- the number at a row falls to what a way by one of its edges costs
pub falls : {M : Type 0} (rows : List (Vec (Edge M) Global)) (start : List ℕ) (i : ℕ) (d : List ℕ) (has_fallen : Bool) (lower : ℕ) (e : Edge M) →
    SoFar rows start i d has_fallen → i < length rows → lower < get_or d i 0 → lower < no_number →
    Contains (edges_at rows i) e → e.to < length rows → lower ≡ e.cost + get_or d e.to 0 →
    SoFar rows start (i + 1) (set d i lower) true
falls rows start i d has_fallen lower e so within less small has to_in is =
    let in_d : i < length d = omega (arith, so.same) in
    let sums : sum (set d i lower) + get_or d i 0 ≡ sum d + lower = sum_by-set (λ x. x) d i lower 0 in_d in
    record {
      same = length-set d i lower ∙ so.same;
      sums = omega (arith, so.sums);
      fell = λ _. omega (arith, so.sums);
      stays = λ h. cc;
      ways = λ goal w. new_ways rows goal i d lower e (so.ways goal w) in_d (omega (arith, so.same)) small has is;
      least = λ j. lower_at d i lower j (slice_index start j) in_d (so.least j) (omega arith);
    }

-- one more edge that doesn't undercut the least number
pub below_one_more : {M : Type 0} (d : List ℕ) (row : List (Edge M)) (i least lower : ℕ) (x : Edge M) → i < length row → x ≡ get_or row i x →
    lower ≤ least → IsBelow d lower x → ((k : ℕ) (e : Edge M) → k < i → IsBelow d least (get_or row k e)) →
    (k : ℕ) (e : Edge M) → k < i + 1 → IsBelow d lower (get_or row k e)
below_one_more d row i least lower x within is less here before k e k_in = elim (cases_lt k i) [
  | inl h ↦
      let b : least ≤ (get_or row k e).cost + slice_index d (get_or row k e).to = before k e h in
      omega arith
  | inr h ↦
      let k_is : k ≡ i = omega arith in
      let same : get_or row i e ≡ x = get_or_default row i e x within ∙ sym is in
      rw k_is (rw same here)
]

-- moves after moves
leads_on : {S M : Type 0} (g : Graph S M) (s : S) (ms : List M) (u : S) (ns : List M) (t : S) → Leads g s ms u → Leads g u ns t →
    Leads g s (ms ++ ns) t × (total g s (ms ++ ns) ≡ total g s ms + total g u ns)
leads_on g s [] u ns t e on = (rw e on, rw e (omega arith))
leads_on g s (m ∷ ms) u ns t leads on =
    let rest = leads_on g (g.to s m) ms u ns t leads.1 on in
    ((leads.0, rest.0), omega (arith, rest.1))

-- one way after another
pub joined : {S M : Type 0} (g : Graph S M) (s u t : S) (n k : ℕ) → HasWay g s u n → HasWay g u t k → HasWay g s t (n + k)
joined g s u t n k a b =
    let leads = leads_on g s a.way u b.way t a.leads b.leads in
    record { way = a.way ++ b.way; leads = leads.0; sum = omega (arith, leads.1, a.sum, b.sum) }
