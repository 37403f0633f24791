use Rattle.std.proofs.Common.{◌≡◌, ℕ, ◌+◌, ◌<◌, ◌≤◌, Bool, true, false, cond, sum, List, [], ◌∷◌, ◌++◌, take, length, arith, refl, ◌∙◌}
use Rattle.std.specs.Prelude.{Vec, slice_index}
use Rattle.std.specs.Global.{Global}
use Rattle.std.specs.List.{Contains}
use Rattle.std.proofs.Math.Seq.{take-append_seam}
use Rattle.std.proofs.lemmas.List.Elements.{All-contains, Contains-append_right}
use Rattle.sh_ways.specs.declared.search.Edge.{Edge}
use Rattle.sh_ways.specs.Graph.{Graph, HasWay, IsCovered, IsDist, IsFirst, IsPotential, IsTight, Leads, ThePlan, total}
use Rattle.sh_ways.specs.Rows.{no_number, AllBelow, AllReach, AreDists, AreSmall, AreWays, InRange, IsBelow, edges_at, graph_of}
use Rattle.sh_ways.proofs.Passes.{in_range}

-- numbers that no move undercuts are at most what any list of moves to the target costs
pub least_along : {S M : Type 0} (g : Graph S M) (Has : S → ℕ → Type 0) (t : S) → IsPotential g Has t →
    (s : S) (n : ℕ) (ms : List M) → Has s n → Leads g s ms t → n ≤ total g s ms
least_along g Has t p s n [] has e =
    let zero : n ≡ 0 = p.zero_at n (rw e at has) in
    omega arith
least_along g Has t p s n (m ∷ ms) has leads =
    let next : IsCovered g Has s n m = p.covered s n m has leads.0 in
    let rest : next.next ≤ total g (g.to s m) ms = least_along g Has t p (g.to s m) next.next ms next.there leads.1 in
    let here : n ≤ g.cost s m + next.next = next.within in
    omega arith

-- so a way at the cost of a number is a least one
pub certified : {S M : Type 0} (g : Graph S M) (Has : S → ℕ → Type 0) (s t : S) (n : ℕ) → IsPotential g Has t → Has s n → HasWay g s t n → IsDist g s t n
certified g Has s t n p has way = record {
  has = way;
  least = λ ms leads. least_along g Has t p s n ms has leads;
}

-- numbered states with these numbers
abbrev IsAt : {M : Type 0} → List (Vec (Edge M) Global) → List ℕ → ℕ → ℕ → Type 0
IsAt rows d i n = (i < length rows) × (n ≡ slice_index d i)

-- numbers that no edge undercuts, 0 at the goal
potential : {M : Type 0} (rows : List (Vec (Edge M) Global)) (goal : ℕ) (d : List ℕ) → InRange rows → AllBelow rows d → slice_index d goal ≡ 0 →
    IsPotential (graph_of rows) (IsAt rows d) goal
potential rows goal d range below zero = record {
  covered = λ i n e at has. record {
    next = slice_index d e.to;
    there = (in_range rows i e range has, refl);
    within = rw at.1 (All-contains (IsBelow d (slice_index d i)) (edges_at rows i) e (below i at.0) has);
  };
  zero_at = λ n at. at.1 ∙ zero;
}

-- they are the distances where each that is small is the cost of a way, and each state has a way
pub dists : {M : Type 0} (rows : List (Vec (Edge M) Global)) (goal : ℕ) (d : List ℕ) → InRange rows → length d ≡ length rows → AllBelow rows d → slice_index d goal ≡ 0 →
    AllReach rows goal → AreWays rows goal d → AreDists rows goal d
dists rows goal d range same below zero reach ways i within =
    let some = reach i within in
    let most : slice_index d i ≤ total (graph_of rows) i some.2.way =
    least_along (graph_of rows) (IsAt rows d) goal (potential rows goal d range below zero) i (slice_index d i) some.2.way (within, refl) some.2.leads in
    let small : slice_index d i < no_number = omega (arith, some.2.sum, some.1) in
    certified (graph_of rows) (IsAt rows d) i goal (slice_index d i) (potential rows goal d range below zero) (within, refl) (ways i (omega arith) small)

-- a list put into a vector of its length
pub refilled : (ws xs : List ℕ) (n : ℕ) → length ws ≡ n → take n (ws ++ xs) ≡ ws
refilled ws xs n e = rw (← e) (take-append_seam ws xs)

pub smaller : (result before : Bool) (new old : List ℕ) → before ≡ true → sum new ≤ sum old → (result ≡ true → sum new < sum old) → sum new + cond result 1 0 < sum old + cond before 1 0
smaller true before new old e most less = rw e (let h : sum new < sum old = less refl in omega arith)
smaller false before new old e most less = rw e (omega arith)

-- at the goal's distances, numbers are small where each state has a way
pub smalls : {M : Type 0} (rows : List (Vec (Edge M) Global)) (goal : ℕ) (d : List ℕ) → length d ≡ length rows → AllReach rows goal → AreDists rows goal d → AreSmall d
smalls rows goal d same reach dists i i_in =
    let i_row : i < length rows = omega arith in
    let some = reach i i_row in
    let most : slice_index d i ≤ total (graph_of rows) i some.2.way = (dists i i_row).least some.2.way some.2.leads in
    omega (arith, some.2.sum, some.1)

-- a distance is one number
pub dist_unique : {S M : Type 0} (g : Graph S M) (s t : S) (n k : ℕ) → IsDist g s t n → IsDist g s t k → n ≡ k
dist_unique g s t n k a b =
    let n_k : n ≤ k = rw (← b.has.sum) (a.least b.has.way b.has.leads) in
    let k_n : k ≤ n = rw (← a.has.sum) (b.least a.has.way a.has.leads) in
    omega arith

pub of_first : {X : Type 0} (P : X → Type 0) (xs : List X) (x : X) → IsFirst P xs x → Contains xs x
of_first P xs x f = rw f.parts (Contains-append_right f.before (x ∷ f.after) x (0, omega arith, refl))

-- the plan is a way of least cost
pub plan_leads : {S M : Type 0} (g : Graph S M) (s : S) (ms : List M) (t : S) → ThePlan g s ms t → Leads g s ms t
plan_leads g s [] t e = e
plan_leads g s (m ∷ ms) t p = (of_first (IsTight g t s) (g.moves s) m p.1, plan_leads g (g.to s m) ms t p.2)

pub plan_dist : {S M : Type 0} (g : Graph S M) (s : S) (ms : List M) (t : S) → ThePlan g s ms t → IsDist g s t (total g s ms)
plan_dist g s [] t e = record { has = record { way = []; leads = e; sum = refl }; least = λ ms l. omega arith }
plan_dist g s (m ∷ ms) t p =
    let tight : IsTight g t s m = p.1.this in
    let same : tight.rest ≡ total g (g.to s m) ms = dist_unique g (g.to s m) t tight.rest (total g (g.to s m) ms) tight.after (plan_dist g (g.to s m) ms t p.2) in
    rw (← same) tight.sum
