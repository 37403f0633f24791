-- Ways in a graph: what moves cost together, the least cost, and the first of the least ways.
use Rattle.std.specs.Prelude.{◌≡◌, ◌≢◌, ℕ, ◌+◌, ◌≤◌, List, [], ◌∷◌, ◌++◌, All, Contains}

-- a graph: the moves that may be made at a state, in their order, what a move costs there, and where
-- it leads
pub record Graph (S M : Type 0) : Type 0 where
  pub moves : S → List M
  pub cost : S → M → ℕ
  pub to : S → M → S

-- the moves lead from one state to the other, and each may be made where it is made
abbrev pub Leads : {S M : Type 0} → Graph S M → S → List M → S → Type 0
Leads g s [] t = s ≡ t
Leads g s (m ∷ ms) t = Contains (g.moves s) m × Leads g (g.to s m) ms t

-- what the moves cost together
abbrev pub total : {S M : Type 0} → Graph S M → S → List M → ℕ
total g s [] = 0
total g s (m ∷ ms) = g.cost s m + total g (g.to s m) ms

-- some moves lead from one state to the other at this cost
pub record HasWay {S M : Type 0} (g : Graph S M) (s t : S) (n : ℕ) : Type 0 where
  pub way : List M
  pub leads : Leads g s way t
  pub sum : total g s way ≡ n

-- the distance: the least cost of a list of moves from one state to the other
pub record IsDist {S M : Type 0} (g : Graph S M) (s t : S) (n : ℕ) : Type 0 where
  pub has : HasWay g s t n
  pub least : (ms : List M) → Leads g s ms t → n ≤ total g s ms

-- the move lies on a least way: its cost and the distance from where it leads are the distance
pub record IsTight {S M : Type 0} (g : Graph S M) (t s : S) (m : M) : Type 0 where
  pub rest : ℕ
  pub after : IsDist g (g.to s m) t rest
  pub sum : IsDist g s t (g.cost s m + rest)

-- the first element with a property
pub record IsFirst {X : Type 0} (P : X → Type 0) (xs : List X) (x : X) : Type 0 where
  pub before : List X
  pub after : List X
  pub parts : xs ≡ before ++ x ∷ after
  pub none : All (λ y. P y → ⊥) before
  pub this : P x

-- the plan: at each state up to the target the first move that lies on a least way
abbrev pub ThePlan : {S M : Type 0} → Graph S M → S → List M → S → Type 0
ThePlan g s [] t = s ≡ t
ThePlan g s (m ∷ ms) t =
    (s ≢ t) × IsFirst (IsTight g t s) (g.moves s) m × ThePlan g (g.to s m) ms t

-- plans lead from the one state to the other, and no list of moves costs less
abbrev pub ArePlansLeast : {S M : Type 0} → Graph S M → Type 0
ArePlansLeast {S} {M} g =
    (s : S) (ms : List M) (t : S) → ThePlan g s ms t → IsDist g s t (total g s ms)

-- ---- numbers that show what is least

-- the move leads to a state with a number, and this number is at most the move's cost and that one
pub record IsCovered {S M : Type 0} (g : Graph S M) (Has : S → ℕ → Type 0)
    (s : S) (n : ℕ) (m : M) : Type 0 where
  pub next : ℕ
  pub there : Has (g.to s m) next
  pub within : n ≤ g.cost s m + next

-- some states have numbers: the target no other than 0, and no move undercuts them or leaves these
-- states
pub record IsPotential {S M : Type 0} (g : Graph S M) (Has : S → ℕ → Type 0) (t : S) : Type 0 where
  pub covered : (s : S) (n : ℕ) (m : M) → Has s n → Contains (g.moves s) m →
      IsCovered g Has s n m
  pub zero_at : (n : ℕ) → Has t n → n ≡ 0
