-- What can't be refuted. Each case of a statement may be assumed in turn where `⊥` is shown: from `A → ⊥` and
-- `¬ A → ⊥`, by application.
use Rattle.std.proofs.Common.{ℕ, zero, suc, ◌+◌, ◌<◌, ◌≤◌, ◌↔◌, Bool, true, false, IsTrue, refl, true≢false, sym, arith}

-- the greatest number of which it holds
pub record Greatest (P : ℕ → Type 0) : Type 0 where
  pub number : ℕ
  pub holds : P number
  pub greatest : (m : ℕ) → P m → m ≤ number

-- what holds of some number, and of none above a bound, holds of a greatest one
pub greatest : (P : ℕ → Type 0) (bound more n : ℕ) → ((m : ℕ) → P m → m ≤ bound) → bound ≤ n + more → P n → ¬ (¬ (Greatest P))
greatest P bound zero n below left holds none =
    none (record { number = n; holds = holds; greatest = λ m also. let high = below m also in omega (arith, high, left) })
greatest P bound (suc more) n below left holds none =
    let higher : (m : ℕ) → P m → ¬ (n < m) =
    λ m also above. greatest P bound more m below (omega (arith, left, above)) also none in
    none (record { number = n; holds = holds; greatest = λ m also. let no_higher = higher m also in omega (arith, no_higher) })

-- a statement that a test tells
pub record Told (P : Type 0) : Type 0 where
  pub test : Bool
  pub tells : IsTrue test ↔ P

pub told : (P : Type 0) → ¬ (¬ (Told P))
told P none =
    let fails : ¬ P = λ holds. none (record { test = true; tells = (λ t. holds, λ p. refl) }) in
    none (record { test = false; tells = (λ t. absurd (true≢false (sym t)), λ p. absurd (fails p)) })
