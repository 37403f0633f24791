-- Cases that many proofs go by.
use Rattle.std.proofs.Common.{◌≡◌, ◌≢◌, ℕ, suc, length, ◌<◌, ◌≤◌, ◌⊎◌, inl, inr, List, [], ◌∷◌, Bool, true, false, refl, arith}
use Rattle.std.specs.Prelude.{nat_le, nat_lt, ◌==◌, ◌&&◌}
use Rattle.std.proofs.lemmas.Bool.Decides.{nat_tests}

pub lt_or_le : (a b : ℕ) → (a < b) ⊎ (b ≤ a)
lt_or_le a b = grind arith

pub same_or_not : (a b : ℕ) → (a ≡ b) ⊎ (a ≢ b)
same_or_not a b = grind arith

-- a number below the next one
pub below_next : (i k : ℕ) → i < suc k → (i < k) ⊎ (i ≡ k)
below_next i k h = grind arith

pub none_or_some : {X : Type 0} (xs : List X) → (xs ≡ []) ⊎ (xs ≢ [])
none_or_some [] = inl refl
none_or_some (x ∷ xs) = inr (λ e. cc)

pub not_both : (b : Bool) → b ≡ true → b ≡ false → ⊥
not_both b h k = cc

pub and_left : (a b : Bool) → (a && b) ≡ true → a ≡ true
and_left true b h = refl
and_left false true h = absurd (cc)
and_left false false h = absurd (cc)

pub and_right : (a b : Bool) → (a && b) ≡ true → b ≡ true
and_right true b h = h
and_right false true h = refl
and_right false false h = absurd (cc)

pub lt_from : (a b : ℕ) → nat_lt a b ≡ true → a < b
lt_from a b h = grind (arith, nat_tests)

pub le_from : (a b : ℕ) → nat_le a b ≡ true → a ≤ b
le_from a b h = grind (arith, nat_tests)

-- a list by a test of its length
pub empty_list : {X : Type 0} (xs : List X) (b : Bool) → b ≡ true → b ≡ (length xs == 0) → xs ≡ []
empty_list [] b h e = refl
empty_list (x ∷ xs) b h e = absurd (grind (arith, nat_tests))

pub some_list : {X : Type 0} (xs : List X) (b : Bool) → b ≡ false → b ≡ (length xs == 0) → xs ≢ []
some_list [] b h e same = absurd (grind (arith, nat_tests))
some_list (x ∷ xs) b h e same = cc
