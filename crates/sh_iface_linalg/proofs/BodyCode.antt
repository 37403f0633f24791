-- Lists as the code reads them: two operands, and the last name.
use Rattle.std.proofs.Common.{◌≡◌, ℕ, zero, suc, ◌+◌, ◌-◌, ◌<◌, ◌≤◌, List, [], ◌∷◌, ◌++◌, drop, length, refl, ap, ap₂, sym, arith, ◌∙◌}
use Rattle.std.proofs.lemmas.List.{drop_more}
use Rattle.std.specs.List.{range_with_len}
use Rattle.std.specs.Prelude.{◌&&◌, ◌||◌, get_or, nat_eq, not, slice_get}
use Rattle.sh_iface.specs.BodyKinds.{has_once, last_name}
use Rattle.sh_iface_linalg.specs.Bodies.{with_name, with_names}

pub once_of_two : (name : ℕ) (xs : List ℕ) → length xs ≡ 2 → has_once name xs ≡ (not (nat_eq (get_or xs 0 0) (get_or xs 1 0)) && (nat_eq (get_or xs 0 0) name || nat_eq (get_or xs 1 0) name))
once_of_two name [] e = absurd (omega (arith, e))
once_of_two name (a ∷ []) e = absurd (omega (arith, e))
once_of_two name (a ∷ b ∷ []) e = refl
once_of_two name (a ∷ b ∷ c ∷ xs) e = absurd (omega (arith, e))

pub last_is : (xs : List ℕ) → last_name xs ≡ slice_get xs (length xs - 1)
last_is [] = refl
last_is (a ∷ []) = refl
last_is (a ∷ b ∷ xs) =
    let z : length (a ∷ b ∷ xs) - 1 ≡ suc (length (b ∷ xs) - 1) = omega arith in
    last_is (b ∷ xs) ∙ ap (slice_get (a ∷ b ∷ xs)) (sym z)

-- names one by one
pub name_pushed : (from name : ℕ) (old now : List ℕ) → from ≤ name → now ≡ old ++ range_with_len from (name - from) → now ++ name ∷ [] ≡ old ++ range_with_len from (name + 1 - from)
name_pushed from name old now le is =
    let n : name + 1 - from ≡ suc (name - from) = omega (arith, le) in
    ap (λ xs. xs ++ name ∷ []) is ∙ behind old (range_with_len from (name - from)) ∙ ap (λ xs. old ++ xs) (longer from (name - from) name (omega (arith, le))) ∙ ap (λ m. old ++ range_with_len from m) (sym n)
  where
    behind : (xs ys : List ℕ) → (xs ++ ys) ++ name ∷ [] ≡ xs ++ (ys ++ name ∷ [])
    behind [] ys = refl
    behind (x ∷ xs) ys = ap (λ zs. x ∷ zs) (behind xs ys)

    longer : (b n m : ℕ) → m ≡ b + n → range_with_len b n ++ m ∷ [] ≡ range_with_len b (suc n)
    longer b zero m e = let z : m ≡ b = omega (arith, e) in ap (λ k. k ∷ []) z
    longer b (suc n) m e = ap (λ zs. b ∷ zs) (longer (b + 1) n m (omega (arith, e)))

-- one name more is numbered
pub numbered_next : (names : List ℕ) (i from name next now_next : ℕ) (start old now : ℕ → ℕ) → i < length names → name ≡ get_or names i 0 → now ≡ with_name old name next → now_next ≡ next + 1
    → (with_names old (drop i names) next ≡ with_names start names from) × (next ≡ from + i) → (with_names now (drop (i + 1) names) now_next ≡ with_names start names from) × (now_next ≡ from + (i + 1))
numbered_next names i from name next now_next start old now lt is now_is more h = (
  ap₂ (λ f n. with_names f (drop (i + 1) names) n) now_is more
      ∙ ap (λ ns. with_names old ns next) (sym (drop_more names i 0 lt ∙ ap (λ n. n ∷ drop (i + 1) names) (sym is))) ∙ h.0,
  let a = h.1 in omega (arith, a, more),
)
