-- Each kind keeps the laws of a combine, on numbers and so on cells.
use Rattle.std.proofs.Common.{◌≡◌, ℕ, ◌+◌, ◌*◌, ◌-◌, ◌%◌, ◌^◌, ◌<◌, ◌⊎◌, ⊎_elim, inl, inr, refl, ap, sym, ◌∙◌, arith, bit_and, bit_or, ℤ, ◌≤ℤ◌, add_comm, add_assoc, Some}
use Rattle.std.proofs.Math.Nat.{mod-add-mod, add-mod-mod, mod-eq_of_lt, mul_comm, mul_assoc}
use Rattle.std.proofs.lemmas.Nat.{mul-mod_first, mul-mod_second, and_comm, or_comm, xor_comm, and_assoc, and_mask, pow_pos}
use Rattle.std.proofs.lemmas.Nat.Bits.{bit_at_or, same_from_bits}
use Rattle.std.proofs.lemmas.Int.{ints, clamps}
use Rattle.std.proofs.lemmas.Bool.{cases_cond}
use Rattle.std.specs.Prelude.{int_lt}
use Rattle.std.specs.Int.{int_max, int_min}
use Rattle.std.specs.Int.Bits.{xor_assoc, or_zero_l, xor_zero_l}
use Rattle.sh_base.specs.declared.numbers.Width.{Width}
use Rattle.sh_base.specs.declared.numbers.Cell.{Cell}
use Rattle.sh_base.specs.declared.numbers.Cell.TheVariants.{Undef, Val}
use Rattle.sh_base.specs.declared.operations.Kind.{Kind}
use Rattle.sh_base.specs.declared.operations.Kind.TheVariants.{Sum, Product, Max, Min, And, Or, Xor}
use Rattle.sh_base.specs.Cells.{IsCellOf, bits_of}
use Rattle.sh_int.specs.Signed.{signed_of, reduced}
use Rattle.sh_int.proofs.SignedLaws.{halves, reduced-signed_of, is_signed, signed_of-least_of, signed_of-greatest_of}
use Rattle.sh_int.specs.Elements.{on_numbers, number_by, element_of}
use Rattle.sh_int.specs.Reduction.{operation_of, combine_of, neutral_number, neutral_of, CombineLaws, Absorbs}
use Rattle.sh_int.proofs.ElementLaws.{number_by-below, on_numbers-within}

-- ---- signed choices

int_max_comm : (x y : ℤ) → int_max x y ≡ int_max y x
int_max_comm x y = omega (arith, ints, clamps)

int_min_comm : (x y : ℤ) → int_min x y ≡ int_min y x
int_min_comm x y = omega (arith, ints, clamps)

int_max_assoc : (x y z : ℤ) → int_max (int_max x y) z ≡ int_max x (int_max y z)
int_max_assoc x y z = omega (arith, ints, clamps)

int_min_assoc : (x y z : ℤ) → int_min (int_min x y) z ≡ int_min x (int_min y z)
int_min_assoc x y z = omega (arith, ints, clamps)

int_max_of_le : (x y : ℤ) → x ≤ℤ y → int_max x y ≡ y
int_max_of_le x y h = omega (arith, ints, clamps)

int_min_of_le : (x y : ℤ) → y ≤ℤ x → int_min x y ≡ y
int_min_of_le x y h = omega (arith, ints, clamps)

-- a choice between two signed values is the signed value of its number
signed_of-choice : (w : Width) (f : ℤ → ℤ → ℤ) (x y : ℕ) → (f (signed_of w x) (signed_of w y) ≡ signed_of w x) ⊎ (f (signed_of w x) (signed_of w y) ≡ signed_of w y) → x < 2 ^ bits_of w → y < 2 ^ bits_of w → signed_of w (reduced w (f (signed_of w x) (signed_of w y))) ≡ f (signed_of w x) (signed_of w y)
signed_of-choice w f x y (inl e) h k = ap (λ z. signed_of w (reduced w z)) e ∙ ap (signed_of w) (reduced-signed_of w x h) ∙ sym e
signed_of-choice w f x y (inr e) h k = ap (λ z. signed_of w (reduced w z)) e ∙ ap (signed_of w) (reduced-signed_of w y k) ∙ sym e

choice_assoc : (w : Width) (f : ℤ → ℤ → ℤ) → ((u v : ℤ) → (f u v ≡ u) ⊎ (f u v ≡ v)) → ((u v t : ℤ) → f (f u v) t ≡ f u (f v t)) → (x y z : ℕ) → x < 2 ^ bits_of w → y < 2 ^ bits_of w → z < 2 ^ bits_of w
    → reduced w (f (signed_of w (reduced w (f (signed_of w x) (signed_of w y)))) (signed_of w z)) ≡ reduced w (f (signed_of w x) (signed_of w (reduced w (f (signed_of w y) (signed_of w z)))))
choice_assoc w f cases assoc x y z h k l =
    let first = signed_of-choice w f x y (cases (signed_of w x) (signed_of w y)) h k in
    let second = signed_of-choice w f y z (cases (signed_of w y) (signed_of w z)) k l in
    ap (λ (u : ℤ). reduced w (f u (signed_of w z))) first ∙ ap (reduced w) (assoc (signed_of w x) (signed_of w y) (signed_of w z)) ∙ sym (ap (λ (u : ℤ). reduced w (f (signed_of w x) u)) second)

int_max_cases : (u v : ℤ) → (int_max u v ≡ u) ⊎ (int_max u v ≡ v)
int_max_cases u v = cases_cond (int_lt v u) u v (int_max u v) refl

int_min_cases : (u v : ℤ) → (int_min u v ≡ u) ⊎ (int_min u v ≡ v)
int_min_cases u v = ⊎_elim inr inl (cases_cond (int_lt v u) v u (int_min u v) refl)

-- ---- bits

or_assoc : (x y z : ℕ) → bit_or (bit_or x y) z ≡ bit_or x (bit_or y z)
or_assoc x y z = same_from_bits (bit_or (bit_or x y) z) (bit_or x (bit_or y z)) (λ i. simp bit_at_or (omega arith))

and_ones : (k x : ℕ) → x < 2 ^ k → bit_and (2 ^ k - 1) x ≡ x
and_ones k x h = and_comm (2 ^ k - 1) x ∙ and_mask x k ∙ mod-eq_of_lt h

-- ---- numbers

neutral_below : (k : Kind) (w : Width) → neutral_number k w < 2 ^ bits_of w
neutral_below Sum w = pow_pos (bits_of w)
neutral_below Product w = let e = halves w in let h = pow_pos (bits_of w - 1) in omega arith
neutral_below Max w = let e = halves w in let h = pow_pos (bits_of w - 1) in omega arith
neutral_below Min w = let e = halves w in let h = pow_pos (bits_of w - 1) in omega arith
neutral_below And w = let h = pow_pos (bits_of w) in omega arith
neutral_below Or w = pow_pos (bits_of w)
neutral_below Xor w = pow_pos (bits_of w)

left_neutral : (k : Kind) (w : Width) (x : ℕ) → x < 2 ^ bits_of w → number_by (operation_of k) w (neutral_number k w) x ≡ x
left_neutral Sum w x h = ap (λ n. n % 2 ^ bits_of w) (omega arith) ∙ mod-eq_of_lt h
left_neutral Product w x h = ap (λ n. n % 2 ^ bits_of w) (omega arith) ∙ mod-eq_of_lt h
left_neutral Max w x h = rw (signed_of-least_of w) (ap (reduced w) (int_max_of_le _ _ (is_signed w x h).low) ∙ reduced-signed_of w x h)
left_neutral Min w x h = rw (signed_of-greatest_of w) (ap (reduced w) (int_min_of_le _ _ (is_signed w x h).high) ∙ reduced-signed_of w x h)
left_neutral And w x h = and_ones (bits_of w) x h
left_neutral Or w x h = or_zero_l x
left_neutral Xor w x h = xor_zero_l x

associative : (k : Kind) (w : Width) (x y z : ℕ) → x < 2 ^ bits_of w → y < 2 ^ bits_of w → z < 2 ^ bits_of w → number_by (operation_of k) w (number_by (operation_of k) w x y) z ≡ number_by (operation_of k) w x (number_by (operation_of k) w y z)
associative Sum w x y z h k l = mod-add-mod (x + y) (2 ^ bits_of w) z ∙ ap (λ n. n % 2 ^ bits_of w) (add_assoc x y z) ∙ sym (add-mod-mod x (y + z) (2 ^ bits_of w))
associative Product w x y z h k l = mul-mod_first (x * y) z (2 ^ bits_of w) ∙ ap (λ n. n % 2 ^ bits_of w) (mul_assoc x y z) ∙ sym (mul-mod_second x (y * z) (2 ^ bits_of w))
associative Max w x y z h k l = choice_assoc w int_max int_max_cases int_max_assoc x y z h k l
associative Min w x y z h k l = choice_assoc w int_min int_min_cases int_min_assoc x y z h k l
associative And w x y z h k l = and_assoc z x y
associative Or w x y z h k l = or_assoc x y z
associative Xor w x y z h k l = xor_assoc x y z

commutative : (k : Kind) (w : Width) (x y : ℕ) → number_by (operation_of k) w x y ≡ number_by (operation_of k) w y x
commutative Sum w x y = ap (λ n. n % 2 ^ bits_of w) (add_comm x y)
commutative Product w x y = ap (λ n. n % 2 ^ bits_of w) (mul_comm x y)
commutative Max w x y = ap (reduced w) (int_max_comm (signed_of w x) (signed_of w y))
commutative Min w x y = ap (reduced w) (int_min_comm (signed_of w x) (signed_of w y))
commutative And w x y = and_comm x y
commutative Or w x y = or_comm x y
commutative Xor w x y = xor_comm x y

number_laws : (k : Kind) (w : Width) → CombineLaws (λ x. x < 2 ^ bits_of w) (neutral_number k w) (number_by (operation_of k) w)
number_laws k w = record {
  neutral_is = neutral_below k w;
  closed = number_by-below (operation_of k) w;
  left_neutral = left_neutral k w;
  associative = associative k w;
  commutative = λ x y _ _. commutative k w x y;
}

-- ---- cells

-- a combine of numbers makes one of cells
module _ (w : Width) (e : ℕ) (f : ℕ → ℕ → ℕ) (laws : CombineLaws (λ x. x < 2 ^ bits_of w) e f) where
  cells_neutral : (a : Cell) → IsCellOf w a → on_numbers f (Val e) a ≡ a
  cells_neutral Undef h = refl
  cells_neutral (Val x) h = ap Val (laws.left_neutral x h)

  cells_assoc : (a b c : Cell) → IsCellOf w a → IsCellOf w b → IsCellOf w c → on_numbers f (on_numbers f a b) c ≡ on_numbers f a (on_numbers f b c)
  cells_assoc Undef b c h k l = refl
  cells_assoc (Val x) Undef c h k l = refl
  cells_assoc (Val x) (Val y) Undef h k l = refl
  cells_assoc (Val x) (Val y) (Val z) h k l = ap Val (laws.associative x y z h k l)

  cells_comm : (a b : Cell) → IsCellOf w a → IsCellOf w b → on_numbers f a b ≡ on_numbers f b a
  cells_comm Undef Undef h k = refl
  cells_comm Undef (Val y) h k = refl
  cells_comm (Val x) Undef h k = refl
  cells_comm (Val x) (Val y) h k = ap Val (laws.commutative x y h k)

  cell_laws : CombineLaws (IsCellOf w) (Val e) (on_numbers f)
  cell_laws = record { neutral_is = laws.neutral_is; closed = on_numbers-within w w f laws.closed; left_neutral = cells_neutral; associative = cells_assoc; commutative = cells_comm }

pub combine_laws : (k : Kind) (w : Width) → CombineLaws (IsCellOf w) (neutral_of k w) (combine_of k w)
unfolding neutral_of combine_of
combine_laws k w = cell_laws w (neutral_number k w) (number_by (operation_of k) w) (number_laws k w)

pub undefined_absorbs : (k : Kind) (w : Width) → Absorbs Undef (combine_of k w)
unfolding combine_of
undefined_absorbs k w Undef = (refl, refl)
undefined_absorbs k w (Val x) = (refl, refl)

-- a kind combines by an element operation that is never stuck
pub element_of-operation_of : (k : Kind) (w : Width) (a b : Cell) → element_of (operation_of k) w a b ≡ Some (combine_of k w a b)
unfolding element_of combine_of
element_of-operation_of Sum w a b = refl
element_of-operation_of Product w a b = refl
element_of-operation_of Max w a b = refl
element_of-operation_of Min w a b = refl
element_of-operation_of And w a b = refl
element_of-operation_of Or w a b = refl
element_of-operation_of Xor w a b = refl
