-- Signed values of numbers, what is left of an integer, and quotients.
use Rattle.std.proofs.Common.{◌≡◌, ℕ, zero, suc, ◌*◌, ◌-◌, ◌/◌, ◌%◌, ◌^◌, ◌<◌, ◌≤◌, refl, ap, ◌∙◌, arith, inl, inr, ℤ, pos, negsuc, ◌-ℤ◌, unsigned_abs}
use Rattle.std.proofs.Math.Nat.{div-le_self, mod-eq_of_lt}
use Rattle.std.specs.Int.{w128, cast_signed, cast_unsigned}
use Rattle.std.specs.Prelude.{int_div, int_rem, neg_ℤ, FitsSigned}
use Rattle.std.proofs.lemmas.Int.{ints, fits_signed_from_abs, quot_is, rem_is, int_rem_euclid_is}
use Rattle.std.proofs.lemmas.Bool.{cases_lt, lt-ltb, le-ltb}
use Rattle.std.proofs.lemmas.Nat.{pow_pos, mod_below}
use Rattle.sh_base.specs.declared.numbers.Width.{Width}
use Rattle.sh_base.specs.declared.numbers.Width.TheVariants.{I1, I8, I16, I32, I64}
use Rattle.sh_base.specs.Cells.{bits_of}
use Rattle.sh_int.specs.Signed.{signed_of, reduced, least_of, greatest_of, minus_one_of, IsSigned, TwosComplement}

unsigned_abs-neg : (n : ℕ) → unsigned_abs (neg_ℤ (pos n)) ≡ n
unsigned_abs-neg zero = refl
unsigned_abs-neg (suc n) = refl

-- a quotient is no larger than what is divided
unsigned_abs-int_div : (z d : ℤ) → unsigned_abs (int_div z d) ≤ unsigned_abs z
unsigned_abs-int_div (pos a) (pos b) = div-le_self a b
unsigned_abs-int_div (pos a) (negsuc b) = rw (unsigned_abs-neg (a / suc b)) (div-le_self a (suc b))
unsigned_abs-int_div (negsuc a) (pos b) = rw (unsigned_abs-neg (suc a / b)) (div-le_self (suc a) b)
unsigned_abs-int_div (negsuc a) (negsuc b) = div-le_self (suc a) (suc b)

signed_of-small : (w : Width) (x : ℕ) → x < 2 ^ bits_of w → unsigned_abs (signed_of w x) ≤ 2 ^ 64
signed_of-small I1 x h = grind (arith, ints)
signed_of-small I8 x h = grind (arith, ints)
signed_of-small I16 x h = grind (arith, ints)
signed_of-small I32 x h = grind (arith, ints)
signed_of-small I64 x h = grind (arith, ints)

-- what is left of an integer is a number of the width
pub reduced-below : (w : Width) (z : ℤ) → reduced w z < 2 ^ bits_of w
reduced-below w (pos a) = mod_below a (2 ^ bits_of w) (pow_pos (bits_of w))
reduced-below w (negsuc a) = let h = pow_pos (bits_of w) in omega arith

small_fits : (z : ℤ) → unsigned_abs z ≤ 2 ^ 64 → FitsSigned w128 z
small_fits z h = fits_signed_from_abs w128 z (omega arith)

-- what the code's `/` and `%` give at the signed values of two numbers
pub quotient_of : (w : Width) (x y : ℕ) → x < 2 ^ bits_of w → y < 2 ^ bits_of w → cast_signed w128 (cast_unsigned w128 (int_div (cast_signed w128 (cast_unsigned w128 (signed_of w x))) (cast_signed w128 (cast_unsigned w128 (signed_of w y))))) ≡ int_div (signed_of w x) (signed_of w y)
quotient_of w x y h k =
    let u = signed_of-small w x h in
    let q : unsigned_abs (int_div (signed_of w x) (signed_of w y)) ≤ 2 ^ 64 = omega (arith, u, unsigned_abs-int_div (signed_of w x) (signed_of w y)) in
    quot_is w128 (signed_of w x) (signed_of w y) (small_fits _ u) (small_fits _ (signed_of-small w y k)) (small_fits _ q)

pub remainder_of : (w : Width) (x y : ℕ) → x < 2 ^ bits_of w → y < 2 ^ bits_of w → cast_signed w128 (cast_unsigned w128 (int_rem (cast_signed w128 (cast_unsigned w128 (signed_of w x))) (cast_signed w128 (cast_unsigned w128 (signed_of w y))))) ≡ int_rem (signed_of w x) (signed_of w y)
remainder_of w x y h k = rem_is w128 (signed_of w x) (signed_of w y) (small_fits _ (signed_of-small w x h)) (small_fits _ (signed_of-small w y k))

pub reduced-signed_of : (w : Width) (x : ℕ) → x < 2 ^ bits_of w → reduced w (signed_of w x) ≡ x
reduced-signed_of w x h =
    elim (cases_lt (2 * x) (2 ^ bits_of w)) [
      | inl low ↦ rw (lt-ltb (2 * x) (2 ^ bits_of w) low) (mod-eq_of_lt h)
      | inr high ↦ rw (le-ltb (2 * x) (2 ^ bits_of w) high) (ap unsigned_abs (int_rem_euclid_is (pos x -ℤ pos (2 ^ bits_of w)) (pos (2 ^ bits_of w)) (2 ^ bits_of w) 1 x (pow_pos (bits_of w)) refl (omega (arith, ints))) ∙ mod-eq_of_lt h)
    ]

pub halves : (w : Width) → 2 * least_of w ≡ 2 ^ bits_of w
halves I1 = refl
halves I8 = refl
halves I16 = refl
halves I32 = refl
halves I64 = refl

pub signed_of-least_of : (w : Width) → signed_of w (least_of w) ≡ negsuc (2 ^ (bits_of w - 1) - 1)
signed_of-least_of I1 = refl
signed_of-least_of I8 = refl
signed_of-least_of I16 = refl
signed_of-least_of I32 = refl
signed_of-least_of I64 = refl

pub signed_of-greatest_of : (w : Width) → signed_of w (greatest_of w) ≡ pos (2 ^ (bits_of w - 1) - 1)
signed_of-greatest_of I1 = refl
signed_of-greatest_of I8 = refl
signed_of-greatest_of I16 = refl
signed_of-greatest_of I32 = refl
signed_of-greatest_of I64 = refl

pub signed_of-minus_one_of : (w : Width) → signed_of w (minus_one_of w) ≡ negsuc 0
signed_of-minus_one_of I1 = refl
signed_of-minus_one_of I8 = refl
signed_of-minus_one_of I16 = refl
signed_of-minus_one_of I32 = refl
signed_of-minus_one_of I64 = refl

pub is_signed : (w : Width) (x : ℕ) → x < 2 ^ bits_of w → IsSigned w (signed_of w x)
is_signed w x h =
    let half = halves w in
    elim (cases_lt (2 * x) (2 ^ bits_of w)) [
      | inl low ↦ rw (lt-ltb (2 * x) (2 ^ bits_of w) low) (record { low = omega (arith, ints); high = omega (arith, ints) })
      | inr high ↦ rw (le-ltb (2 * x) (2 ^ bits_of w) high) (record { low = omega (arith, ints); high = omega (arith, ints) })
    ]

pub signed_of-reduced : (w : Width) (z : ℤ) → IsSigned w z → signed_of w (reduced w z) ≡ z
signed_of-reduced w (pos a) s =
    let half = halves w in
    let high = s.high in
    let low : 2 * a < 2 ^ bits_of w = omega (arith, ints, pow_pos (bits_of w - 1)) in
    let same : a % 2 ^ bits_of w ≡ a = mod-eq_of_lt (omega arith) in
    rw same (rw (lt-ltb (2 * a) (2 ^ bits_of w) low) refl)
signed_of-reduced w (negsuc a) s =
    let half = halves w in
    let low = s.low in
    let small : a < 2 ^ bits_of w = omega (arith, ints, pow_pos (bits_of w - 1)) in
    let same : a % 2 ^ bits_of w ≡ a = mod-eq_of_lt small in
    let high : 2 ^ bits_of w ≤ 2 * (2 ^ bits_of w - 1 - a) = omega (arith, ints, pow_pos (bits_of w - 1)) in
    rw same (rw (le-ltb (2 * (2 ^ bits_of w - 1 - a)) (2 ^ bits_of w) high) (omega (arith, ints)))

pub twos_complement : (w : Width) → TwosComplement w
twos_complement w = record { in_range = is_signed w; number = reduced-signed_of w; below = reduced-below w; integer = signed_of-reduced w }
