-- What the decimal digits of a number are read as.
use Rattle.std.proofs.Common.{◌≡◌, ◌∙◌, ◌<◌, ◌+◌, ◌-◌, ◌*◌, ◌/◌, ◌%◌, ◌^◌, ℕ, suc, Bool, true, false, nat_eq, List, [], ◌∷◌, ◌++◌, refl, ap, sym, subst, arith, codes, true≢false}
use Rattle.std.specs.Prelude.{decimal}
use Rattle.std.specs.List.{AllByRecursion, prefix_len, take_while}
use Rattle.std.proofs.lemmas.Bool.{eqb-true}
use Rattle.std.proofs.lemmas.Fmt.{decimal_by_steps}
use Rattle.std.proofs.lemmas.Grind.{fold-append}
use Rattle.sh_lex.specs.Tokens.{decimal_of, is_digit}

abbrev pub AreDigits : List ℕ → Type 0
AreDigits bytes = AllByRecursion (λ b. is_digit b ≡ true) bytes

-- These bytes are digits, the first of them this one, and stand for the number.
pub record IsNumeral (n : ℕ) (bytes : List ℕ) : Type 0 where
  pub first : ℕ
  pub more : List ℕ
  pub is : bytes ≡ first ∷ more
  pub digits : AreDigits bytes
  pub value : decimal_of bytes ≡ n

digit_passes : (d : ℕ) → d < 10 → is_digit (48 + d) ≡ true
unfolding is_digit
digit_passes d h = grind arith

digits_append : (xs ys : List ℕ) → AreDigits xs → AreDigits ys → AreDigits (xs ++ ys)
digits_append [] ys a b = b
digits_append (x ∷ xs) ys a b = (a.0, digits_append xs ys a.1 b)

last_digit : (n : ℕ) → (n / 10) * 10 + (48 + n % 10 - 48) ≡ n
last_digit n = grind arith

pub numeral : (n : ℕ) → n < 2 ^ 64 → IsNumeral n (decimal n)
numeral n small = decimal_by_steps IsNumeral
    (λ n h. record {
      first = 48 + n;
      more = [];
      is = refl;
      digits = (digit_passes n h, tt);
      value = let e : 0 * 10 + (48 + n - 48) ≡ n = omega arith in e;
    })
    (λ n ds h it. record {
      first = it.first;
      more = it.more ++ ((48 + n % 10) ∷ []);
      is = ap (λ xs. xs ++ ((48 + n % 10) ∷ [])) it.is;
      digits = digits_append ds ((48 + n % 10) ∷ []) it.digits (digit_passes (n % 10) (let e : n % 10 < 10 = grind arith in e), tt);
      value =
          fold-append (λ n d. n * 10 + (d - 48)) 0 ds ((48 + n % 10) ∷ [])
          ∙ ap (λ m. m * 10 + (48 + n % 10 - 48)) it.value ∙ last_digit n;
    })
    n small

-- a digit isn't a byte that is none
pub other_byte : (b c : ℕ) → is_digit b ≡ true → is_digit c ≡ false → nat_eq b c ≡ false
other_byte b c is isnt = by (nat_eq b c) refl
  where
    by : (t : Bool) → nat_eq b c ≡ t → t ≡ false
    by false e = refl
    by true e = absurd (true≢false (sym is ∙ ap is_digit (eqb-true b c e) ∙ isnt))

pub byte_other : (b c : ℕ) → is_digit b ≡ true → is_digit c ≡ false → nat_eq c b ≡ false
byte_other b c is isnt = by (nat_eq c b) refl
  where
    by : (t : Bool) → nat_eq c b ≡ t → t ≡ false
    by false e = refl
    by true e = absurd (true≢false (sym is ∙ ap is_digit (sym (eqb-true c b e)) ∙ isnt))

one_plus : (n : ℕ) → 1 + n ≡ suc n
one_plus n = omega arith

pub leading_digits : (ds : List ℕ) → AreDigits ds → take_while is_digit (ds ++ codes "x") ≡ ds
unfolding is_digit
leading_digits [] h = refl
leading_digits (d ∷ ds) h = rw (h.0, one_plus (prefix_len is_digit (ds ++ codes "x"))) (ap (λ more. d ∷ more) (leading_digits ds h.1))

pub first_digit : {n : ℕ} {bytes : List ℕ} (it : IsNumeral n bytes) → is_digit it.first ≡ true
first_digit it = let all = subst AreDigits it.is it.digits in all.0
