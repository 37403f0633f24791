-- What the values' tests say.
use Rattle.std.proofs.Common.{◌≡◌, ◌∙◌, ◌<◌, ◌≤◌, ◌^◌, ◌&&◌, ℕ, Bool, cond, true, false, refl, sym, ap, List, [], ◌∷◌, Some, None, is_some, length, nat_le, nat_lt, Result, Ok, Err}
use Rattle.std.specs.Result.{result_ok}
use Rattle.std.specs.Char.{is_ascii_digit}
use Rattle.std.specs.List.{list_all}
use Rattle.std.specs.Str.{all_ascii_digits}
use Rattle.std.specs.Str.Parse.{ParsesUnsigned, digits_value}
use Rattle.std.proofs.lemmas.Bool.{and_left, and_right, lt-ltb, le-leb, lt-leb, ltb-true}
use Rattle.std.proofs.lemmas.Str.Parse.{IsNumeralModel, numerals_by_value, parse_digits, tells_all_ascii_digits}
use Rattle.sh_words.specs.Values.{decimal_of, is_decimal}

pub too_long : (text : List ℕ) → 20 < length text → None ≡ decimal_of text
too_long text long =
    let short : nat_le (length text) 20 ≡ false = lt-leb (length text) 20 long in
    let fails : is_decimal text ≡ false = and_right (list_all is_ascii_digit text) _ (and_right (nat_lt 0 (length text)) _ (and_left (nat_le (length text) 20) _ short)) in
    rw fails refl

pub not_digits : (text : List ℕ) → list_all is_ascii_digit text ≡ false → None ≡ decimal_of text
not_digits text e = rw e refl

same_digits : (text : List ℕ) → list_all is_ascii_digit text ≡ all_ascii_digits text
same_digits [] = refl
same_digits (c ∷ cs) = ap (λ b. is_ascii_digit c && b) (same_digits cs)

own : IsNumeralModel (λ ds. all_ascii_digits ds ≡ true) (digits_value 10)
own = numerals_by_value (λ ds. all_ascii_digits ds ≡ true) tells_all_ascii_digits

pub parsed : {E : Type 0} (text : List ℕ) (r : Result ℕ E) → ParsesUnsigned 64 10 text r → list_all is_ascii_digit text ≡ true → length text ≤ 20 → result_ok r ≡ decimal_of text
parsed {E} text (Ok n) h digits short =
    let p = parse_digits own {E = E} 64 text (Ok n) h (sym (same_digits text) ∙ digits) in
    rw (digits, lt-ltb 0 (length text) p.0.0, le-leb (length text) 20 short, lt-ltb (digits_value 10 text) (2 ^ 64) p.0.1) (ap Some p.1)
parsed {E} text (Err e) h digits short =
    let p = parse_digits own {E = E} 64 text (Err e) h (sym (same_digits text) ∙ digits) in
    go (nat_lt 0 (length text)) (nat_lt (digits_value 10 text) (2 ^ 64)) refl refl p
  where
    go : (a b : Bool) → nat_lt 0 (length text) ≡ a → nat_lt (digits_value 10 text) (2 ^ 64) ≡ b → ¬ ((0 < length text) × (digits_value 10 text < 2 ^ 64)) → None ≡ decimal_of text
    go false b e f bad = rw (digits, e) refl
    go true false e f bad = rw (digits, e, le-leb (length text) 20 short, f) refl
    go true true e f bad = absurd (bad (ltb-true _ _ e, ltb-true _ _ f))

pub some_decimal : (text : List ℕ) → is_some (decimal_of text) ≡ is_decimal text
some_decimal text = go (is_decimal text)
  where
    go : (b : Bool) → is_some (cond b (Some (digits_value 10 text)) None) ≡ b
    go true = refl
    go false = refl
