-- A decimal that stands in a text before a byte that is no digit.
use Rattle.std.proofs.Common.{true, false, Some, None, take, drop, append_assoc, length-append, lt-ltb, ◌≡◌, ℕ, ◌+◌, ◌*◌, ◌-◌, ◌^◌, ◌<◌, ◌⊎◌, List, [], ◌∷◌, ◌++◌, ◌==◌, length, refl, ap, sym, ◌∙◌, arith, rules}
use Rattle.std.proofs.lemmas.Bool.Decides.{nat_tests}
use Rattle.std.proofs.lemmas.Fmt.{digits_decimal, digits_value-decimal}
use Rattle.std.proofs.lemmas.Option.{same_Some}
use Rattle.std.proofs.Math.Seq.{drop-append_seam, take-append_seam}
use Rattle.std.proofs.lemmas.Str.Parse.{IsNumeralModel, numerals_by_fold}
use Rattle.std.specs.Fmt.{decimal}
use Rattle.std.specs.List.{list_any, position, position_or_len}
use Rattle.std.specs.Str.{all_ascii_digits}

-- the number that digits stand for, after those read before
abbrev pub read_on : ℕ → List ℕ → ℕ
read_on n [] = n
read_on n (c ∷ cs) = read_on (10 * n + (c - 48)) cs

pub own : IsNumeralModel (λ ds. all_ascii_digits ds ≡ true) (read_on 0)
own = numerals_by_fold _ (search rules) read_on (search rules)

-- the first such byte stands right behind bytes of which none is one
pub first_behind : (byte : ℕ) (before after : List ℕ) → list_any (λ b. b == byte) before ≡ false → position_or_len (λ b. b == byte) (before ++ byte ∷ after) ≡ length before
first_behind byte [] after h = grind (arith, nat_tests)
first_behind byte (b ∷ before) after h = let rec = first_behind byte before after in grind (arith, nat_tests)

-- no digit is a byte outside the digits
digits_lack : (byte : ℕ) (ds : List ℕ) → (byte < 48) ⊎ (57 < byte) → all_ascii_digits ds ≡ true → list_any (λ b. b == byte) ds ≡ false
digits_lack byte [] out h = refl
digits_lack byte (d ∷ ds) out h = let rec = digits_lack byte ds out in grind (arith, nat_tests)

pub decimal_lacks : (byte n : ℕ) → n < 2 ^ 64 → (byte < 48) ⊎ (57 < byte) → list_any (λ b. b == byte) (decimal n) ≡ false
decimal_lacks byte n small out = digits_lack byte (decimal n) out (digits_decimal own n small)

-- what stands behind the first such byte
drop_behind : (byte : ℕ) (before after : List ℕ) → drop (length before + 1) (before ++ byte ∷ after) ≡ after
drop_behind byte before after =
    let e : before ++ byte ∷ after ≡ (before ++ byte ∷ []) ++ after = sym (append_assoc before (byte ∷ []) after) in
    let l : length before + 1 ≡ length (before ++ byte ∷ []) = sym (length-append before (byte ∷ [])) in
    rw (e, l) (drop-append_seam (before ++ byte ∷ []) after)

position_behind : (byte : ℕ) (before after : List ℕ) → list_any (λ b. b == byte) before ≡ false → position (λ b. b == byte) (before ++ byte ∷ after) ≡ Some (length before)
position_behind byte before after none =
    let at = first_behind byte before after none in
    let within : length before < length (before ++ byte ∷ after) = omega (arith, length-append before (byte ∷ after)) in
    rw at (rw (lt-ltb _ _ within) refl)

-- the two parts of a text that is split at the place of the first such byte
pub split_parts : (byte end : ℕ) (text before after : List ℕ) → list_any (λ b. b == byte) before ≡ false → text ≡ before ++ byte ∷ after → Some end ≡ position (λ b. b == byte) text → (take end text ≡ before) × (drop (end + 1) text ≡ after)
split_parts byte end text before after none e found =
    let at : Some end ≡ Some (length before) = rw e at found ∙ position_behind byte before after none in
    let is_length : end ≡ length before = same_Some _ _ at in
    rw (e, is_length) (take-append_seam before (byte ∷ after), drop_behind byte before after)

pub split_found : (byte : ℕ) (text before after : List ℕ) → list_any (λ b. b == byte) before ≡ false → text ≡ before ++ byte ∷ after → None ≡ position (λ b. b == byte) text → ⊥
split_found byte text before after none e found =
    let at : None ≡ Some (length before) = rw e at found ∙ position_behind byte before after none in
    cc

-- a decimal that ends at a byte that is no digit, and what stands behind it, are determined
pub one_decimal : (byte n m : ℕ) (rest other : List ℕ) → (byte < 48) ⊎ (57 < byte) → n < 2 ^ 64 → m < 2 ^ 64 → decimal n ++ (byte ∷ rest) ≡ decimal m ++ (byte ∷ other) → (n ≡ m) × (rest ≡ other)
one_decimal byte n m rest other out small_n small_m e =
    let here = position_behind byte (decimal n) rest (decimal_lacks byte n small_n out) in
    let parts = split_parts byte (length (decimal n)) (decimal n ++ (byte ∷ rest)) (decimal m) other (decimal_lacks byte m small_m out) e (sym here) in
    let same : decimal n ≡ decimal m = sym (take-append_seam (decimal n) (byte ∷ rest)) ∙ parts.0 in (
      sym (digits_value-decimal own n small_n) ∙ ap (read_on 0) same ∙ digits_value-decimal own m small_m,
      sym (drop_behind byte (decimal n) rest) ∙ parts.1,
    )
