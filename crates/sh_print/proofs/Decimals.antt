-- Decimals are digits, and their value is the number.
use Rattle.std.proofs.Common.{◌≡◌, ℕ, zero, suc, ◌+◌, ◌*◌, ◌-◌, ◌/◌, ◌%◌, ◌^◌, ◌<◌, Bool, true, false, nat_eq, if◌then◌else◌, List, [], ◌∷◌, refl, ap, ◌∙◌, subst, sym, arith, lt-ltb}
use Rattle.std.specs.Fmt.{decimal, digits, digits_onto, digit_glyph}
use Rattle.std.specs.List.{fold}
use Rattle.std.specs.Str.{all_ascii_digits}
use Rattle.std.proofs.Math.Nat.{mod-lt}
use Rattle.std.proofs.lemmas.Bool.Decides.{nat_tests}
use Rattle.std.proofs.lemmas.Fmt.{digits_value-decimal}
use Rattle.std.proofs.lemmas.Str.Parse.{IsNumeralModel, FoldsDigits, numerals_by_fold, tells_all_ascii_digits}
use Rattle.sh_lex.specs.Tokens.{is_digit, Each, IsRun, decimal_of, leading_value}
use Rattle.sh_lex.proofs.Runs.{each_of_run}
use Rattle.sh_print.proofs.TokenReadings.{all_taken}

abbrev read_on : ℕ → List ℕ → ℕ
read_on n ds = fold (λ m d. m * 10 + (d - 48)) n ds

own : IsNumeralModel (λ ds. all_ascii_digits ds ≡ true) (read_on 0)
own = numerals_by_fold _ tells_all_ascii_digits read_on (record { empty = λ n. refl; more = λ n c cs k. refl })

pub decimal_value : (n : ℕ) → n < 2 ^ 64 → decimal_of (decimal n) ≡ n
decimal_value n small = digits_value-decimal own n small

glyph_is_digit : (d : ℕ) → d < 10 → is_digit (digit_glyph false d) ≡ true
unfolding is_digit
glyph_is_digit d small =
    let e : digit_glyph false d ≡ 48 + d = rw (lt-ltb d 10 small) refl in
    rw e (grind (arith, nat_tests))

last_is_digit : (n : ℕ) → is_digit (digit_glyph false (n % 10)) ≡ true
last_is_digit n = glyph_is_digit (n % 10) (mod-lt n (omega arith))

run_onto : (k n b : ℕ) (behind : List ℕ) → Each is_digit (b ∷ behind) → IsRun is_digit (digits_onto k 10 false n (b ∷ behind))
run_onto zero n b behind each = each
run_onto (suc k) n b behind each =
    go (nat_eq (n / 10) 0) (run_onto k (n / 10) (digit_glyph false (n % 10)) (b ∷ behind) (last_is_digit n, each))
  where
    go : (v : Bool) → let more : List ℕ = digit_glyph false (n % 10) ∷ (b ∷ behind) in IsRun is_digit (digits_onto k 10 false (n / 10) more)
        → IsRun is_digit (if v then more else digits_onto k 10 false (n / 10) more)
    go true more = (last_is_digit n, each)
    go false more = more

run_from : (k n : ℕ) → IsRun is_digit (digits_onto (suc k) 10 false n [])
run_from k n = go (nat_eq (n / 10) 0) (run_onto k (n / 10) (digit_glyph false (n % 10)) [] (last_is_digit n, tt))
  where
    go : (v : Bool) → let last : List ℕ = digit_glyph false (n % 10) ∷ [] in IsRun is_digit (digits_onto k 10 false (n / 10) last)
        → IsRun is_digit (if v then last else digits_onto k 10 false (n / 10) last)
    go true more = (last_is_digit n, tt)
    go false more = more

pub decimal_run : (n : ℕ) → IsRun is_digit (decimal n)
unfolding digits
decimal_run n = run_from 63 n

pub decimal_fits : (n : ℕ) → n < 2 ^ 64 → leading_value (decimal n) < 2 ^ 64
decimal_fits n small =
    let value : leading_value (decimal n) ≡ n = ap decimal_of (all_taken is_digit (decimal n) (each_of_run is_digit (decimal n) (decimal_run n))) ∙ decimal_value n small in
    subst (λ m. m < 2 ^ 64) (sym value) small
