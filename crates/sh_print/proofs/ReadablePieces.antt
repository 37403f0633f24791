-- Pieces that can be read, put together from pieces that can.
use Rattle.std.proofs.Common.{◌≡◌, ◌≢◌, ℕ, zero, suc, ◌+◌, ◌*◌, ◌-◌, ◌/◌, ◌%◌, ◌^◌, ◌<◌, ◌≤◌, ◌⊎◌, inl, inr, Bool, true, false, not, cond, ◌||◌, ◌&&◌, if◌then◌else◌, nat_eq, nat_lt, nat_le, List, [], ◌∷◌, ◌++◌, length, flat_map, get_or, codes, refl, sym, ap, ◌∙◌, subst, arith, append_assoc, lit<}
use Rattle.std.specs.Fmt.{decimal}
use Rattle.std.specs.List.{AllByRecursion, list_all, list_any, take_while}
use Rattle.std.proofs.lemmas.Bool.{eqb-true}
use Rattle.std.proofs.lemmas.Bool.Decides.{nat_tests}
use Rattle.std.proofs.lemmas.List.Folds.{list_all-append}
use Rattle.sh_lex.specs.declared.tokens.TokenKind.{TokenKind}
use Rattle.sh_lex.specs.declared.tokens.TokenKind.TheVariants.{Word, Val, At, Hash, Block, Bang, Number, Dim, Str, Sign, End}
use Rattle.sh_lex.specs.Tokens.{is_letter, is_digit, is_name_byte as is_lexed_name_byte, is_value_byte, is_string_byte, is_sign_byte, Each, IsRun, Spells, decimal_of, leading_value}
use Rattle.sh_lex.specs.Scan.{lead_of}
use Rattle.sh_lex.proofs.LeadLemmas.{suits}
use Rattle.sh_lex.proofs.Runs.{each_of_run}
use Rattle.sh_ir.specs.Formed.{is_name, is_name_byte}
use Rattle.sh_ir.specs.declared.linalg_ops.IteratorType.{IteratorType}
use Rattle.sh_ir.specs.declared.linalg_ops.IteratorType.TheVariants.{Parallel, Reduction, Unknown}
use Rattle.sh_print.specs.Layout.{Piece, bytes_of}
use Rattle.sh_print.specs.Layout.Piece.{apart, closing, line_end, opening, token}
use Rattle.sh_print.specs.LayoutLaw.{spellings_of, IsSpelled, EachMayFollow, CanBeRead}
use Rattle.sh_print.specs.Spellings.{extent, in_brackets, list_of, number, rest_of_list, sign}
use Rattle.sh_print.specs.Values.{value}
use Rattle.sh_print.specs.Words.{iterator_word}
use Rattle.sh_print.specs.declared.names.Name.{Name}
use Rattle.sh_print.specs.declared.names.Name.TheVariants.{Argument, Value, BlockArgument, BodyValue, Undefined}
use Rattle.sh_print.proofs.Decimals.{decimal_fits, decimal_run, decimal_value}
use Rattle.sh_print.proofs.TokenReadings.{one_of, run_taken}

-- The pieces can be read, before and behind whatever can: each `-` has its number behind it.
pub data Readable : List Piece → Type 0 where
  nothing : Readable []
  plain : {piece : Piece} {pieces : List Piece}
      → AllByRecursion IsSpelled (spellings_of (piece ∷ [])) → bytes_of piece ≢ codes "-" → Readable pieces → Readable (piece ∷ pieces)
  negative : {digits : List ℕ} {pieces : List Piece}
      → IsSpelled (record { kind = Sign; text = codes "-" }) → IsSpelled (record { kind = Number; text = digits }) → Readable pieces
      → Readable (token Sign (codes "-") ∷ (token Number digits ∷ pieces))

pub joined : {xs ys : List Piece} → Readable xs → Readable ys → Readable (xs ++ ys)
joined nothing r = r
joined (plain is other more) r = plain is other (joined more r)
joined (negative minus is more) r = negative minus is (joined more r)

-- ## What is readable can be read

greater_is_no_number : (digits : List ℕ) → Spells Number digits → digits ≢ codes ">"
unfolding lead_of is_letter is_digit is_sign_byte
greater_is_no_number digits s e =
    let kind : Number ≡ Sign = suits Number 62 [] (subst (Spells Number) e s) in cc

spelled_front : (piece : Piece) (pieces : List Piece) → AllByRecursion IsSpelled (spellings_of (piece ∷ [])) → AllByRecursion IsSpelled (spellings_of pieces)
    → AllByRecursion IsSpelled (spellings_of (piece ∷ pieces))
spelled_front (token kind text) pieces is more = (is.0, more)
spelled_front apart pieces is more = (is.0, more)
spelled_front opening pieces is more = (is.0, more)
spelled_front closing pieces is more = (is.0, more)
spelled_front line_end pieces is more = more

readable_spelled : {pieces : List Piece} → Readable pieces → AllByRecursion IsSpelled (spellings_of pieces)
readable_spelled nothing = tt
readable_spelled (plain {piece = piece} {pieces = pieces} is other more) = spelled_front piece pieces is (readable_spelled more)
readable_spelled (negative minus is more) = (minus, (is, readable_spelled more))

follow_front : (piece : Piece) (pieces : List Piece) → bytes_of piece ≢ codes "-" → EachMayFollow pieces → EachMayFollow (piece ∷ pieces)
follow_front piece [] other more = tt
follow_front piece (next ∷ pieces) other more = (λ minus. absurd (other minus), more)

number_is_no_minus : (digits : List ℕ) → Spells Number digits → digits ≢ codes "-"
unfolding lead_of is_letter is_digit is_sign_byte
number_is_no_minus digits s e =
    let kind : Number ≡ Sign = suits Number 45 [] (subst (Spells Number) e s) in cc

readable_follow : {pieces : List Piece} → Readable pieces → EachMayFollow pieces
readable_follow nothing = tt
readable_follow (plain {piece = piece} {pieces = pieces} is other more) = follow_front piece pieces other (readable_follow more)
readable_follow (negative {digits = digits} {pieces = pieces} minus is more) =
    (λ same. greater_is_no_number digits is.0, follow_front (token Number digits) pieces (number_is_no_minus digits is.0) (readable_follow more))

pub can_be_read : {pieces : List Piece} → Readable pieces → CanBeRead pieces
can_be_read r = record { spelled = readable_spelled r; follow = readable_follow r }

-- ## Tests of bytes

pub both_true : (a b : Bool) → (a && b) ≡ true → (a ≡ true) × (b ≡ true)
both_true true b e = (refl, e)
both_true false b e = absurd (cc)

each_from : (p q : ℕ → Bool) (bytes : List ℕ) → ((b : ℕ) → p b ≡ true → q b ≡ true) → list_all p bytes ≡ true → Each q bytes
each_from p q [] f e = tt
each_from p q (b ∷ bytes) f e =
    let both = both_true (p b) (list_all p bytes) e in
    (f b both.0, each_from p q bytes f both.1)

abbrev pub is_first_letter : ℕ → Bool
is_first_letter b = (nat_le 97 b && nat_le b 122) || (nat_le 65 b && nat_le b 90) || nat_eq b 95

-- a word by its bytes
abbrev pub is_word : List ℕ → Bool
is_word [] = false
is_word (b ∷ bytes) = is_first_letter b && list_all is_name_byte bytes

letter_from : (b : ℕ) → is_first_letter b ≡ true → is_letter b ≡ true
unfolding is_letter
letter_from b e = grind (arith, nat_tests)

name_from : (b : ℕ) → is_name_byte b ≡ true → is_lexed_name_byte b ≡ true
unfolding is_lexed_name_byte is_letter is_digit
name_from b e = grind (arith, nat_tests)

-- a sign other than `-`
abbrev pub is_other_sign : List ℕ → Bool
is_other_sign [] = false
is_other_sign (b ∷ []) = list_any (nat_eq b) (codes "(){}[]<>,:=+*")
is_other_sign (b ∷ c ∷ []) = nat_eq b 45 && nat_eq c 62
is_other_sign (b ∷ c ∷ d ∷ bytes) = false

-- ## Tokens

no_digit_no_value : (b : ℕ) (bytes : List ℕ) → is_digit b ≡ false → leading_value (b ∷ bytes) < 2 ^ 64
no_digit_no_value b bytes e = rw e (lit< tt)

not_minus : (kind : TokenKind) (text : List ℕ) → Spells kind text → (kind ≡ Sign → ⊥) → text ≢ codes "-"
unfolding lead_of is_letter is_digit is_sign_byte
not_minus kind text s other e = other (suits kind 45 [] (subst (Spells kind) e s))

pub a_token : (kind : TokenKind) (text : List ℕ) {pieces : List Piece} → Spells kind text → leading_value text < 2 ^ 64 → (kind ≡ Sign → ⊥)
    → Readable pieces → Readable (token kind text ∷ pieces)
a_token kind text s narrow other more = plain ((s, narrow), tt) (not_minus kind text s other) more

letter_is_no_digit : (b : ℕ) → is_letter b ≡ true → is_digit b ≡ false
unfolding is_letter is_digit
letter_is_no_digit b e = grind (arith, nat_tests)

word_spells : (text : List ℕ) → is_word text ≡ true → Spells Word text × (leading_value text < 2 ^ 64)
word_spells [] e = absurd (cc)
word_spells (b ∷ bytes) e =
    let both = both_true (is_first_letter b) (list_all is_name_byte bytes) e in
    let letter : is_letter b ≡ true = letter_from b both.0 in
    ((letter, each_from is_name_byte is_lexed_name_byte bytes name_from both.1), no_digit_no_value b bytes (letter_is_no_digit b letter))

pub a_word : {text : List ℕ} {pieces : List Piece} → is_word text ≡ true → Readable pieces → Readable (token Word text ∷ pieces)
a_word {text = text} e more = let is = word_spells text e in a_token Word text is.0 is.1 (λ q. cc) more

at_is_no_digit : is_digit 64 ≡ false
unfolding is_digit
at_is_no_digit = refl

name_run : (name : List ℕ) → is_name name ≡ true → IsRun is_lexed_name_byte name
name_run [] e = absurd (cc)
name_run (b ∷ bytes) e =
    let both = both_true (nat_lt 0 (length (b ∷ bytes))) (list_all is_name_byte (b ∷ bytes)) e in
    each_from is_name_byte is_lexed_name_byte (b ∷ bytes) name_from both.1

pub a_symbol : (name : List ℕ) {pieces : List Piece} → is_name name ≡ true → Readable pieces → Readable (token At (64 ∷ name) ∷ pieces)
a_symbol name e more = a_token At (64 ∷ name) (refl, name_run name e) (no_digit_no_value 64 name at_is_no_digit) (λ q. cc) more

abbrev other_signs : List ℕ
other_signs = codes "(){}[]<>,:=+*"

signs_are_signs : AllByRecursion (λ b. is_sign_byte b ≡ true) other_signs
unfolding is_sign_byte
signs_are_signs = (refl, (refl, (refl, (refl, (refl, (refl, (refl, (refl, (refl, (refl, (refl, (refl, (refl, tt)))))))))))))

signs_are_no_digits : AllByRecursion (λ b. is_digit b ≡ false) other_signs
unfolding is_digit
signs_are_no_digits = (refl, (refl, (refl, (refl, (refl, (refl, (refl, (refl, (refl, (refl, (refl, (refl, (refl, tt)))))))))))))

signs_are_no_minus : AllByRecursion (λ b. b ≡ 45 → ⊥) other_signs
signs_are_no_minus =
    (λ e. cc, (λ e. cc, (λ e. cc, (λ e. cc, (λ e. cc, (λ e. cc, (λ e. cc, (λ e. cc, (λ e. cc, (λ e. cc, (λ e. cc, (λ e. cc, (λ e. cc, tt)))))))))))))

minus_is_no_digit : is_digit 45 ≡ false
unfolding is_digit
minus_is_no_digit = refl

sign_spells : (text : List ℕ) → is_other_sign text ≡ true → IsSpelled (record { kind = Sign; text = text }) × (text ≢ codes "-")
sign_spells [] e = absurd (cc)
sign_spells (b ∷ []) e =
    let sign = one_of (λ c. is_sign_byte c ≡ true) b other_signs e signs_are_signs in
    let no_digit = one_of (λ c. is_digit c ≡ false) b other_signs e signs_are_no_digits in
    let no_minus = one_of (λ c. c ≡ 45 → ⊥) b other_signs e signs_are_no_minus in
    ((inl (b, sign, refl), no_digit_no_value b [] no_digit), λ q. no_minus (ap (λ (l : List ℕ). get_or l 0 0) q))
sign_spells (b ∷ c ∷ []) e =
    let both = both_true (nat_eq b 45) (nat_eq c 62) e in
    let minus : b ≡ 45 = eqb-true b 45 both.0 in
    let greater : c ≡ 62 = eqb-true c 62 both.1 in
    let no_digit : is_digit b ≡ false = rw minus minus_is_no_digit in
    let same : b ∷ (c ∷ []) ≡ codes "->" = cc in
    ((inr same, no_digit_no_value b (c ∷ []) no_digit), λ q. cc)
sign_spells (b ∷ c ∷ d ∷ bytes) e = absurd (cc)

pub a_sign : {text : List ℕ} {pieces : List Piece} → is_other_sign text ≡ true → Readable pieces → Readable (token Sign text ∷ pieces)
a_sign {text = text} e more = let is = sign_spells text e in plain (is.0, tt) is.1 more

less_spells : IsSpelled (record { kind = Sign; text = codes "<" })
less_spells = (sign_spells (codes "<") refl).0

opening_spells : IsSpelled (record { kind = Sign; text = codes "{" })
opening_spells = (sign_spells (codes "{") refl).0

closing_spells : IsSpelled (record { kind = Sign; text = codes "}" })
closing_spells = (sign_spells (codes "}") refl).0

pub an_apart : {pieces : List Piece} → Readable pieces → Readable (apart ∷ pieces)
an_apart more = plain (less_spells, tt) (λ q. cc) more

pub an_opening : {pieces : List Piece} → Readable pieces → Readable (opening ∷ pieces)
an_opening more = plain (opening_spells, tt) (λ q. cc) more

pub a_closing : {pieces : List Piece} → Readable pieces → Readable (closing ∷ pieces)
a_closing more = plain (closing_spells, tt) (λ q. cc) more

pub a_line_end : {pieces : List Piece} → Readable pieces → Readable (line_end ∷ pieces)
a_line_end more = plain tt (λ q. cc) more

-- ## Numbers

pub a_number : (n : ℕ) {pieces : List Piece} → n < 2 ^ 64 → Readable pieces → Readable (number n ∷ pieces)
a_number n small more = a_token Number (decimal n) (decimal_run n) (decimal_fits n small) (λ q. cc) more

x_is_no_digit : is_digit 120 ≡ false
unfolding is_digit
x_is_no_digit = refl

pub an_extent : (n : ℕ) {pieces : List Piece} → n < 2 ^ 64 → Readable pieces → Readable (extent n ∷ pieces)
an_extent n small more =
    let each : Each is_digit (decimal n) = each_of_run is_digit (decimal n) (decimal_run n) in
    let value : leading_value (decimal n ++ codes "x") ≡ n = ap decimal_of (run_taken is_digit (decimal n) (codes "x") each x_is_no_digit) ∙ decimal_value n small in
    let fits : leading_value (decimal n ++ codes "x") < 2 ^ 64 = subst (λ m. m < 2 ^ 64) (sym value) small in
    a_token Dim (decimal n ++ codes "x") (inl (decimal n, decimal_run n, refl)) fits (λ q. cc) more

question_is_no_digit : is_digit 63 ≡ false
unfolding is_digit
question_is_no_digit = refl

pub an_unknown_extent : {pieces : List Piece} → Readable pieces → Readable (token Dim (codes "?x") ∷ pieces)
an_unknown_extent more = a_token Dim (codes "?x") (inr refl) (no_digit_no_value 63 (codes "x") question_is_no_digit) (λ q. cc) more

minus_spells : IsSpelled (record { kind = Sign; text = codes "-" })
unfolding is_sign_byte
minus_spells = (inl (45, refl, refl), no_digit_no_value 45 [] minus_is_no_digit)

pub a_negative : (n : ℕ) {pieces : List Piece} → n < 2 ^ 64 → Readable pieces → Readable (sign "-" ∷ (number n ∷ pieces))
a_negative n small more = negative minus_spells (decimal_run n, decimal_fits n small) more

-- ## Names of values

digit_is_value : (b : ℕ) → is_digit b ≡ true → is_value_byte b ≡ true
unfolding is_value_byte is_lexed_name_byte
digit_is_value b e = rw e (grind (arith, nat_tests))

digit_is_name : (b : ℕ) → is_digit b ≡ true → is_lexed_name_byte b ≡ true
unfolding is_lexed_name_byte
digit_is_name b e = rw e (grind (arith, nat_tests))

each_weaker : (p q : ℕ → Bool) (bytes : List ℕ) → ((b : ℕ) → p b ≡ true → q b ≡ true) → Each p bytes → Each q bytes
each_weaker p q [] f each = tt
each_weaker p q (b ∷ bytes) f each = (f b each.0, each_weaker p q bytes f each.1)

run_behind : (p : ℕ → Bool) (front digits : List ℕ) → ((b : ℕ) → is_digit b ≡ true → p b ≡ true) → Each p front → IsRun is_digit digits → IsRun p (front ++ digits)
run_behind p [] [] f each run = run
run_behind p [] (d ∷ digits) f each run = each_weaker is_digit p (d ∷ digits) f run
run_behind p (b ∷ front) digits f each run = (each.0, each_of_run p (front ++ digits) (run_behind p front digits f each.1 run))

percent_is_no_digit : is_digit 37 ≡ false
unfolding is_digit
percent_is_no_digit = refl

a_named_value : (name : List ℕ) {pieces : List Piece} → IsRun is_value_byte name → Readable pieces → Readable (token Val (37 ∷ name) ∷ pieces)
a_named_value name run more = a_token Val (37 ∷ name) (refl, run) (no_digit_no_value 37 name percent_is_no_digit) (λ q. cc) more

arg_bytes : Each is_value_byte (codes "arg")
unfolding is_value_byte is_lexed_name_byte is_letter is_digit
arg_bytes = (refl, (refl, (refl, tt)))

block_bytes : Each is_value_byte (codes "b")
unfolding is_value_byte is_lexed_name_byte is_letter is_digit
block_bytes = (refl, tt)

body_bytes : Each is_value_byte (codes "r")
unfolding is_value_byte is_lexed_name_byte is_letter is_digit
body_bytes = (refl, tt)

undefined_run : IsRun is_value_byte (codes "_")
unfolding is_value_byte is_lexed_name_byte is_letter is_digit
undefined_run = (refl, tt)

pub a_value : (name : Name) {pieces : List Piece} → Readable pieces → Readable (value name ∷ pieces)
a_value (Argument at) more = a_named_value (codes "arg" ++ decimal at) (run_behind is_value_byte (codes "arg") (decimal at) digit_is_value arg_bytes (decimal_run at)) more
a_value (Value at) more = a_named_value (decimal at) (run_behind is_value_byte [] (decimal at) digit_is_value tt (decimal_run at)) more
a_value (BlockArgument at) more = a_named_value (codes "b" ++ decimal at) (run_behind is_value_byte (codes "b") (decimal at) digit_is_value block_bytes (decimal_run at)) more
a_value (BodyValue at) more = a_named_value (codes "r" ++ decimal at) (run_behind is_value_byte (codes "r") (decimal at) digit_is_value body_bytes (decimal_run at)) more
a_value Undefined more = a_named_value (codes "_") undefined_run more

-- ## Single tokens

d_is_letter : is_letter 100 ≡ true
unfolding is_letter
d_is_letter = refl

pub a_loop : (n : ℕ) {pieces : List Piece} → Readable pieces → Readable (token Word (codes "d" ++ decimal n) ∷ pieces)
a_loop n more =
    let each : Each is_lexed_name_byte (decimal n) = each_weaker is_digit is_lexed_name_byte (decimal n) digit_is_name (each_of_run is_digit (decimal n) (decimal_run n)) in
    a_token Word (100 ∷ decimal n) (d_is_letter, each) (no_digit_no_value 100 (decimal n) (letter_is_no_digit 100 d_is_letter)) (λ q. cc) more

block_spells : Spells Block (codes "^bb0") × (leading_value (codes "^bb0") < 2 ^ 64)
unfolding is_lexed_name_byte is_letter is_digit
block_spells = ((refl, (refl, (refl, (refl, tt)))), lit< tt)

pub a_block : {pieces : List Piece} → Readable pieces → Readable (token Block (codes "^bb0") ∷ pieces)
a_block more = a_token Block (codes "^bb0") block_spells.0 block_spells.1 (λ q. cc) more

bang_name : is_name (codes "shard.sharding") ≡ true
bang_name = refl

bang_is_no_digit : is_digit 33 ≡ false
unfolding is_digit
bang_is_no_digit = refl

pub a_sharding_type : {pieces : List Piece} → Readable pieces → Readable (token Bang (codes "!shard.sharding") ∷ pieces)
a_sharding_type more =
    a_token Bang (codes "!shard.sharding") (refl, name_run (codes "shard.sharding") bang_name) (no_digit_no_value 33 (codes "shard.sharding") bang_is_no_digit) (λ q. cc) more

quote_is_no_digit : is_digit 34 ≡ false
unfolding is_digit
quote_is_no_digit = refl

a_string : (inside : List ℕ) {pieces : List Piece} → Each is_string_byte inside → Readable pieces → Readable (token Str (34 ∷ (inside ++ 34 ∷ [])) ∷ pieces)
a_string inside each more =
    a_token Str (34 ∷ (inside ++ 34 ∷ [])) (inside, each, refl) (no_digit_no_value 34 (inside ++ 34 ∷ []) quote_is_no_digit) (λ q. cc) more

letter_inside : (b : ℕ) → is_first_letter b ≡ true → is_string_byte b ≡ true
unfolding is_string_byte
letter_inside b e = grind (arith, nat_tests)

pub an_iterator : (x : IteratorType) {pieces : List Piece} → Readable pieces → Readable (token Str (iterator_word x) ∷ pieces)
an_iterator Parallel more = a_string (codes "parallel") (each_from is_first_letter is_string_byte (codes "parallel") letter_inside refl) more
an_iterator Reduction more = a_string (codes "reduction") (each_from is_first_letter is_string_byte (codes "reduction") letter_inside refl) more
an_iterator Unknown more = a_string (codes "unknown") (each_from is_first_letter is_string_byte (codes "unknown") letter_inside refl) more

-- ## Lists

pub parts_true : {X : Type 0} (p : X → Bool) (xs ys : List X) → list_all p (xs ++ ys) ≡ true → (list_all p xs ≡ true) × (list_all p ys ≡ true)
parts_true p xs ys e = both_true (list_all p xs) (list_all p ys) (sym (list_all-append p xs ys) ∙ e)

module _ {X : Type 0} where
  pub readable_each : (f : X → List Piece) (xs : List X) → AllByRecursion (λ x. Readable (f x)) xs → Readable (flat_map f xs)
  readable_each f [] each = nothing
  readable_each f (x ∷ xs) each = joined each.0 (readable_each f xs each.1)

  pub readable_rest : (f : X → List Piece) (xs : List X) → AllByRecursion (λ x. Readable (f x)) xs → Readable (rest_of_list f xs)
  readable_rest f [] each = nothing
  readable_rest f (x ∷ xs) each = a_sign refl (joined each.0 (readable_rest f xs each.1))

  pub readable_list : (f : X → List Piece) (xs : List X) → AllByRecursion (λ x. Readable (f x)) xs → Readable (list_of f xs)
  readable_list f [] each = nothing
  readable_list f (x ∷ xs) each = joined each.0 (readable_rest f xs each.1)

  pub readable_brackets : (f : X → List Piece) (xs : List X) → AllByRecursion (λ x. Readable (f x)) xs → Readable (in_brackets f xs)
  unfolding in_brackets
  readable_brackets f xs each = a_sign refl (joined (readable_list f xs each) (a_sign refl nothing))

  -- each is readable that passes the test, and all pass
  pub all_by : (f : X → List Piece) (p : X → Bool) (xs : List X) → ((x : X) → p x ≡ true → Readable (f x)) → list_all p xs ≡ true → AllByRecursion (λ x. Readable (f x)) xs
  all_by f p [] g e = tt
  all_by f p (x ∷ xs) g e = let both = both_true (p x) (list_all p xs) e in (g x both.0, all_by f p xs g both.1)

  pub all_are : (f : X → List Piece) (xs : List X) → ((x : X) → Readable (f x)) → AllByRecursion (λ x. Readable (f x)) xs
  all_are f [] g = tt
  all_are f (x ∷ xs) g = (g x, all_are f xs g)

  -- what holds of all parts holds of each
  pub all_of_parts : {Y : Type 0} (p : Y → Bool) (parts : X → List Y) (xs : List X) → list_all p (flat_map parts xs) ≡ true → AllByRecursion (λ x. list_all p (parts x) ≡ true) xs
  all_of_parts p parts [] e = tt
  all_of_parts p parts (x ∷ xs) e = let both = parts_true p (parts x) (flat_map parts xs) e in (both.0, all_of_parts p parts xs both.1)

  pub all_with : (f : X → List Piece) (P : X → Type 0) (xs : List X) → ((x : X) → P x → Readable (f x)) → AllByRecursion P xs → AllByRecursion (λ x. Readable (f x)) xs
  all_with f P [] g each = tt
  all_with f P (x ∷ xs) g each = (g x each.0, all_with f P xs g each.1)
