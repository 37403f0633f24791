-- A token at the front is read there, where what follows doesn't go on with it.
use Rattle.std.proofs.Common.{◌≡◌, ℕ, zero, suc, ◌+◌, ◌^◌, ◌<◌, ◌≤◌, ◌⊎◌, inl, inr, Bool, true, false, ◌||◌, nat_eq, List, [], ◌∷◌, ◌++◌, length, take, drop, codes, Ok, refl, sym, ap, ◌∙◌, subst, arith, append_assoc, append-nil, length-append, one-add}
use Rattle.std.specs.List.{AllByRecursion, list_any, prefix_len, starts_with, take_while}
use Rattle.std.proofs.Math.Seq.{take-append_seam, drop-append_seam}
use Rattle.std.proofs.lemmas.Bool.{cases_Bool, eq-eqb, eqb-true}
use Rattle.std.proofs.lemmas.Bool.Decides.{nat_tests}
use Rattle.sh_base.specs.declared.places.Place.{Place}
use Rattle.sh_lex.specs.declared.tokens.TokenKind.{TokenKind}
use Rattle.sh_lex.specs.declared.tokens.TokenKind.TheVariants.{Word, Val, At, Hash, Block, Bang, Number, Dim, Str, Sign, End}
use Rattle.sh_lex.specs.Tokens.{is_blank, is_letter, is_digit, is_name_byte, is_value_byte, is_string_byte, is_sign_byte, begins_gap, Each, Stops, IsRun, Spells, decimal_of, leading_value}
use Rattle.sh_lex.specs.Scan.{is_in, lead_of, class_of, IsReading}
use Rattle.sh_lex.proofs.Runs.{each_of_run, begins_with_two}
use Rattle.sh_lex.proofs.LeadLemmas.{Suits, suits, letter_leads, digit_leads}
use Rattle.sh_lex.proofs.FrontLemmas.{word_front, name_front, number_front, dim_front, unknown_front, string_front, arrow_front, sign_front}

-- what holds of each byte of a list holds of one that is among them
pub one_of : (P : ℕ → Type 0) (b : ℕ) (bytes : List ℕ) → list_any (nat_eq b) bytes ≡ true → AllByRecursion P bytes → P b
one_of P b [] e each = absurd (cc)
one_of P b (x ∷ bytes) e each = go (nat_eq b x) refl e (one_of P b bytes)
  where
    go : (v : Bool) → nat_eq b x ≡ v → (v || list_any (nat_eq b) bytes) ≡ true → (list_any (nat_eq b) bytes ≡ true → AllByRecursion P bytes → P b) → P b
    go true same f h = subst P (sym (eqb-true b x same)) each.0
    go false other f h = h f each.1

-- ## What doesn't go on with a token

-- these bytes don't go on with a token of this kind
abbrev pub Ends : TokenKind → List ℕ → List ℕ → Type 0
Ends Word text rest = Stops is_value_byte rest
Ends Val text rest = Stops is_value_byte rest
Ends At text rest = Stops is_value_byte rest
Ends Hash text rest = Stops is_value_byte rest
Ends Block text rest = Stops is_value_byte rest
Ends Bang text rest = Stops is_value_byte rest
Ends Number text rest = Stops is_value_byte rest
Ends Dim text rest = Unit {0}
Ends Str text rest = Unit {0}
Ends Sign text rest = text ≡ codes "-" → Stops (nat_eq 62) rest
Ends End text rest = Unit {0}

name_stops : (b : ℕ) → is_value_byte b ≡ false → is_name_byte b ≡ false
unfolding is_value_byte
name_stops b e = grind (arith, nat_tests)

digit_stops : (b : ℕ) → is_value_byte b ≡ false → is_digit b ≡ false
unfolding is_value_byte is_name_byte
digit_stops b e = grind (arith, nat_tests)

stops_weaker : (p q : ℕ → Bool) (rest : List ℕ) → ((b : ℕ) → p b ≡ false → q b ≡ false) → Stops p rest → Stops q rest
stops_weaker p q [] f stops = tt
stops_weaker p q (b ∷ rest) f stops = f b stops

no_name : (rest : List ℕ) → Stops is_value_byte rest → Stops is_name_byte rest
no_name rest stops = stops_weaker is_value_byte is_name_byte rest name_stops stops

x_is_value : is_value_byte 120 ≡ true
unfolding is_value_byte is_name_byte is_letter
x_is_value = refl

no_x : (rest : List ℕ) → Stops is_value_byte rest → starts_with nat_eq rest (codes "x") ≡ false
no_x [] stops = refl
no_x (b ∷ rest) stops =
    elim (cases_Bool (nat_eq 120 b)) [
      | inl same ↦
          let x : 120 ≡ b = eqb-true 120 b same in
          let value : is_value_byte b ≡ true = subst (λ c. is_value_byte c ≡ true) x x_is_value in
          absurd (cc)
      | inr other ↦ rw other refl
    ]

-- ## Runs

run_len : (p : ℕ → Bool) (run rest : List ℕ) → Each p run → Stops p rest → length run ≡ prefix_len p (run ++ rest)
run_len p [] [] each stops = refl
run_len p [] (c ∷ rest) each stops = rw stops refl
run_len p (b ∷ run) rest each stops =
    let h : length run ≡ prefix_len p (run ++ rest) = run_len p run rest each.1 stops in
    rw each.0 (omega (arith, h))

pub run_taken : (p : ℕ → Bool) (run rest : List ℕ) → Each p run → Stops p rest → take_while p (run ++ rest) ≡ run
run_taken p run rest each stops =
    ap (λ n. take n (run ++ rest)) (sym (run_len p run rest each stops)) ∙ take-append_seam run rest

pub all_taken : (p : ℕ → Bool) (run : List ℕ) → Each p run → take_while p run ≡ run
all_taken p run each = ap (take_while p) (sym (append-nil run)) ∙ run_taken p run [] each tt

within_joined : (xs ys : List ℕ) → length xs ≤ length (xs ++ ys)
within_joined xs ys = omega (arith, length-append xs ys)

-- ## Kind by kind

abbrev Reads : List ℕ → Place → TokenKind → ℕ → Type 0
Reads bytes place kind n = IsReading bytes place (Ok (kind, n))

letter_is_name : (b : ℕ) → is_letter b ≡ true → is_name_byte b ≡ true
unfolding is_name_byte
letter_is_name b e = rw e refl

word_read : (b : ℕ) (bytes rest : List ℕ) (place : Place) → Spells Word (b ∷ bytes) → Stops is_value_byte rest → Reads ((b ∷ bytes) ++ rest) place Word (length (b ∷ bytes))
word_read b bytes rest place s stops =
    let each : Each is_name_byte (b ∷ bytes) = (letter_is_name b s.0, s.1) in
    word_front ((b ∷ bytes) ++ rest) place (length (b ∷ bytes)) (letter_leads b s.0) (run_len is_name_byte (b ∷ bytes) rest each (no_name rest stops)) (within_joined (b ∷ bytes) rest)

some_run : (p : ℕ → Bool) (bytes : List ℕ) → IsRun p bytes → length bytes ≡ 0 → ⊥
some_run p [] run e = run
some_run p (b ∷ bytes) run e = omega arith

named_read : (kind : TokenKind) (p : ℕ → Bool) (b : ℕ) (bytes rest : List ℕ) (place : Place)
    → ((n : ℕ) → n ≡ prefix_len p (bytes ++ rest) → n ≤ length (bytes ++ rest) → (n ≡ 0 → ⊥) → Reads ((b ∷ bytes) ++ rest) place kind (n + 1))
    → IsRun p bytes → Stops p rest → Reads ((b ∷ bytes) ++ rest) place kind (length (b ∷ bytes))
named_read kind p b bytes rest place front run stops =
    let reading = front (length bytes) (run_len p bytes rest (each_of_run p bytes run) stops) (within_joined bytes rest) (some_run p bytes run) in
    let len : length bytes + 1 ≡ length (b ∷ bytes) = omega arith in
    subst (λ (n : ℕ). Reads ((b ∷ bytes) ++ rest) place kind n) len reading

number_read : (b : ℕ) (bytes rest : List ℕ) (place : Place) → Each is_digit (b ∷ bytes) → leading_value (b ∷ bytes) < 2 ^ 64 → Stops is_value_byte rest
    → Reads ((b ∷ bytes) ++ rest) place Number (length (b ∷ bytes))
number_read b bytes rest place each narrow stops =
    let digits : List ℕ = b ∷ bytes in
    let here : take (length digits) (digits ++ rest) ≡ take_while is_digit digits = take-append_seam digits rest ∙ sym (all_taken is_digit digits each) in
    let fits : decimal_of (take (length digits) (digits ++ rest)) < 2 ^ 64 = subst (λ (l : List ℕ). decimal_of l < 2 ^ 64) (sym here) narrow in
    let no_dim : starts_with nat_eq (drop (length digits) (digits ++ rest)) (codes "x") ≡ false =
    ap (λ l. starts_with nat_eq l (codes "x")) (drop-append_seam digits rest) ∙ no_x rest stops in
    number_front (digits ++ rest) place (length digits) (digit_leads b each.0) (run_len is_digit digits rest each (stops_weaker is_value_byte is_digit rest digit_stops stops)) (within_joined digits rest) fits no_dim

x_is_no_digit : is_digit 120 ≡ false
unfolding is_digit
x_is_no_digit = refl

dim_read : (b : ℕ) (bytes rest : List ℕ) (place : Place) → Each is_digit (b ∷ bytes) → leading_value ((b ∷ bytes) ++ codes "x") < 2 ^ 64
    → Reads (((b ∷ bytes) ++ codes "x") ++ rest) place Dim (length ((b ∷ bytes) ++ codes "x"))
dim_read b bytes rest place each narrow =
    let digits : List ℕ = b ∷ bytes in
    let whole : (digits ++ codes "x") ++ rest ≡ digits ++ 120 ∷ rest = append_assoc digits (codes "x") rest in
    let here : take (length digits) (digits ++ 120 ∷ rest) ≡ take_while is_digit (digits ++ codes "x") =
    take-append_seam digits (120 ∷ rest) ∙ sym (run_taken is_digit digits (codes "x") each x_is_no_digit) in
    let fits : decimal_of (take (length digits) (digits ++ 120 ∷ rest)) < 2 ^ 64 = subst (λ (l : List ℕ). decimal_of l < 2 ^ 64) (sym here) narrow in
    let x : starts_with nat_eq (drop (length digits) (digits ++ 120 ∷ rest)) (codes "x") ≡ true =
    ap (λ l. starts_with nat_eq l (codes "x")) (drop-append_seam digits (120 ∷ rest)) in
    let reading = dim_front (digits ++ 120 ∷ rest) place (length digits) (digit_leads b each.0) (run_len is_digit digits (120 ∷ rest) each x_is_no_digit) fits x in
    let len : length digits + 1 ≡ length (digits ++ codes "x") = sym (length-append digits (codes "x")) in
    let at_len : Reads (digits ++ 120 ∷ rest) place Dim (length (digits ++ codes "x")) = subst (λ (n : ℕ). Reads (digits ++ 120 ∷ rest) place Dim n) len reading in
    subst (λ (l : List ℕ). Reads l place Dim (length (digits ++ codes "x"))) (sym whole) at_len

unknown_read : (rest : List ℕ) (place : Place) → Reads (codes "?x" ++ rest) place Dim 2
unfolding lead_of is_letter is_digit
unknown_read rest place = unknown_front (codes "?x" ++ rest) place refl refl

quote_ends : is_string_byte 34 ≡ false
unfolding is_string_byte
quote_ends = refl

string_read : (inside rest : List ℕ) (place : Place) → Each is_string_byte inside → let text : List ℕ = 34 ∷ (inside ++ 34 ∷ []) in Reads (text ++ rest) place Str (length text)
unfolding lead_of is_letter is_digit
string_read inside rest place each =
    let whole : (inside ++ 34 ∷ []) ++ rest ≡ inside ++ 34 ∷ rest = append_assoc inside (34 ∷ []) rest in
    let closed : starts_with nat_eq (drop (length inside) (inside ++ 34 ∷ rest)) (34 ∷ []) ≡ true = rw (drop-append_seam inside (34 ∷ rest)) refl in
    let reading = string_front (34 ∷ (inside ++ 34 ∷ rest)) place (length inside) refl (run_len is_string_byte inside (34 ∷ rest) each quote_ends) closed in
    let len : length inside + 2 ≡ suc (length (inside ++ 34 ∷ [])) = omega (arith, length-append inside (34 ∷ [])) in
    rw (whole, ← len) reading

sign_leads : (b : ℕ) → is_sign_byte b ≡ true → lead_of b ≡ lead_of 40
unfolding lead_of is_letter is_digit is_sign_byte
sign_leads b h =
    one_of (λ c. lead_of c ≡ lead_of 40) b (codes "(){}[]<>,:=+*-") h
    (refl, (refl, (refl, (refl, (refl, (refl, (refl, (refl, (refl, (refl, (refl, (refl, (refl, (refl, tt))))))))))))))

no_arrow : (b : ℕ) (rest : List ℕ) → (b ∷ [] ≡ codes "-" → Stops (nat_eq 62) rest) → starts_with nat_eq (b ∷ rest) (codes "->") ≡ false
no_arrow b rest ends =
    elim (cases_Bool (nat_eq 45 b)) [
      | inl same ↦
          let minus : 45 ≡ b = eqb-true 45 b same in
          behind rest (ends (ap (λ c. c ∷ []) (sym minus)))
      | inr other ↦ first rest other
    ]
  where
    behind : (rest : List ℕ) → Stops (nat_eq 62) rest → starts_with nat_eq (b ∷ rest) (codes "->") ≡ false
    behind [] stops = grind (arith, nat_tests)
    behind (c ∷ rest) stops = grind (arith, nat_tests)

    first : (rest : List ℕ) → nat_eq 45 b ≡ false → starts_with nat_eq (b ∷ rest) (codes "->") ≡ false
    first [] other = rw other refl
    first (c ∷ rest) other = rw other refl

sign_read : (b : ℕ) (rest : List ℕ) (place : Place) → is_sign_byte b ≡ true → (b ∷ [] ≡ codes "-" → Stops (nat_eq 62) rest) → Reads (b ∷ rest) place Sign 1
unfolding lead_of is_letter is_digit is_sign_byte
sign_read b rest place sign ends = sign_front (b ∷ rest) place (sign_leads b sign) (no_arrow b rest ends)

arrow_read : (rest : List ℕ) (place : Place) → Reads (codes "->" ++ rest) place Sign 2
unfolding lead_of is_letter is_digit is_sign_byte
arrow_read rest place = arrow_front (codes "->" ++ rest) place refl refl

-- what is read at the front is the token, and no more
pub read_at_front : (kind : TokenKind) (text rest : List ℕ) (place : Place) → Spells kind text → leading_value text < 2 ^ 64 → Ends kind text rest
    → Reads (text ++ rest) place kind (length text)
unfolding lead_of is_letter is_digit is_sign_byte
read_at_front Word [] rest place s narrow ends = absurd s
read_at_front Word (b ∷ bytes) rest place s narrow ends = word_read b bytes rest place s ends
read_at_front Val [] rest place s narrow ends = absurd s
read_at_front Val (b ∷ bytes) rest place s narrow ends = named_read Val is_value_byte b bytes rest place (λ n. name_front Val ((b ∷ bytes) ++ rest) place n (ap lead_of s.0)) s.1 ends
read_at_front At [] rest place s narrow ends = absurd s
read_at_front At (b ∷ bytes) rest place s narrow ends = named_read At is_name_byte b bytes rest place (λ n. name_front At ((b ∷ bytes) ++ rest) place n (ap lead_of s.0)) s.1 (no_name rest ends)
read_at_front Hash [] rest place s narrow ends = absurd s
read_at_front Hash (b ∷ bytes) rest place s narrow ends = named_read Hash is_name_byte b bytes rest place (λ n. name_front Hash ((b ∷ bytes) ++ rest) place n (ap lead_of s.0)) s.1 (no_name rest ends)
read_at_front Block [] rest place s narrow ends = absurd s
read_at_front Block (b ∷ bytes) rest place s narrow ends = named_read Block is_name_byte b bytes rest place (λ n. name_front Block ((b ∷ bytes) ++ rest) place n (ap lead_of s.0)) s.1 (no_name rest ends)
read_at_front Bang [] rest place s narrow ends = absurd s
read_at_front Bang (b ∷ bytes) rest place s narrow ends = named_read Bang is_name_byte b bytes rest place (λ n. name_front Bang ((b ∷ bytes) ++ rest) place n (ap lead_of s.0)) s.1 (no_name rest ends)
read_at_front Number [] rest place s narrow ends = absurd s
read_at_front Number (b ∷ bytes) rest place s narrow ends = number_read b bytes rest place s narrow ends
read_at_front Dim text rest place s narrow ends =
    elim s [
      | inl run ↦ of_digits run.0 run.1 run.2
      | inr unknown ↦ subst (λ (t : List ℕ). Reads (t ++ rest) place Dim (length t)) (sym unknown) (unknown_read rest place)
    ]
  where
    of_digits : (digits : List ℕ) → IsRun is_digit digits → text ≡ digits ++ codes "x" → Reads (text ++ rest) place Dim (length text)
    of_digits [] run e = absurd run
    of_digits (d ∷ digits) run e =
        let fits : leading_value ((d ∷ digits) ++ codes "x") < 2 ^ 64 = subst (λ (t : List ℕ). leading_value t < 2 ^ 64) e narrow in
        subst (λ (t : List ℕ). Reads (t ++ rest) place Dim (length t)) (sym e) (dim_read d digits rest place run fits)
read_at_front Str text rest place s narrow ends =
    subst (λ (t : List ℕ). Reads (t ++ rest) place Str (length t)) (sym s.2) (string_read s.0 rest place s.1)
read_at_front Sign text rest place s narrow ends =
    elim s [
      | inl one ↦
          let ends_here : one.0 ∷ [] ≡ codes "-" → Stops (nat_eq 62) rest = λ e. ends (one.2 ∙ e) in
          subst (λ (t : List ℕ). Reads (t ++ rest) place Sign (length t)) (sym one.2) (sign_read one.0 rest place one.1 ends_here)
      | inr arrow ↦
          subst (λ (t : List ℕ). Reads (t ++ rest) place Sign (length t)) (sym arrow) (arrow_read rest place)
    ]
read_at_front End text rest place s narrow ends = absurd s

-- ## No gap begins at a token

blank_leads : (b : ℕ) → is_blank b ≡ true → lead_of b ≡ lead_of 32
unfolding is_blank lead_of is_letter is_digit is_sign_byte
blank_leads b h = one_of (λ c. lead_of c ≡ lead_of 32) b (32 ∷ 9 ∷ 13 ∷ 10 ∷ []) h (refl, (refl, (refl, (refl, tt))))

slash_leads : lead_of 47 ≡ lead_of 32
unfolding lead_of is_letter is_digit is_sign_byte
slash_leads = refl

nothing_leads : (kind : TokenKind) (b : ℕ) (bytes : List ℕ) → Spells kind (b ∷ bytes) → lead_of b ≡ lead_of 32 → ⊥
unfolding lead_of is_letter is_digit is_sign_byte
nothing_leads kind b bytes s e = subst (λ l. Suits l kind) e (suits kind b bytes s)

pub no_gap_at : (kind : TokenKind) (b : ℕ) (bytes rest : List ℕ) → Spells kind (b ∷ bytes) → begins_gap ((b ∷ bytes) ++ rest) ≡ false
no_gap_at kind b bytes rest s =
    elim (cases_Bool (is_blank b)) [
      | inl blank ↦ absurd (nothing_leads kind b bytes s (blank_leads b blank))
      | inr other ↦ elim (cases_Bool (starts_with nat_eq ((b ∷ bytes) ++ rest) (codes "//"))) [
        | inl comment ↦
            let whole = begins_with_two 47 47 ((b ∷ bytes) ++ rest) comment in
            let slash : b ≡ 47 = cc (whole.1) in
            absurd (nothing_leads kind b bytes s (ap lead_of slash ∙ slash_leads))
        | inr none ↦ rw (other, none) refl
      ]
    ]
