-- What is read at the front is the longest token there.
use Rattle.std.proofs.Common.{◌≡◌, ℕ, zero, suc, ◌+◌, ◌^◌, ◌<◌, ◌≤◌, ◌⊎◌, inl, inr, Bool, true, false, nat_eq, List, [], ◌∷◌, ◌++◌, length, take, drop, codes, Ok, refl, sym, ap, ◌∙◌, subst, arith, one-add, add-one, lit<}
use Rattle.std.specs.List.{prefix_len, starts_with}
use Rattle.std.proofs.lemmas.Bool.{eq-eqb, cases_Bool}
use Rattle.std.proofs.lemmas.List.{take-append-drop, length-take-le}
use Rattle.sh_base.specs.declared.places.Place.{Place}
use Rattle.sh_lex.specs.declared.tokens.TokenKind.{TokenKind}
use Rattle.sh_lex.specs.declared.tokens.TokenKind.TheVariants.{Word, Val, At, Hash, Block, Bang, Number, Dim, Str, Sign, End}
use Rattle.sh_lex.specs.declared.tokens.LexRefusal.TheVariants.{BadByte, OpenString}
use Rattle.sh_lex.specs.declared.bytes.Lead.{Lead}
use Rattle.sh_lex.specs.declared.bytes.Lead.TheVariants.{Letter, Mark, Digit, Question, Quote, Punctuation, Other}
use Rattle.sh_lex.specs.Tokens.{is_letter, is_digit, is_name_byte, is_string_byte, Each, IsRun, Spells, IsFault, StartsNone, decimal_of, leading_value}
use Rattle.sh_lex.specs.Scan.{is_in, lead_of, class_of, Leads, IsReading}
use Rattle.sh_lex.proofs.Runs.{each_in_run, run_is_longest, is_run, each_of_run, begins_with_two, front_with, closed_front}
use Rattle.sh_lex.proofs.LeadLemmas.{Suits, suits, Marks, meaning, digit_leads, digit_first}

append_is_some : (xs : List ℕ) (c : ℕ) (ys : List ℕ) → [] ≡ xs ++ (c ∷ ys) → ⊥
append_is_some [] c ys e = cc
append_is_some (x ∷ xs) c ys e = cc

pub spells_some : (kind : TokenKind) → Spells kind [] → ⊥
spells_some Word h = h
spells_some Val h = h
spells_some At h = h
spells_some Hash h = h
spells_some Block h = h
spells_some Bang h = h
spells_some Number h = h
spells_some Dim h = elim h [ inl run ↦ append_is_some run.0 120 [] run.2 | inr unknown ↦ cc ]
spells_some Str h = cc (h.2)
spells_some Sign h = elim h [ inl one ↦ cc (one.2) | inr arrow ↦ cc ]
spells_some End h = h

-- a front that is a token has a first byte, which suits it
longest_by : (b : ℕ) (more : List ℕ) (len : ℕ)
    → ((kind : TokenKind) (m : ℕ) → m ≤ length more → Suits (lead_of b) kind → Spells kind (b ∷ take m more) → suc m ≤ len)
    → (kind : TokenKind) (n : ℕ) → n ≤ length (b ∷ more) → Spells kind (take n (b ∷ more)) → n ≤ len
longest_by b more len f kind zero within s = absurd (spells_some kind s)
longest_by b more len f kind (suc m) within s = f kind m (omega arith) (suits kind b (take m more) s) s

none_by : (b : ℕ) (more : List ℕ)
    → ((kind : TokenKind) (m : ℕ) → m ≤ length more → Suits (lead_of b) kind → Spells kind (b ∷ take m more) → ⊥)
    → StartsNone (b ∷ more)
none_by b more f kind zero within s = spells_some kind s
none_by b more f kind (suc m) within s = f kind m (omega arith) (suits kind b (take m more) s) s

-- where no digit stands there is no value
no_value : (b : ℕ) (more : List ℕ) → is_digit b ≡ false → leading_value (b ∷ more) < 2 ^ 64
no_value b more e = rw e (lit< tt)

no_digit : (lead : Lead) (b : ℕ) → lead_of b ≡ lead → (Digit ≡ lead → ⊥) → is_digit b ≡ false
no_digit lead b e other =
    elim (cases_Bool (is_digit b)) [
      | inl digit ↦ absurd (other (sym (digit_leads b digit) ∙ e))
      | inr none ↦ none
    ]

pub word_front : (rest : List ℕ) (place : Place) (n : ℕ) → Leads Letter rest → n ≡ prefix_len is_name_byte rest → n ≤ length rest → IsReading rest place (Ok (Word, n))
unfolding is_name_byte
word_front [] place n lead e within = absurd lead
word_front (b ∷ more) place n lead e within =
    let letter : is_letter b ≡ true = meaning Letter b lead in
    let name : is_name_byte b ≡ true = rw letter refl in
    let len : n ≡ suc (prefix_len is_name_byte more) = e ∙ rw (letter, one-add) refl in
    let spelled : Spells Word (take n (b ∷ more)) = rw len (letter, each_in_run is_name_byte more) in
    let longest : (kind : TokenKind) (m : ℕ) → m ≤ length more → Suits (lead_of b) kind → Spells kind (b ∷ take m more) → suc m ≤ n =
    λ kind m short suit s.
    let is_word : kind ≡ Word = subst (λ l. Suits l kind) lead suit in
    let w : Spells Word (b ∷ take m more) = subst (λ k. Spells k (b ∷ take m more)) is_word s in
    let l : m ≤ prefix_len is_name_byte more = run_is_longest is_name_byte more m short w.1 in
    omega arith in
    (record { within = within; spelled = spelled; longest = longest_by b more n longest }, no_value b more (no_digit Letter b lead (λ q. cc)))

no_quote : (lead : Lead) (b : ℕ) → lead_of b ≡ lead → (Quote ≡ lead → ⊥) → b ≡ 34 → ⊥
unfolding lead_of is_letter is_digit
no_quote lead b e other same =
    let quote : lead_of b ≡ Quote = rw same refl in
    other (sym quote ∙ e)

pub name_front : (kind : TokenKind) (rest : List ℕ) (place : Place) (n : ℕ) → Leads (Mark kind) rest
    → n ≡ prefix_len (is_in (class_of kind)) (drop 1 rest) → n ≤ length (drop 1 rest) → (n ≡ 0 → ⊥) → IsReading rest place (Ok (kind, n + 1))
name_front kind [] place n lead e within some = absurd lead
name_front kind (b ∷ more) place n lead e within some =
    let p : ℕ → Bool = is_in (class_of kind) in
    let marks : Marks kind b = meaning (Mark kind) b lead in
    let run : IsRun p (take n more) =
    let each : Each p (take n more) = rw e (each_in_run p more) in
    is_run p (take n more) (omega (arith, length-take-le n more within)) each in
    let spelled : Spells kind (take (n + 1) (b ∷ more)) = rw add-one ((marks (b ∷ take n more)).1 (refl, run)) in
    let longest : (other : TokenKind) (m : ℕ) → m ≤ length more → Suits (lead_of b) other → Spells other (b ∷ take m more) → suc m ≤ n + 1 =
    λ other m short suit s.
    let same : other ≡ kind = subst (λ l. Suits l other) lead suit in
    let named = (marks (b ∷ take m more)).0 (subst (λ k. Spells k (b ∷ take m more)) same s) in
    let l : m ≤ prefix_len p more = run_is_longest p more m short (each_of_run p (take m more) named.1) in
    omega arith in
    (record { within = omega arith; spelled = spelled; longest = longest_by b more (n + 1) longest }, no_value b more (no_digit (Mark kind) b lead (λ q. cc)))

no_run : (p : ℕ → Bool) (more : List ℕ) (m : ℕ) → prefix_len p more ≡ 0 → m ≤ length more → IsRun p (take m more) → ⊥
no_run p more zero e short run = run
no_run p more (suc m) e short run =
    let l : suc m ≤ prefix_len p more = run_is_longest p more (suc m) short (each_of_run p (take (suc m) more) run) in
    omega arith

pub name_fault : (kind : TokenKind) (rest : List ℕ) (place : Place) → Leads (Mark kind) rest
    → prefix_len (is_in (class_of kind)) (drop 1 rest) ≡ 0 → IsFault rest place (BadByte place)
name_fault kind [] place lead e = absurd lead
name_fault kind (b ∷ more) place lead e =
    let p : ℕ → Bool = is_in (class_of kind) in
    let marks : Marks kind b = meaning (Mark kind) b lead in (
      refl,
      none_by b more (λ other m short suit s.
          let same : other ≡ kind = subst (λ l. Suits l other) lead suit in
          let named = (marks (b ∷ take m more)).0 (subst (λ k. Spells k (b ∷ take m more)) same s) in
          no_run p more m e short named.1),
      no_quote (Mark kind) b lead (λ q. cc),
    )

x_is_no_digit : is_digit 120 ≡ false
unfolding is_digit
x_is_no_digit = refl

question_is_no_digit : is_digit 63 ≡ false
unfolding is_digit
question_is_no_digit = refl

-- digits with a dimension's `x` behind them
dim_at_digit : (b : ℕ) (more : List ℕ) (m : ℕ) → is_digit b ≡ true → m ≤ length more → Spells Dim (b ∷ take m more)
    → (suc m ≡ prefix_len is_digit (b ∷ more) + 1) × (starts_with nat_eq (drop (prefix_len is_digit (b ∷ more)) (b ∷ more)) (codes "x") ≡ true)
dim_at_digit b more m digit short s =
    elim s [
      | inl run ↦ closed_front is_digit 120 (b ∷ more) (suc m) run.0 x_is_no_digit (each_of_run is_digit run.0 run.1) run.2 (omega arith)
      | inr unknown ↦
          let same : b ≡ 63 = cc in
          let none : is_digit b ≡ false = rw same question_is_no_digit in
          absurd (cc)
    ]

number_at_digit : (b : ℕ) (more : List ℕ) (m : ℕ) → m ≤ length more → Spells Number (b ∷ take m more) → suc m ≤ prefix_len is_digit (b ∷ more)
number_at_digit b more m short s = run_is_longest is_digit (b ∷ more) (suc m) (omega arith) s

digits_run : (b : ℕ) (more : List ℕ) → is_digit b ≡ true → IsRun is_digit (take (prefix_len is_digit (b ∷ more)) (b ∷ more))
digits_run b more digit =
    let each = each_in_run is_digit more in
    rw (digit, one-add) (digit, each)

pub number_front : (rest : List ℕ) (place : Place) (n : ℕ) → Leads Digit rest → n ≡ prefix_len is_digit rest → n ≤ length rest
    → decimal_of (take n rest) < 2 ^ 64 → starts_with nat_eq (drop n rest) (codes "x") ≡ false → IsReading rest place (Ok (Number, n))
number_front [] place n lead e within narrow open_end = absurd lead
number_front (b ∷ more) place n lead e within narrow open_end =
    let digit : is_digit b ≡ true = meaning Digit b lead in
    let len = prefix_len is_digit (b ∷ more) in
    let longest : (other : TokenKind) (m : ℕ) → m ≤ length more → Suits (lead_of b) other → Spells other (b ∷ take m more) → suc m ≤ len =
    λ other m short suit s.
    let known : (other ≡ Number) ⊎ (other ≡ Dim) = subst (λ l. Suits l other) lead suit in
    elim known [
      | inl number ↦ number_at_digit b more m short (subst (λ k. Spells k (b ∷ take m more)) number s)
      | inr dim ↦
          let closed = dim_at_digit b more m digit short (subst (λ k. Spells k (b ∷ take m more)) dim s) in
          let open_here : starts_with nat_eq (drop len (b ∷ more)) (codes "x") ≡ false = rw (← e) open_end in
          absurd (cc (closed.1))
    ] in
    let at_len : IsReading (b ∷ more) place (Ok (Number, len)) =
    (record { within = rw (← e) within; spelled = digits_run b more digit; longest = longest_by b more len longest }, rw (← e) narrow) in
    rw e at_len

pub dim_front : (rest : List ℕ) (place : Place) (n : ℕ) → Leads Digit rest → n ≡ prefix_len is_digit rest
    → decimal_of (take n rest) < 2 ^ 64 → starts_with nat_eq (drop n rest) (codes "x") ≡ true → IsReading rest place (Ok (Dim, n + 1))
dim_front [] place n lead e narrow closed = absurd lead
dim_front (b ∷ more) place n lead e narrow closed =
    let digit : is_digit b ≡ true = meaning Digit b lead in
    let len = prefix_len is_digit (b ∷ more) in
    let longest : (other : TokenKind) (m : ℕ) → m ≤ length more → Suits (lead_of b) other → Spells other (b ∷ take m more) → suc m ≤ len + 1 =
    λ other m short suit s.
    let known : (other ≡ Number) ⊎ (other ≡ Dim) = subst (λ l. Suits l other) lead suit in
    elim known [
      | inl number ↦ omega (arith, number_at_digit b more m short (subst (λ k. Spells k (b ∷ take m more)) number s))
      | inr dim ↦ omega (arith, (dim_at_digit b more m digit short (subst (λ k. Spells k (b ∷ take m more)) dim s)).0)
    ] in
    let here : starts_with nat_eq (drop len (b ∷ more)) (codes "x") ≡ true = rw (← e) closed in
    let longer = front_with 120 (b ∷ more) len here in
    let at_len : IsReading (b ∷ more) place (Ok (Dim, len + 1)) =
    (record { within = longer.1; spelled = inl (take len (b ∷ more), digits_run b more digit, longer.0); longest = longest_by b more (len + 1) longest }, rw (← e) narrow) in
    rw e at_len

-- the length of a front with one byte before it
front_len : (b : ℕ) (more : List ℕ) (m : ℕ) (bytes : List ℕ) → m ≤ length more → b ∷ take m more ≡ bytes → suc m ≡ length bytes
front_len b more m bytes short e = omega (arith, ap length e, length-take-le m more short)

-- two bytes at the front that are known stand at the front of the rest
front_of_two : (c d : ℕ) (b : ℕ) (more : List ℕ) (m : ℕ) → b ∷ take m more ≡ c ∷ (d ∷ []) → starts_with nat_eq (b ∷ more) (c ∷ (d ∷ [])) ≡ true
front_of_two c d b more m e =
    let whole : b ∷ more ≡ c ∷ (d ∷ drop m more) = ap (λ l. b ∷ l) (sym (take-append-drop m more)) ∙ ap (λ l. l ++ drop m more) e in
    let first : nat_eq c c ≡ true = eq-eqb c c refl in
    let second : nat_eq d d ≡ true = eq-eqb d d refl in
    let here : starts_with nat_eq (c ∷ (d ∷ drop m more)) (c ∷ (d ∷ [])) ≡ true = rw (first, second) refl in
    ap (λ (l : List ℕ). starts_with nat_eq l (c ∷ (d ∷ []))) whole ∙ here

pub unknown_front : (rest : List ℕ) (place : Place) → Leads Question rest → starts_with nat_eq rest (codes "?x") ≡ true → IsReading rest place (Ok (Dim, 2))
unknown_front [] place lead starts = absurd lead
unknown_front (b ∷ more) place lead starts =
    let question : b ≡ 63 = meaning Question b lead in
    let whole = begins_with_two 63 120 (b ∷ more) starts in
    let longest : (other : TokenKind) (m : ℕ) → m ≤ length more → Suits (lead_of b) other → Spells other (b ∷ take m more) → suc m ≤ 2 =
    λ other m short suit s.
    let dim : other ≡ Dim = subst (λ l. Suits l other) lead suit in
    let is_dim : Spells Dim (b ∷ take m more) = subst (λ k. Spells k (b ∷ take m more)) dim s in
    elim is_dim [
      | inl run ↦
          let digit : is_digit b ≡ true = digit_first run.0 b (take m more) (codes "x") run.1 run.2 in
          let none : is_digit b ≡ false = rw question question_is_no_digit in
          absurd (cc)
      | inr unknown ↦ omega (arith, front_len b more m (codes "?x") short unknown)
    ] in
    let within : 2 ≤ length (b ∷ more) = omega (arith, ap length whole.1) in
    let spelled : Spells Dim (take 2 (b ∷ more)) = inr (ap (take 2) whole.1) in
    (record { within = within; spelled = spelled; longest = longest_by b more 2 longest }, no_value b more (no_digit Question b lead (λ q. cc)))

pub unknown_fault : (rest : List ℕ) (place : Place) → Leads Question rest → starts_with nat_eq rest (codes "?x") ≡ false → IsFault rest place (BadByte place)
unknown_fault [] place lead starts = absurd lead
unknown_fault (b ∷ more) place lead starts =
    let question : b ≡ 63 = meaning Question b lead in (
      refl,
      none_by b more (λ other m short suit s.
          let dim : other ≡ Dim = subst (λ l. Suits l other) lead suit in
          let is_dim : Spells Dim (b ∷ take m more) = subst (λ k. Spells k (b ∷ take m more)) dim s in
          elim is_dim [
            | inl run ↦
                let digit : is_digit b ≡ true = digit_first run.0 b (take m more) (codes "x") run.1 run.2 in
                let none : is_digit b ≡ false = rw question question_is_no_digit in
                cc
            | inr unknown ↦
                let begins : starts_with nat_eq (b ∷ more) (codes "?x") ≡ true = front_of_two 63 120 b more m unknown in
                cc
          ]),
      no_quote Question b lead (λ q. cc),
    )

quote_ends : is_string_byte 34 ≡ false
unfolding is_string_byte
quote_ends = refl

-- a string is a quote, the longest run of bytes of strings, and a quote
string_at_quote : (b : ℕ) (more : List ℕ) (m : ℕ) → m ≤ length more → Spells Str (b ∷ take m more)
    → (m ≡ prefix_len is_string_byte more + 1) × (starts_with nat_eq (drop (prefix_len is_string_byte more) more) (34 ∷ []) ≡ true)
string_at_quote b more m short s =
    let inside : take m more ≡ s.0 ++ 34 ∷ [] = cc (s.2) in
    closed_front is_string_byte 34 more m s.0 quote_ends s.1 inside short

pub string_front : (rest : List ℕ) (place : Place) (n : ℕ) → Leads Quote rest → n ≡ prefix_len is_string_byte (drop 1 rest)
    → starts_with nat_eq (drop n (drop 1 rest)) (34 ∷ []) ≡ true → IsReading rest place (Ok (Str, n + 2))
string_front [] place n lead e closed = absurd lead
string_front (b ∷ more) place n lead e closed =
    let quote : b ≡ 34 = meaning Quote b lead in
    let longer = front_with 34 more n closed in
    let each : Each is_string_byte (take n more) = rw e (each_in_run is_string_byte more) in
    let len : n + 2 ≡ suc (n + 1) = omega arith in
    let spelled : Spells Str (take (n + 2) (b ∷ more)) =
    rw len (take n more, each, cc (longer.0)) in
    let longest : (other : TokenKind) (m : ℕ) → m ≤ length more → Suits (lead_of b) other → Spells other (b ∷ take m more) → suc m ≤ n + 2 =
    λ other m short suit s.
    let str : other ≡ Str = subst (λ l. Suits l other) lead suit in
    omega (arith, (string_at_quote b more m short (subst (λ k. Spells k (b ∷ take m more)) str s)).0) in
    (record { within = omega (arith, longer.1); spelled = spelled; longest = longest_by b more (n + 2) longest }, no_value b more (no_digit Quote b lead (λ q. cc)))

pub string_fault : (rest : List ℕ) (place : Place) (n : ℕ) → Leads Quote rest → n ≡ prefix_len is_string_byte (drop 1 rest)
    → starts_with nat_eq (drop n (drop 1 rest)) (34 ∷ []) ≡ false → IsFault rest place (OpenString place)
string_fault [] place n lead e open_end = absurd lead
string_fault (b ∷ more) place n lead e open_end = (
  refl,
  none_by b more (λ other m short suit s.
      let str : other ≡ Str = subst (λ l. Suits l other) lead suit in
      let closed = string_at_quote b more m short (subst (λ k. Spells k (b ∷ take m more)) str s) in
      let open_here : starts_with nat_eq (drop (prefix_len is_string_byte more) more) (34 ∷ []) ≡ false = rw (← e) open_end in
      cc (closed.1)),
  meaning Quote b lead,
)

pub arrow_front : (rest : List ℕ) (place : Place) → Leads Punctuation rest → starts_with nat_eq rest (codes "->") ≡ true → IsReading rest place (Ok (Sign, 2))
arrow_front [] place lead starts = absurd lead
arrow_front (b ∷ more) place lead starts =
    let whole = begins_with_two 45 62 (b ∷ more) starts in
    let longest : (other : TokenKind) (m : ℕ) → m ≤ length more → Suits (lead_of b) other → Spells other (b ∷ take m more) → suc m ≤ 2 =
    λ other m short suit s.
    let sign : other ≡ Sign = subst (λ l. Suits l other) lead suit in
    let is_sign : Spells Sign (b ∷ take m more) = subst (λ k. Spells k (b ∷ take m more)) sign s in
    elim is_sign [
      | inl one ↦ omega (arith, front_len b more m (one.0 ∷ []) short one.2)
      | inr arrow ↦ omega (arith, front_len b more m (codes "->") short arrow)
    ] in
    let within : 2 ≤ length (b ∷ more) = omega (arith, ap length whole.1) in
    let spelled : Spells Sign (take 2 (b ∷ more)) = inr (ap (take 2) whole.1) in
    (record { within = within; spelled = spelled; longest = longest_by b more 2 longest }, no_value b more (no_digit Punctuation b lead (λ q. cc)))

pub sign_front : (rest : List ℕ) (place : Place) → Leads Punctuation rest → starts_with nat_eq rest (codes "->") ≡ false → IsReading rest place (Ok (Sign, 1))
sign_front [] place lead starts = absurd lead
sign_front (b ∷ more) place lead starts =
    let longest : (other : TokenKind) (m : ℕ) → m ≤ length more → Suits (lead_of b) other → Spells other (b ∷ take m more) → suc m ≤ 1 =
    λ other m short suit s.
    let sign : other ≡ Sign = subst (λ l. Suits l other) lead suit in
    let is_sign : Spells Sign (b ∷ take m more) = subst (λ k. Spells k (b ∷ take m more)) sign s in
    elim is_sign [
      | inl one ↦ omega (arith, front_len b more m (one.0 ∷ []) short one.2)
      | inr arrow ↦
          let begins : starts_with nat_eq (b ∷ more) (codes "->") ≡ true = front_of_two 45 62 b more m arrow in
          absurd (cc)
    ] in
    let spelled : Spells Sign (take 1 (b ∷ more)) = inl (b, meaning Punctuation b lead, refl) in
    (record { within = omega arith; spelled = spelled; longest = longest_by b more 1 longest }, no_value b more (no_digit Punctuation b lead (λ q. cc)))

pub other_fault : (rest : List ℕ) (place : Place) → Leads Other rest → IsFault rest place (BadByte place)
other_fault [] place lead = absurd lead
other_fault (b ∷ more) place lead =
    (refl, none_by b more (λ other m short suit s. subst (λ l. Suits l other) lead suit), no_quote Other b lead (λ q. cc))
