-- The first byte of a token tells its kind, but for a number and a dimension.
use Rattle.std.proofs.Common.{◌≡◌, ℕ, ◌<◌, ◌⊎◌, inl, inr, Bool, true, false, cond, ◌||◌, nat_eq, List, [], ◌∷◌, ◌++◌, length, get_or, codes, refl, sym, subst, arith}
use Rattle.std.specs.List.{AllByRecursion, list_any}
use Rattle.std.proofs.lemmas.Bool.{eqb-true}
use Rattle.std.proofs.lemmas.Bool.Decides.{nat_tests}
use Rattle.sh_lex.specs.declared.tokens.TokenKind.{TokenKind}
use Rattle.sh_lex.specs.declared.tokens.TokenKind.TheVariants.{Word, Val, At, Hash, Block, Bang, Number, Dim, Str, Sign, End}
use Rattle.sh_lex.specs.declared.bytes.Lead.{Lead}
use Rattle.sh_lex.specs.declared.bytes.Lead.TheVariants.{Letter, Mark, Digit, Question, Quote, Punctuation, Other}
use Rattle.sh_lex.specs.Tokens.{is_letter, is_digit, is_sign_byte, Spells, IsNamed, IsRun}
use Rattle.sh_lex.specs.Scan.{is_in, lead_of, class_of, Leads}

-- the kinds that can begin with a byte of this sort
abbrev pub Suits : Lead → TokenKind → Type 0
Suits Letter kind = kind ≡ Word
Suits (Mark mark) kind = kind ≡ mark
Suits Digit kind = (kind ≡ Number) ⊎ (kind ≡ Dim)
Suits Question kind = kind ≡ Dim
Suits Quote kind = kind ≡ Str
Suits Punctuation kind = kind ≡ Sign
Suits Other kind = ⊥

digit_is_no_letter : (b : ℕ) → is_digit b ≡ true → is_letter b ≡ false
unfolding is_letter is_digit
digit_is_no_letter b h = grind (arith, nat_tests)

pub letter_leads : (b : ℕ) → is_letter b ≡ true → lead_of b ≡ Letter
unfolding lead_of
letter_leads b h = rw h refl

pub digit_leads : (b : ℕ) → is_digit b ≡ true → lead_of b ≡ Digit
unfolding lead_of
digit_leads b h = rw (digit_is_no_letter b h, h) refl

-- what holds of each byte of a list holds of one that is among them
each_of : (P : ℕ → Type 0) (b : ℕ) (bytes : List ℕ) → list_any (nat_eq b) bytes ≡ true → AllByRecursion P bytes → P b
each_of P b [] e each = absurd (cc)
each_of P b (x ∷ bytes) e each = go (nat_eq b x) refl e (each_of P b bytes)
  where
    go : (v : Bool) → nat_eq b x ≡ v → (v || list_any (nat_eq b) bytes) ≡ true → (list_any (nat_eq b) bytes ≡ true → AllByRecursion P bytes → P b) → P b
    go true same f h = subst P (sym (eqb-true b x same)) each.0
    go false other f h = h f each.1

sign_leads : (b : ℕ) → is_sign_byte b ≡ true → lead_of b ≡ Punctuation
unfolding lead_of is_letter is_digit is_sign_byte
sign_leads b h =
    each_of (λ c. lead_of c ≡ Punctuation) b (codes "(){}[]<>,:=+*-") h
    (refl, (refl, (refl, (refl, (refl, (refl, (refl, (refl, (refl, (refl, (refl, (refl, (refl, (refl, tt))))))))))))))

mark_suits : (kind : TokenKind) (b mark : ℕ) → b ≡ mark → lead_of mark ≡ Mark kind → Suits (lead_of b) kind
mark_suits kind b mark same leads = rw (same, leads) refl

pub digit_first : (digits : List ℕ) (b : ℕ) (bytes tail : List ℕ) → IsRun is_digit digits → b ∷ bytes ≡ digits ++ tail → is_digit b ≡ true
digit_first [] b bytes tail run e = absurd run
digit_first (d ∷ digits) b bytes tail run e =
    let same : b ≡ d = cc in
    rw same run.0

-- a token begins with a byte that suits its kind
pub suits : (kind : TokenKind) (b : ℕ) (bytes : List ℕ) → Spells kind (b ∷ bytes) → Suits (lead_of b) kind
unfolding lead_of is_letter is_digit is_sign_byte
suits Word b bytes h = rw (letter_leads b h.0) refl
suits Val b bytes h = mark_suits Val b 37 h.0 refl
suits At b bytes h = mark_suits At b 64 h.0 refl
suits Hash b bytes h = mark_suits Hash b 35 h.0 refl
suits Block b bytes h = mark_suits Block b 94 h.0 refl
suits Bang b bytes h = mark_suits Bang b 33 h.0 refl
suits Number b bytes h = rw (digit_leads b h.0) (inl refl)
suits Dim b bytes h =
    elim h [
      | inl run ↦ rw (digit_leads b (digit_first run.0 b bytes (codes "x") run.1 run.2)) (inr refl)
      | inr unknown ↦ let same : b ≡ 63 = cc in rw same refl
    ]
suits Str b bytes h = let same : b ≡ 34 = cc (h.2) in rw same refl
suits Sign b bytes h =
    elim h [
      | inl one ↦ let same : b ≡ one.0 = cc (one.2) in rw (same, sign_leads one.0 one.1) refl
      | inr arrow ↦ let same : b ≡ 45 = cc in rw same refl
    ]
suits End b bytes h = absurd h

-- the byte is the mark of names of this kind
abbrev pub Marks : TokenKind → ℕ → Type 0
Marks kind b = (bytes : List ℕ) → (Spells kind bytes → IsNamed b (is_in (class_of kind)) bytes) × (IsNamed b (is_in (class_of kind)) bytes → Spells kind bytes)

-- what is known of a byte of this sort
abbrev pub Means : Lead → ℕ → Type 0
Means Letter b = is_letter b ≡ true
Means (Mark kind) b = Marks kind b
Means Digit b = is_digit b ≡ true
Means Question b = b ≡ 63
Means Quote b = b ≡ 34
Means Punctuation b = is_sign_byte b ≡ true
Means Other b = Unit {0}

choose : (P : Lead → Type 0) (v : Bool) (x y : Lead) → (v ≡ true → P x) → (v ≡ false → P y) → P (cond v x y)
choose P true x y f g = f refl
choose P false x y f g = g refl

marks_at : (kind : TokenKind) (mark b : ℕ) → Marks kind mark → nat_eq b mark ≡ true → Marks kind b
marks_at kind mark b m e = subst (Marks kind) (sym (eqb-true b mark e)) m

pub means : (b : ℕ) → Means (lead_of b) b
unfolding lead_of
means b =
    let P : Lead → Type 0 = λ lead. Means lead b in
    choose P (is_letter b) _ _ (λ e. e) (λ _.
    choose P (is_digit b) _ _ (λ e. e) (λ _.
    choose P (nat_eq b 37) _ _ (marks_at Val 37 b (λ bytes. (λ h. h, λ h. h))) (λ _.
    choose P (nat_eq b 64) _ _ (marks_at At 64 b (λ bytes. (λ h. h, λ h. h))) (λ _.
    choose P (nat_eq b 35) _ _ (marks_at Hash 35 b (λ bytes. (λ h. h, λ h. h))) (λ _.
    choose P (nat_eq b 94) _ _ (marks_at Block 94 b (λ bytes. (λ h. h, λ h. h))) (λ _.
    choose P (nat_eq b 33) _ _ (marks_at Bang 33 b (λ bytes. (λ h. h, λ h. h))) (λ _.
    choose P (nat_eq b 63) _ _ (eqb-true b 63) (λ _.
    choose P (nat_eq b 34) _ _ (eqb-true b 34) (λ _.
    choose P (is_sign_byte b) _ _ (λ e. e) (λ _. tt))))))))))

-- what is known of a byte whose sort is known
pub meaning : (lead : Lead) (b : ℕ) → lead_of b ≡ lead → Means lead b
meaning lead b e = subst (λ l. Means l b) e (means b)

pub leads_at : (lead : Lead) (rest : List ℕ) → 0 < length rest → lead ≡ lead_of (get_or rest 0 0) → Leads lead rest
leads_at lead [] some e = absurd (omega arith)
leads_at lead (b ∷ rest) some e = sym e
