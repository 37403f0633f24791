-- From what the parts of the reader answer to its answer.
use Rattle.std.proofs.Common.{◌≡◌, ◌⊎◌, ◌≤◌, ◌<◌, ℕ, zero, suc, ◌-◌, List, [], ◌∷◌, ◌++◌, true, length, take, drop, slice_get, Some, refl, sym, ◌∙◌, ap, subst, arith, inl, inr, length-drop}
use Rattle.std.specs.Prelude.{Result, Ok, Err, IfOk, IfErr, IsErrAnd, MatchResult}
use Rattle.sh_base.specs.declared.places.Place.{Place}
use Rattle.sh_base.specs.declared.places.Refusal.{Refusal}
use Rattle.sh_base.specs.declared.rules.Rule.{Rule}
use Rattle.sh_base.specs.declared.rules.Rule.TheVariants.{P1}
use Rattle.std.proofs.lemmas.Option.{same_Some, slice_get_within}
use Rattle.sh_build.specs.Rows.{first_part}
use Rattle.sh_build.specs.declared.parts.Part.TheVariants as part
use Rattle.sh_grammar.specs.Answer.{Accepts, Refuses}
use Rattle.sh_grammar.specs.Language.{language, text_of_file}
use Rattle.sh_grammar.specs.Lexemes.{Lexeme, lexeme_of, lexemes}
use Rattle.sh_grammar.specs.declared.symbols.Event.{Event}
use Rattle.sh_grammar.specs.declared.symbols.Event.TheVariants.{Took, Opened}
use Rattle.sh_ir.specs.declared.modules.Module.{Module}
use Rattle.sh_lex.specs.Tokens.{HasTokens, HasTokensFrom, at_end, at_token, IsEnd, IsNext}
use Rattle.sh_lex.specs.declared.tokens.Token.{Token}
use Rattle.sh_lex.proofs.Uniqueness.{same_tokens}
use Rattle.sh_names.specs.Names.{Mention, Owned, at_start, behind, inside, keep_rules, mentions, mentions_from, names_behind, names_of, numbers_among, numbers_of}
use Rattle.sh_names.specs.declared.scopes.Scope.{Scope}
use Rattle.sh_names.specs.Tables.{AreWithin, IsPassed, tooks}
use Rattle.sh_names.specs.declared.mentions.Named.{Named}
use Rattle.sh_names.specs.declared.mentions.Named.TheVariants.{Broken}
use Rattle.sh_parse.specs.Answers.{IsFileBy, IsRefusal, part_by}
use Rattle.sh_parse.specs.Reads.{IsRefusedAt, Reads, TokensRead, file_parts}
use Rattle.sh_parse.specs.declared.refusals.ParseRefusal.{ParseRefusal}
use Rattle.sh_parse.specs.declared.refusals.ParseRefusal.TheVariants.{At, Mem}
use Rattle.sh_parse.proofs.FileParts.{file_made}
use Rattle.sh_parse.proofs.OneReading.{read_once}
use Rattle.sh_parse.proofs.Refusing.{broken_at, front_same, front_short, mentioned_within, not_both, one_refusal, stopped_at, stopped_goes, whole_goes}

-- ## Tokens

end_span : {text : List ℕ} {from : ℕ} {t : Token} → IsEnd text from t → (t.start ≤ t.end) × (t.end ≤ length text)
end_span {text} {from} {t} e =
    let start : t.start ≡ length text = ap (λ (x : Token). x.start) e.marks_end in
    let end : t.end ≡ length text = ap (λ (x : Token). x.end) e.marks_end in
    (omega arith, omega arith)

next_span : {text : List ℕ} {from : ℕ} {t : Token} → IsNext text from t → (t.start ≤ t.end) × (t.end ≤ length text)
next_span {text} {from} {t} n =
    let within : t.end - t.start ≤ length (drop t.start text) = n.front.within in
    let start : t.start ≤ length text = n.gap.within in
    let order : t.start ≤ t.end = n.order in
    (n.order, omega (arith, length-drop {A = ℕ}))

-- each token is a part of the text
pub all_within : {text : List ℕ} {from : ℕ} {ts : List Token} → HasTokensFrom text from ts → AreWithin text ts
all_within (at_end e) = (end_span e, tt)
all_within (at_token n rest) = (next_span n, all_within rest)

taken_within : (text : List ℕ) (n : ℕ) (ts : List Token) → AreWithin text ts → AreWithin text (take n ts)
taken_within text zero ts h = tt
taken_within text (suc n) [] h = tt
taken_within text (suc n) (t ∷ ts) h = (h.0, taken_within text n ts h.1)

pub front_within : (text : List ℕ) (n : ℕ) (ts front : List Token) → front ≡ take n ts → AreWithin text ts → AreWithin text front
front_within text n ts front e h = subst (AreWithin text) (sym e) (taken_within text n ts h)

pub passed_so : (ls : List Lexeme) {es steps : List Event} {named answer : Named} → es ≡ steps → named ≡ answer → IsPassed es ls named
    → IsPassed steps ls answer
passed_so ls {es} {steps} {named} {answer} e f h =
    subst (λ x. IsPassed x ls answer) e (subst (IsPassed es ls) f h)

pub front_lexemes : (text : List ℕ) (n : ℕ) (ts : List Token) → lexemes text (take n ts) ≡ take n (lexemes text ts)
front_lexemes text zero ts = refl
front_lexemes text (suc n) [] = refl
front_lexemes text (suc n) (t ∷ ts) = ap (λ ls. lexeme_of text t ∷ ls) (front_lexemes text n ts)

pub count_lexemes : (text : List ℕ) (ts : List Token) → length (lexemes text ts) ≡ length ts
count_lexemes text [] = refl
count_lexemes text (t ∷ ts) = ap suc (count_lexemes text ts)

record Both (text : List ℕ) (ts : List Token) (at : ℕ) : Type 0 where
  token : Token
  here : slice_get ts at ≡ Some token
  lexed : slice_get (lexemes text ts) at ≡ Some (lexeme_of text token)

token_at : (text : List ℕ) (ts : List Token) (at : ℕ) → at < length ts → Both text ts at
token_at text [] at h = absurd (none h)
  where
    none : at < 0 → ⊥
    none h = omega arith
token_at text (t ∷ ts) zero h = record { token = t; here = refl; lexed = refl }
token_at text (t ∷ ts) (suc at) h =
    let less : at < length ts = omega arith in
    let b = token_at text ts at less in
    record { token = b.token; here = b.here; lexed = b.lexed }

-- ## Refusals

pub refused_with : (text : List ℕ) (ts : List Token) (at : ℕ) (rule : Rule) (why : ParseRefusal) → at < length ts
    → ((t : Token) → slice_get ts at ≡ Some t → why ≡ At (record { place = t.place; rule = rule }))
    → ((t : Lexeme) → slice_get (lexemes text ts) at ≡ Some t → IsRefusedAt (lexemes text ts) at t rule)
    → IsRefusal (lexemes text ts) why
refused_with text ts at rule why less is refused =
    let b = token_at text ts at less in
    subst (IsRefusal (lexemes text ts)) (sym (is b.token b.here)) (at, lexeme_of text b.token, refused (lexeme_of text b.token) b.lexed, refl)

-- ## Modules

numbers_counted : (names : List Owned) (tokens : List (List Owned)) → length (numbers_among names tokens) ≡ length tokens
numbers_counted names [] = refl
numbers_counted names (ns ∷ tokens) = ap suc (numbers_counted names tokens)

names_counted : (before ms : List Mention) → length (names_behind before ms) ≡ length ms
names_counted before [] = refl
names_counted before (m ∷ ms) = ap suc (names_counted (before ++ m ∷ []) ms)

mentions_counted : (k : ℕ) (s : Scope) (es : List Event) (ts : List Lexeme) → tooks es ≡ length ts → length (mentions_from k s es ts) ≡ length ts
mentions_counted k s [] [] e = refl
mentions_counted k s [] (t ∷ ts) e = cc
mentions_counted k s (Took ∷ es) [] e = cc
mentions_counted k s (Took ∷ es) (t ∷ ts) e =
    let rest : tooks es ≡ length ts = omega arith in ap suc (mentions_counted (suc k) (behind t.kind s) es ts rest)
mentions_counted k s (Opened n i size ∷ es) ts e = mentions_counted k (record (inside k n s) { opened = Some n }) es ts e

pub ids_counted : (ids : List ℕ) (es : List Event) (ts : List Lexeme) → tooks es ≡ length ts → ids ≡ numbers_of (names_of (mentions es ts))
    → length ids ≡ length ts
ids_counted ids es ts count is =
    ap length is ∙ numbers_counted _ (names_of (mentions es ts)) ∙ names_counted [] (mentions es ts)
    ∙ mentions_counted 0 at_start es ts count

pub file_by : (ts : List Lexeme) (es : List Event) → Accepts language text_of_file ts es → IsFileBy ts es
file_by ts es a = record { trees = a.trees; file = a.reads; takes = a.takes }

pub module_read : (ts : List Lexeme) (es : List Event) (ids : List ℕ) (m : Module) → Accepts language text_of_file ts es
    → (keep_rules (mentions es ts) ≡ true) × (ids ≡ numbers_of (names_of (mentions es ts))) → part_by ts ids es ≡ part.Module m
    → TokensRead ts m
module_read ts es ids m a named is = record {
  trees = a.trees;
  file = a.reads;
  names = ap (λ x. keep_rules (mentions x ts)) a.takes ∙ named.0;
  stands =
      ap (λ x. first_part (file_parts ts (numbers_of (names_of (mentions x ts))) a.trees)) a.takes
      ∙ ap (λ x. first_part (file_parts ts x a.trees)) (sym named.1)
      ∙ sym (file_made ts ts ids a.trees a.reads)
      ∙ ap (part_by ts ids) a.takes
      ∙ is;
}

-- ## One answer

pub answer_modules : (ts : List Lexeme) (r : Result Module ParseRefusal) → IfOk r (λ m. TokensRead ts m) → IfErr r (λ why. IsRefusal ts why)
    → (m : Module) → TokensRead ts m → MatchResult r (λ found. found ≡ m) (λ why. why ≡ Mem)
answer_modules ts (Ok found) ok err m read = read_once ts found m ok read
answer_modules ts (Err (At why)) ok err m read = absurd (not_both ts err.0 err.1 why.rule m err.2 read)
answer_modules ts (Err Mem) ok err m read = refl

same_refusal : (why : Refusal) (place : Place) (rule : Rule) → why.place ≡ place → why.rule ≡ rule → At why ≡ At (record { place = place; rule = rule })
same_refusal why place rule e f = ap (λ p. At (record { place = p; rule = why.rule })) e ∙ ap (λ r. At (record { place = place; rule = r })) f

pub answer_refusals : (ts : List Lexeme) (r : Result Module ParseRefusal) → IfOk r (λ m. TokensRead ts m) → IfErr r (λ why. IsRefusal ts why)
    → (i : ℕ) (t : Lexeme) (rule : Rule) → IsRefusedAt ts i t rule
    → IsErrAnd r (λ why. (why ≡ At (record { place = t.place; rule = rule })) ⊎ (why ≡ Mem))
answer_refusals ts (Ok found) ok err i t rule refused = absurd (not_both ts i t rule found refused ok)
answer_refusals ts (Err (At why)) ok err i t rule refused =
    let one = one_refusal ts err.0 i err.1 t why.rule rule err.2 refused in
    inl (same_refusal why t.place rule (err.3 ∙ ap (λ (x : Lexeme). x.place) one.token) one.code)
answer_refusals ts (Err Mem) ok err i t rule refused = inr refl

-- ## Where names break a rule

pub broken_within : (text : List ℕ) (ts : List Token) (es : List Event) (at : ℕ) → IsPassed es (lexemes text ts) (Broken at) → at < length ts
broken_within text ts es at passed =
    let a = mentioned_within at es (lexemes text ts) passed.2 in let b = count_lexemes text ts in omega arith

pub whole_broken : (text : List ℕ) (ts : List Token) (es : List Event) (at : ℕ) (why : ParseRefusal)
    → Accepts language text_of_file (lexemes text ts) es → IsPassed es (lexemes text ts) (Broken at)
    → ((t : Token) → slice_get ts at ≡ Some t → why ≡ At (record { place = t.place; rule = P1 })) → IsRefusal (lexemes text ts) why
whole_broken text ts es at why a passed is =
    refused_with text ts at P1 why (broken_within text ts es at passed) is
    (λ t here. broken_at (lexemes text ts) (lexemes text ts) es (whole_goes (lexemes text ts) es a) (λ k h. refl) at t passed here)

module _ (text : List ℕ) (ts front : List Token) (i : ℕ) (rule : Rule) (es : List Event)
    (r : Refuses language text_of_file (lexemes text ts) i rule es) (first : front ≡ take i ts) where
  lexed : lexemes text front ≡ take i (lexemes text ts)
  lexed = ap (lexemes text) first ∙ front_lexemes text i ts

  pub stopped_within : (at : ℕ) → IsPassed es (lexemes text front) (Broken at) → at < length ts
  stopped_within at passed =
      let a = broken_within text front es at passed in
      let b = ap length first in let d = front_short i ts in
      omega arith

  pub stopped_broken : (why : ParseRefusal) (at : ℕ) → IsPassed es (lexemes text front) (Broken at)
      → ((t : Token) → slice_get ts at ≡ Some t → why ≡ At (record { place = t.place; rule = P1 })) → IsRefusal (lexemes text ts) why
  stopped_broken why at passed is =
      refused_with text ts at P1 why (stopped_within at passed) is
      (λ t here. broken_at (lexemes text ts) (take i (lexemes text ts)) es (stopped_goes (lexemes text ts) i rule es r)
      (λ k h. front_same k i (lexemes text ts) h) at t (subst (λ ls. IsPassed es ls (Broken at)) lexed passed) here)

  pub stop_within : i < length ts
  stop_within = let a = slice_get_within (lexemes text ts) i r.token r.at in let b = count_lexemes text ts in omega arith

  pub stopped_kept : (why : ParseRefusal) (ids : List ℕ) → (keep_rules (mentions es (lexemes text front)) ≡ true) × (ids ≡ numbers_of (names_of (mentions es (lexemes text front))))
      → ((t : Token) → slice_get ts i ≡ Some t → why ≡ At (record { place = t.place; rule = rule })) → IsRefusal (lexemes text ts) why
  stopped_kept why ids passed is =
      refused_with text ts i rule why stop_within is
      (λ t here. subst (λ x. IsRefusedAt (lexemes text ts) i x rule) (same_Some r.token t (sym r.at ∙ here))
      (stopped_at (lexemes text ts) i rule es r (ap (λ ls. keep_rules (mentions es ls)) (sym lexed) ∙ passed.0)))

-- ## Texts

pub text_read : (text : List ℕ) (tokens : List Token) (m : Module) → HasTokens text tokens → TokensRead (lexemes text tokens) m → Reads text m
text_read text tokens m has read = record { tokens = tokens; has = has; read = read }

pub tokens_read : (text : List ℕ) (tokens : List Token) (m : Module) → HasTokens text tokens → Reads text m → TokensRead (lexemes text tokens) m
tokens_read text tokens m has r =
    subst (λ ts. TokensRead (lexemes text ts) m) (same_tokens r.has has) r.read

pub answer_read : (text : List ℕ) (tokens : List Token) → HasTokens text tokens → (r : Result Module ParseRefusal)
    → IfOk r (λ m. TokensRead (lexemes text tokens) m) → IfOk r (λ m. Reads text m)
answer_read text tokens has (Ok m) ok = text_read text tokens m has ok
answer_read text tokens has (Err why) ok = tt
