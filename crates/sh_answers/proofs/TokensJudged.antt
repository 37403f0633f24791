-- Tokens stand for a module, or one of them is refused.
--
-- Token by token: either no file goes on with it, or one does, and then the names over it keep the rules or
-- don't. Behind the last token, which ends the text, the front is a file.
use mathlib.Core.Path.{◌∙◌, ap, sym, refl, subst}
use Rattle.std.proofs.Common.{◌≡◌, ◌⊎◌, inl, inr, ℕ, zero, suc, ◌+◌, ◌≤◌, Bool, true, false, List, [], ◌∷◌, ◌++◌, length, take, slice_get, Some, arith, length-append, append-nil}
use Rattle.std.proofs.Math.Seq.{take-append_seam, take-length}
use Rattle.std.proofs.lemmas.Option.{slice_get_cases}
use Rattle.sh_base.specs.declared.rules.Rule.{Rule}
use Rattle.sh_base.specs.declared.rules.Rule.TheVariants.{P1}
use Rattle.sh_grammar.specs.Grammar.{IsDue, Trees, after, events, form, is_empty, nothing, token, tokens, up_to}
use Rattle.sh_grammar.specs.Language.{IsFile, IsFileFront, language, text_of_file}
use Rattle.sh_grammar.specs.LeftOut.{rule_of}
use Rattle.sh_grammar.specs.Lexemes.{Lexeme}
use Rattle.sh_grammar.specs.declared.symbols.Event.{Event}
use Rattle.sh_grammar.specs.declared.symbols.Event.TheVariants.{Opened, Took}
use Rattle.sh_grammar.proofs.Lexed.{Closed}
use Rattle.sh_grammar.proofs.OneLanguage.{front_on, only_way}
use Rattle.sh_ir.specs.declared.modules.Module.{Module}
use Rattle.sh_names.specs.Names.{at_start, behind, inside, keep_rules, mention_of, mentions, mentions_from}
use Rattle.sh_names.specs.Tables.{tooks}
use Rattle.sh_names.specs.declared.scopes.Scope.{Scope}
use Rattle.sh_parse.specs.Reads.{IsNamed, IsRefusedAt, IsWrong, TokensRead}
use Rattle.sh_answers.proofs.Irrefutable.{told}
use Rattle.sh_answers.proofs.FilesEnd.{file_ended}
use Rattle.sh_answers.proofs.FilesStand.{file_stands}

-- ## Steps

tooks_both : (es fs : List Event) → tooks (es ++ fs) ≡ tooks es + tooks fs
tooks_both [] fs = omega arith
tooks_both (Took ∷ es) fs = let e = tooks_both es fs in omega (arith, e)
tooks_both (Opened n i size ∷ es) fs = tooks_both es fs

tooks_tokens : (f : Trees) → tooks (events f) ≡ length (tokens f)
tooks_tokens nothing = refl
tooks_tokens (token t behind) = ap suc (tooks_tokens behind)
tooks_tokens (form n i below behind) =
    let a = tooks_tokens below in
    let b = tooks_tokens behind in
    let c = tooks_both (events below) (events behind) in
    let d = length-append (tokens below) (tokens behind) in
    omega (arith, a, b, c, d)

split_steps : (k : ℕ) (es : List Event) → up_to k es ++ after k es ≡ es
split_steps zero es = refl
split_steps (suc k) [] = refl
split_steps (suc k) (Took ∷ es) = ap (λ xs. Took ∷ xs) (split_steps k es)
split_steps (suc k) (Opened n i size ∷ es) = ap (λ xs. Opened n i size ∷ xs) (split_steps (suc k) es)

spent_steps : (k : ℕ) (es more : List Event) → k ≤ tooks es → after k (up_to k es ++ more) ≡ more
spent_steps zero es more enough = refl
spent_steps (suc k) [] more enough = absurd (omega (arith, enough))
spent_steps (suc k) (Took ∷ es) more enough = spent_steps k es more (omega (arith, enough))
spent_steps (suc k) (Opened n i size ∷ es) more enough = spent_steps (suc k) es more enough

-- ## Mentions

none_mentioned : (k : ℕ) (s : Scope) (es : List Event) → mentions_from k s es [] ≡ []
none_mentioned k s [] = refl
none_mentioned k s (Took ∷ es) = refl
none_mentioned k s (Opened n i size ∷ es) = none_mentioned k (record (inside k n s) { opened = Some n }) es

-- the steps behind the last token mention nothing
all_mentioned : (k : ℕ) (s : Scope) (es : List Event) (ts : List Lexeme)
    → mentions_from k s (up_to (length ts) es) ts ≡ mentions_from k s es ts
all_mentioned k s [] [] = refl
all_mentioned k s [] (t ∷ ts) = refl
all_mentioned k s (Took ∷ es) [] = refl
all_mentioned k s (Took ∷ es) (t ∷ ts) = ap (λ ms. mention_of s t ∷ ms) (all_mentioned (suc k) (behind t.kind s) es ts)
all_mentioned k s (Opened n i size ∷ es) [] = sym (none_mentioned k (record (inside k n s) { opened = Some n }) es)
all_mentioned k s (Opened n i size ∷ es) (t ∷ ts) = all_mentioned k (record (inside k n s) { opened = Some n }) es (t ∷ ts)

-- ## Fronts

-- whether the names over these tokens keep the rules, by a reading of a text that goes on from them
abbrev keeps : List Lexeme → Trees → Bool
keeps us f = keep_rules (mentions (up_to (length us) (events f)) us)

module _ (us more : List Lexeme) (f : Trees) (file : IsFile (us ++ more) f) where
  same_steps : (other : List Lexeme) (h : Trees) → IsFile (us ++ other) h
      → up_to (length us) (events h) ≡ up_to (length us) (events f)
  same_steps other h also =
      only_way (length us) (us ++ other) (us ++ more) h f also file (take-append_seam us other ∙ sym (take-append_seam us more))

  enough_steps : length us ≤ tooks (events f)
  enough_steps =
      let a = tooks_tokens f in let b = ap length file.1 in let c = length-append us more in omega (arith, a, b, c)

  named : (kept : Bool) → IsFileFront us → keeps us f ≡ kept → IsNamed us kept
  named kept front keep = record {
    front = front;
    steps = up_to (length us) (events f);
    begins = record {
      spent = λ rest. spent_steps (length us) (events f) rest enough_steps;
      common = λ other h also. (
        after (length us) (events h),
        sym (split_steps (length us) (events h)) ∙ ap (λ es. es ++ after (length us) (events h)) (same_steps other h also),
      );
    };
    keep = keep;
  }

-- A front of a file over which names keep the rules, whichever way it is read on.
record IsKept (us : List Lexeme) : Type 0 where
  front : IsFileFront us
  keep : (more : List Lexeme) (f : Trees) → IsFile (us ++ more) f → keeps us f ≡ true

nothing_kept : IsKept []
nothing_kept = record { front = is_empty; keep = λ more f file. refl }

kept_by : (us more : List Lexeme) (f : Trees) → IsFile (us ++ more) f → IsFileFront us → keeps us f ≡ true → IsKept us
kept_by us more f file front keep = record {
  front = front;
  keep = λ other h also. ap (λ es. keep_rules (mentions es us)) (same_steps us more f file other h also) ∙ keep;
}

kept_named : (us : List Lexeme) → IsKept us → IsNamed us true
kept_named us k =
    let on = (front_on us).0 k.front in
    named us on.0 on.1 on.2 true k.front (k.keep on.0 on.1 on.2)

-- ## The whole text

-- the tokens stand for a module, or one is refused
abbrev pub AreJudged : List Lexeme → Type 0
AreJudged ts =
    ((m : Module) × TokensRead ts m) ⊎ ((i : ℕ) × (t : Lexeme) × (rule : Rule) × IsRefusedAt ts i t rule)

module _ (ts : List Lexeme) where
  module _ (i : ℕ) (t : Lexeme) (at : slice_get ts i ≡ Some t) (k : IsKept (take i ts)) where
    refused : (rule : Rule) → IsWrong ts i t rule → AreJudged ts
    refused rule wrong = inr (i, t, rule, record { at = at; before = kept_named (take i ts) k; wrong = wrong })

    -- no file goes on with this token
    stopped : ¬ (IsFileFront (take (suc i) ts)) → ¬ (¬ (AreJudged ts))
    stopped no_front none = told (IsDue language text_of_file (take i ts)) (λ due.
        none (refused (rule_of due.test t) (inl (no_front, record { due = due.test; where_due = due.tells; code = refl }))))

    goes_on : IsFileFront (take (suc i) ts) → AreJudged ts ⊎ IsKept (take (suc i) ts)
    goes_on front =
        let on = (front_on (take (suc i) ts)).0 front in
        by on.0 on.1 on.2 (keeps (take (suc i) ts) on.1) refl
      where
        by : (more : List Lexeme) (f : Trees) → IsFile (take (suc i) ts ++ more) f → (kept : Bool) → keeps (take (suc i) ts) f ≡ kept
            → AreJudged ts ⊎ IsKept (take (suc i) ts)
        by more f file true keep = inr (kept_by (take (suc i) ts) more f file front keep)
        by more f file false keep =
            inl (refused P1 (inr (named (take (suc i) ts) more f file false front keep, refl)))

  -- behind the last token
  read : Closed ts → IsKept ts → AreJudged ts
  read closed k =
      let on = (front_on ts).0 k.front in
      let end : on.0 ≡ [] = file_ended ts on.0 on.1 closed on.2 in
      let whole : ts ++ on.0 ≡ ts = ap (λ more. ts ++ more) end ∙ append-nil ts in
      let file : IsFile ts on.1 = subst (λ us. IsFile us on.1) whole on.2 in
      let stands = file_stands ts on.1 file in
      inl (
        stands.it,
        record {
          trees = on.1;
          file = file;
          names = ap keep_rules (sym (all_mentioned 0 at_start (events on.1) ts)) ∙ k.keep on.0 on.1 on.2;
          stands = stands.is;
        },
      )

judged_from : (ts : List Lexeme) → Closed ts → (left i : ℕ) → i + left ≡ length ts → IsKept (take i ts) → ¬ (¬ (AreJudged ts))
judged_from ts closed zero i all k none =
    let end : i ≡ length ts = omega (arith, all) in
    let whole : take i ts ≡ ts = ap (λ n. take n ts) end ∙ take-length ts in
    none (read ts closed (subst IsKept whole k))
judged_from ts closed (suc left) i all k none =
    elim ((slice_get_cases ts i).1) [
      | inl h ↦ stopped ts i h.0 h.2 k (λ front.
          by (goes_on ts i h.0 h.2 k front) (judged_from ts closed left (suc i) (omega (arith, all)))) none
      | inr past ↦ let beyond = past.0 in omega (arith, all, beyond)
    ]
  where
    by : AreJudged ts ⊎ IsKept (take (suc i) ts) → (IsKept (take (suc i) ts) → ¬ (¬ (AreJudged ts))) → ⊥
    by (inl judged) rest = none judged
    by (inr kept) rest = rest kept none

pub tokens_judged : (ts : List Lexeme) → Closed ts → ¬ (¬ (AreJudged ts))
tokens_judged ts closed = judged_from ts closed (length ts) 0 (omega arith) nothing_kept
