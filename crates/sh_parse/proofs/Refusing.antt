-- Where a text stands for no module.
use Rattle.std.proofs.Common.{◌≡◌, ◌≤◌, ◌<◌, ℕ, zero, suc, ◌-◌, List, [], ◌∷◌, ◌++◌, Bool, true, false, ◌&&◌, length, take, drop, slice_get, Some, refl, sym, ◌∙◌, ap, subst, append_assoc, length-append, true≢false, arith, inl, inr}
use Rattle.std.proofs.lemmas.List.{append-nil}
use Rattle.sh_base.specs.declared.rules.Rule.{Rule}
use Rattle.sh_base.specs.declared.rules.Rule.TheVariants.{P1}
use Rattle.sh_grammar.specs.Answer.{Accepts, HasCode, Refuses}
use Rattle.sh_grammar.specs.Grammar.{Trees, after, events, up_to}
use Rattle.sh_grammar.specs.Language.{IsFile, language, text_of_file}
use Rattle.sh_grammar.specs.Lexemes.{Lexeme}
use Rattle.sh_grammar.specs.declared.symbols.Event.{Event}
use Rattle.sh_grammar.specs.declared.symbols.Event.TheVariants.{Took, Opened}
use Rattle.sh_grammar.proofs.OneLanguage.{front_on, only_way}
use Rattle.sh_names.specs.Names.{Mention, all_keep, at_start, behind, inside, keep_rules, keeps_rules, mention_of, mentions, mentions_from}
use Rattle.sh_names.specs.declared.scopes.Scope.{Scope}
use Rattle.sh_names.specs.Tables.{tooks}
use Rattle.sh_grammar.specs.LeftOut.{rule_of}
use Rattle.sh_ir.specs.declared.modules.Module.{Module}
use Rattle.std.specs.Prelude.{IsTrue, ◌↔◌}
use Rattle.std.proofs.lemmas.Option.{same_Some}
use Rattle.sh_parse.specs.Reads.{IsNamed, IsRefusedAt, TokensRead}
use Rattle.sh_parse.proofs.FileParts.{tooks_tokens}
use Rattle.sh_parse.proofs.RowSteps.{tooks_append}

-- ## Lists

module _ {X : Type 0} where
  take_within : (k : ℕ) (us more : List X) → k ≤ length us → take k (us ++ more) ≡ take k us
  take_within zero us more h = refl
  take_within (suc k) [] more h = absurd (none h)
    where
      none : suc k ≤ 0 → ⊥
      none h = omega arith
  take_within (suc k) (u ∷ us) more h = let less : k ≤ length us = omega arith in ap (λ xs. u ∷ xs) (take_within k us more less)

  take_again : (k : ℕ) (us more : List X) → k ≤ length us → take k (take k us ++ more) ≡ take k us
  take_again zero us more h = refl
  take_again (suc k) [] more h = absurd (none h)
    where
      none : suc k ≤ 0 → ⊥
      none h = omega arith
  take_again (suc k) (u ∷ us) more h = let less : k ≤ length us = omega arith in ap (λ xs. u ∷ xs) (take_again k us more less)

  pub take_less : (k n : ℕ) (us : List X) → k ≤ n → take k (take n us) ≡ take k us
  take_less zero n us h = refl
  take_less (suc k) zero us h = absurd (none h)
    where
      none : suc k ≤ 0 → ⊥
      none h = omega arith
  take_less (suc k) (suc n) [] h = refl
  take_less (suc k) (suc n) (u ∷ us) h = let less : k ≤ n = omega arith in ap (λ xs. u ∷ xs) (take_less k n us less)

  join : (k : ℕ) (us : List X) → take k us ++ drop k us ≡ us
  join zero us = refl
  join (suc k) [] = refl
  join (suc k) (u ∷ us) = ap (λ xs. u ∷ xs) (join k us)

  pub length_within : (k : ℕ) (us : List X) → k ≤ length us → length (take k us) ≡ k
  length_within zero us h = refl
  length_within (suc k) [] h = absurd (none h)
    where
      none : suc k ≤ 0 → ⊥
      none h = omega arith
  length_within (suc k) (u ∷ us) h = let less : k ≤ length us = omega arith in ap suc (length_within k us less)

  take_all : (us more : List X) → take (length us) (us ++ more) ≡ us
  take_all [] more = refl
  take_all (u ∷ us) more = ap (λ xs. u ∷ xs) (take_all us more)

-- ## Steps

up_to_front : (k : ℕ) (es rest : List Event) → k ≤ tooks es → up_to k (es ++ rest) ≡ up_to k es
up_to_front zero es rest h = refl
up_to_front (suc k) [] rest h = absurd (none h)
  where
    none : suc k ≤ 0 → ⊥
    none h = omega arith
up_to_front (suc k) (Took ∷ es) rest h = let less : k ≤ tooks es = omega arith in ap (λ xs. Took ∷ xs) (up_to_front k es rest less)
up_to_front (suc k) (Opened n i size ∷ es) rest h = ap (λ xs. Opened n i size ∷ xs) (up_to_front (suc k) es rest h)

split_steps : (k : ℕ) (es : List Event) → up_to k es ++ after k es ≡ es
split_steps zero es = refl
split_steps (suc k) [] = refl
split_steps (suc k) (Took ∷ es) = ap (λ xs. Took ∷ xs) (split_steps k es)
split_steps (suc k) (Opened n i size ∷ es) = ap (λ xs. Opened n i size ∷ xs) (split_steps (suc k) es)

spent_steps : (k : ℕ) (es more : List Event) → k ≤ tooks es → after k (up_to k es ++ more) ≡ more
spent_steps zero es more h = refl
spent_steps (suc k) [] more h = absurd (none h)
  where
    none : suc k ≤ 0 → ⊥
    none h = omega arith
spent_steps (suc k) (Took ∷ es) more h = let less : k ≤ tooks es = omega arith in spent_steps k es more less
spent_steps (suc k) (Opened n i size ∷ es) more h = spent_steps (suc k) es more h

tooks_after : (k : ℕ) (es : List Event) → tooks (after k es) ≡ tooks es - k
tooks_after zero es = omega arith
tooks_after (suc k) [] = omega arith
tooks_after (suc k) (Took ∷ es) = let e = tooks_after k es in omega arith
tooks_after (suc k) (Opened n i size ∷ es) = tooks_after (suc k) es

tooks_spent : (k : ℕ) (es : List Event) → ((more : List Event) → after k (es ++ more) ≡ more) → tooks es ≡ k
tooks_spent k es spent =
    let a = ap tooks (spent (Took ∷ [])) in
    let b = tooks_after k (es ++ Took ∷ []) in
    let c = tooks_append es (Took ∷ []) in
    omega arith

steps_all : (k : ℕ) (es : List Event) → ((more : List Event) → after k (es ++ more) ≡ more) → up_to k es ≡ es
steps_all k es spent =
    let none : after k es ≡ [] = ap (after k) (sym (append-nil es)) ∙ spent [] in
    sym (append-nil (up_to k es)) ∙ ap (λ r. up_to k es ++ r) (sym none) ∙ split_steps k es

-- ## Mentions

mentions_take : (k : ℕ) (s : Scope) (n : ℕ) (es : List Event) (ts : List Lexeme)
    → mentions_from k s (up_to n es) (take n ts) ≡ take n (mentions_from k s es ts)
mentions_take k s zero es ts = refl
mentions_take k s (suc n) [] ts = refl
mentions_take k s (suc n) (Took ∷ es) [] = refl
mentions_take k s (suc n) (Took ∷ es) (t ∷ ts) = ap (λ ms. mention_of s t ∷ ms) (mentions_take (suc k) (behind t.kind s) n es ts)
mentions_take k s (suc n) (Opened m i size ∷ es) ts = mentions_take k (record (inside k m s) { opened = Some m }) (suc n) es ts

mentions_within : (k : ℕ) (s : Scope) (es : List Event) (ts : List Lexeme) → length (mentions_from k s es ts) ≤ length ts
mentions_within k s [] ts = omega arith
mentions_within k s (Took ∷ es) [] = omega arith
mentions_within k s (Took ∷ es) (t ∷ ts) = let less = mentions_within (suc k) (behind t.kind s) es ts in omega arith
mentions_within k s (Opened m i size ∷ es) ts = mentions_within k (record (inside k m s) { opened = Some m }) es ts

keep_front : (n : ℕ) (before ms : List Mention) → all_keep before ms ≡ true → all_keep before (take n ms) ≡ true
keep_front zero before ms e = refl
keep_front (suc n) before [] e = refl
keep_front (suc n) before (m ∷ ms) e = by (keeps_rules m.role m.text before) (all_keep (m ∷ before) ms) e (keep_front n (m ∷ before) ms)
  where
    by : (a b : Bool) → (a && b) ≡ true → (b ≡ true → all_keep (m ∷ before) (take n ms) ≡ true) → (a && all_keep (m ∷ before) (take n ms)) ≡ true
    by true b e rest = rest e
    by false b e rest = cc

-- the mentions of a front of the tokens
front_mentions : (us vs : List Lexeme) (steps rest : List Event) → ((more : List Event) → after (length us) (steps ++ more) ≡ more)
    → mentions steps us ≡ take (length us) (mentions (steps ++ rest) (us ++ vs))
front_mentions us vs steps rest spent =
    let count = tooks_spent (length us) steps spent in
    let within : length us ≤ tooks steps = omega arith in
    sym (sym (mentions_take 0 at_start (length us) (steps ++ rest) (us ++ vs))
    ∙ ap (λ es. mentions es (take (length us) (us ++ vs))) (up_to_front (length us) steps rest within ∙ steps_all (length us) steps spent)
    ∙ ap (mentions steps) (take_all us vs))

-- ## Refusals

-- some text goes on from these tokens, and takes these steps over them
pub record Goes (us : List Lexeme) (es : List Event) : Type 0 where
  pub more : List Lexeme
  pub trees : Trees
  pub rest : List Event
  pub file : IsFile (us ++ more) trees
  pub steps : events trees ≡ es ++ rest
  pub count : tooks es ≡ length us

-- the names over a front of them
named_front : (us : List Lexeme) (es : List Event) → Goes us es → (k : ℕ) (kept : Bool) → k ≤ length us
    → keep_rules (take k (mentions es us)) ≡ kept → IsNamed (take k us) kept
named_front us es g k kept within keep =
    let counted = g.count in
    let taken : k ≤ tooks es = omega arith in
    record {
      front = (front_on (take k us)).1 (
        drop k us ++ g.more,
        g.trees,
        (g.file.0, g.file.1 ∙ ap (λ x. x ++ g.more) (sym (join k us)) ∙ append_assoc (take k us) (drop k us) g.more),
      );
      steps = up_to k es;
      begins = record {
        spent = λ more. ap (λ n. after n (up_to k es ++ more)) (length_within k us within) ∙ spent_steps k es more taken;
        common = λ more f p. (
          after k (events f),
          sym (split_steps k (events f))
              ∙ ap (λ x. x ++ after k (events f))
              (only_way k (take k us ++ more) (us ++ g.more) f g.trees p g.file
              (take_again k us more within ∙ sym (take_within k us g.more within))
              ∙ ap (up_to k) g.steps ∙ up_to_front k es g.rest taken),
        );
      };
      keep = ap keep_rules (mentions_take 0 at_start k es us) ∙ keep;
    }

-- a token that breaks a rule on names
pub broken_at : (ts us : List Lexeme) (es : List Event) → Goes us es → ((k : ℕ) → k ≤ length us → take k us ≡ take k ts)
    → (at : ℕ) (t : Lexeme) → (keep_rules (take at (mentions es us)) ≡ true) × (keep_rules (take (suc at) (mentions es us)) ≡ false)
    × (at < length (mentions es us)) → slice_get ts at ≡ Some t → IsRefusedAt ts at t P1
broken_at ts us es g same at t broken there =
    let short = mentions_within 0 at_start es us in
    let less = broken.2 in
    let here : at ≤ length us = omega arith in
    let next : suc at ≤ length us = omega arith in
    record {
      at = there;
      before = subst (λ x. IsNamed x true) (same at here) (named_front us es g at true here broken.0);
      wrong = inr (subst (λ x. IsNamed x false) (same (suc at) next) (named_front us es g (suc at) false next broken.1), refl);
    }

-- a token that the grammar refuses
pub stopped_at : (ts : List Lexeme) (i : ℕ) (rule : Rule) (steps : List Event) → (r : Refuses language text_of_file ts i rule steps)
    → keep_rules (mentions steps (take i ts)) ≡ true → IsRefusedAt ts i r.token rule
stopped_at ts i rule steps r keep = record {
  at = r.at;
  before = record { front = r.front; steps = steps; begins = r.begins; keep = keep };
  wrong = inl (r.first, r.code);
}

pub stopped_goes : (ts : List Lexeme) (i : ℕ) (rule : Rule) (steps : List Event) → Refuses language text_of_file ts i rule steps
    → Goes (take i ts) steps
stopped_goes ts i rule steps r =
    let on = (front_on (take i ts)).0 r.front in
    let common = r.begins.common on.0 on.1 on.2 in
    record {
      more = on.0;
      trees = on.1;
      rest = common.0;
      file = on.2;
      steps = common.1;
      count = tooks_spent (length (take i ts)) steps r.begins.spent;
    }

pub whole_goes : (ts : List Lexeme) (steps : List Event) → Accepts language text_of_file ts steps → Goes ts steps
whole_goes ts steps a = record {
  more = [];
  trees = a.trees;
  rest = [];
  file = (a.reads.0, a.reads.1 ∙ sym (append-nil ts));
  steps = a.takes ∙ sym (append-nil steps);
  count = ap tooks (sym a.takes) ∙ tooks_tokens a.trees ∙ ap length a.reads.1;
}

-- ## One answer

-- names that keep the rules keep them over a front
kept_front : (us vs : List Lexeme) (steps rest : List Event) (kept : Bool) → ((more : List Event) → after (length us) (steps ++ more) ≡ more)
    → keep_rules (mentions steps us) ≡ kept → keep_rules (mentions (steps ++ rest) (us ++ vs)) ≡ true → kept ≡ true
kept_front us vs steps rest kept spent here all =
    sym here ∙ ap keep_rules (front_mentions us vs steps rest spent)
    ∙ keep_front (length us) [] (mentions (steps ++ rest) (us ++ vs)) all

-- tokens that stand for a module aren't refused
pub not_both : (ts : List Lexeme) (i : ℕ) (t : Lexeme) (rule : Rule) (m : Module) → IsRefusedAt ts i t rule → TokensRead ts m → ⊥
not_both ts i t rule m r read = elim r.wrong [
  | inl w ↦
      w.0 ((front_on (take (suc i) ts)).1 (drop (suc i) ts, read.trees, (read.file.0, read.file.1 ∙ sym (join (suc i) ts))))
  | inr w ↦
      let named = w.0 in
      let on = named.begins.common (drop (suc i) ts) read.trees (read.file.0, read.file.1 ∙ sym (join (suc i) ts)) in
      let all : keep_rules (mentions (named.steps ++ on.0) (take (suc i) ts ++ drop (suc i) ts)) ≡ true =
      rw (sym on.1, join (suc i) ts) read.names in
      true≢false (sym (kept_front (take (suc i) ts) (drop (suc i) ts) named.steps on.0 false named.begins.spent named.keep all))
]

-- where a token is refused there is no refusal behind it
not_later : (ts : List Lexeme) (i j : ℕ) (t u : Lexeme) (rule other : Rule) → IsRefusedAt ts i t rule → IsRefusedAt ts j u other → i < j → ⊥
not_later ts i j t u rule other r s less =
    let within : suc i ≤ j = omega arith in
    let front : take (suc i) ts ++ drop (suc i) (take j ts) ≡ take j ts =
    ap (λ x. x ++ drop (suc i) (take j ts)) (sym (take_less (suc i) j ts within)) ∙ join (suc i) (take j ts) in
    let on = (front_on (take j ts)).0 s.before.front in
    let whole : take (suc i) ts ++ (drop (suc i) (take j ts) ++ on.0) ≡ take j ts ++ on.0 =
    sym (append_assoc (take (suc i) ts) (drop (suc i) (take j ts)) on.0) ∙ ap (λ x. x ++ on.0) front in
    elim r.wrong [
      | inl w ↦
          w.0 ((front_on (take (suc i) ts)).1 (drop (suc i) (take j ts) ++ on.0, on.1, (on.2.0, on.2.1 ∙ sym whole)))
      | inr w ↦
          let named = w.0 in
          let here = named.begins.common (drop (suc i) (take j ts) ++ on.0) on.1 (on.2.0, on.2.1 ∙ sym whole) in
          let there = s.before.begins.common on.0 on.1 on.2 in
          let steps : up_to (length (take j ts)) (events on.1) ≡ s.before.steps =
          front_steps (take j ts) s.before.steps there.0 (events on.1) s.before.begins.spent there.1 in
          let fewer : length (take (suc i) ts) ≤ length (take j ts) =
          let e = ap length front in let f = length-append (take (suc i) ts) (drop (suc i) (take j ts)) in omega arith in
          let ours : mentions named.steps (take (suc i) ts) ≡ take (length (take (suc i) ts)) (mentions s.before.steps (take j ts)) =
          front_mentions (take (suc i) ts) (drop (suc i) (take j ts) ++ on.0) named.steps here.0 named.begins.spent
          ∙ ap (take (length (take (suc i) ts)))
          (ap (λ es. mentions es (take (suc i) ts ++ (drop (suc i) (take j ts) ++ on.0))) (sym here.1) ∙ ap (mentions (events on.1)) whole)
          ∙ sym (take_less (length (take (suc i) ts)) (length (take j ts)) (mentions (events on.1) (take j ts ++ on.0)) fewer)
          ∙ ap (take (length (take (suc i) ts)))
          (sym (mentions_take 0 at_start (length (take j ts)) (events on.1) (take j ts ++ on.0))
          ∙ ap (λ es. mentions es (take (length (take j ts)) (take j ts ++ on.0))) steps
          ∙ ap (mentions s.before.steps) (take_all (take j ts) on.0)) in
          true≢false (sym (sym named.keep ∙ ap keep_rules ours
          ∙ keep_front (length (take (suc i) ts)) [] (mentions s.before.steps (take j ts)) s.before.keep))
    ]
  where
    front_steps : (us : List Lexeme) (steps rest all : List Event) → ((more : List Event) → after (length us) (steps ++ more) ≡ more)
        → all ≡ steps ++ rest → up_to (length us) all ≡ steps
    front_steps us steps rest all spent e =
        let count = tooks_spent (length us) steps spent in
        let within : length us ≤ tooks steps = omega arith in
        ap (up_to (length us)) e ∙ up_to_front (length us) steps rest within ∙ steps_all (length us) steps spent

data Order (i j : ℕ) : Type 0 where
  less : i < j → Order i j
  same : i ≡ j → Order i j
  more : j < i → Order i j

order : (i j : ℕ) → Order i j
order zero zero = same refl
order zero (suc j) = less (omega arith)
order (suc i) zero = more (omega arith)
order (suc i) (suc j) = elim (order i j) [
  | less h ↦ less (omega arith)
  | same e ↦ same (ap suc e)
  | more h ↦ more (omega arith)
]

same_due : (a b : Bool) {P : Type 0} → IsTrue a ↔ P → IsTrue b ↔ P → a ≡ b
same_due true true p q = refl
same_due false false p q = refl
same_due true false p q = let h : IsTrue false = q.1 (p.0 refl) in absurd (true≢false (sym h))
same_due false true p q = let h : IsTrue false = p.1 (q.0 refl) in absurd (true≢false (sym h))

same_code : (ts : List Lexeme) (t : Lexeme) (rule other : Rule) → HasCode language text_of_file ts t rule
    → HasCode language text_of_file ts t other → rule ≡ other
same_code ts t rule other p q =
    p.code ∙ ap (λ due. rule_of due t) (same_due p.due q.due p.where_due q.where_due) ∙ sym q.code

pub record OneRefusal (i j : ℕ) (t u : Lexeme) (rule other : Rule) : Type 0 where
  pub place : i ≡ j
  pub token : t ≡ u
  pub code : rule ≡ other

one_code : (ts : List Lexeme) (i : ℕ) (t u : Lexeme) (rule other : Rule) → t ≡ u → IsRefusedAt ts i t rule → IsRefusedAt ts i u other → rule ≡ other
one_code ts i t u rule other token r s = elim r.wrong [
  | inl w ↦ elim s.wrong [
    | inl v ↦ same_code (take i ts) t rule other w.1 (subst (λ x. HasCode language text_of_file (take i ts) x other) (sym token) v.1)
    | inr v ↦ absurd (w.0 v.0.front)
  ]
  | inr w ↦ elim s.wrong [
    | inl v ↦ absurd (v.0 w.0.front)
    | inr v ↦ w.1 ∙ sym v.1
  ]
]

-- tokens are refused at one place with one code
pub one_refusal : (ts : List Lexeme) (i j : ℕ) (t u : Lexeme) (rule other : Rule) → IsRefusedAt ts i t rule → IsRefusedAt ts j u other
    → OneRefusal i j t u rule other
one_refusal ts i j t u rule other r s = elim (order i j) [
  | less h ↦ absurd (not_later ts i j t u rule other r s h)
  | more h ↦ absurd (not_later ts j i u t other rule s r h)
  | same e ↦
      let here : IsRefusedAt ts i u other = subst (λ k. IsRefusedAt ts k u other) (sym e) s in
      let token : t ≡ u = same_Some t u (sym r.at ∙ here.at) in
      record { place = e; token = token; code = one_code ts i t u rule other token r here }
]

pub front_same : {X : Type 0} (k i : ℕ) (us : List X) → k ≤ length (take i us) → take k (take i us) ≡ take k us
front_same zero i us h = refl
front_same (suc k) zero us h = absurd (none h)
  where
    none : suc k ≤ 0 → ⊥
    none h = omega arith
front_same (suc k) (suc i) [] h = refl
front_same (suc k) (suc i) (u ∷ us) h = let less : k ≤ length (take i us) = omega arith in ap (λ xs. u ∷ xs) (front_same k i us less)

pub front_short : {X : Type 0} (i : ℕ) (us : List X) → length (take i us) ≤ length us
front_short zero us = omega arith
front_short (suc i) [] = omega arith
front_short (suc i) (u ∷ us) = let h = front_short i us in omega arith

pub mentioned_within : (at : ℕ) (es : List Event) (ts : List Lexeme) → at < length (mentions es ts) → at < length ts
mentioned_within at es ts h = let e = mentions_within 0 at_start es ts in omega arith
