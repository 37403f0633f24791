-- The pass over the steps of a text.
use Rattle.std.proofs.Common.{◌≡◌, ℕ, suc, ◌+◌, ◌<◌, List, [], ◌∷◌, ◌++◌, true, false, length, reverse, take, refl, sym, ◌∙◌, ap, subst, append_assoc, length-append, arith}
use Rattle.std.proofs.lemmas.List.{append-nil}
use Rattle.sh_grammar.specs.Lexemes.{lexeme_of, lexemes}
use Rattle.sh_grammar.specs.declared.symbols.Event.{Event}
use Rattle.sh_grammar.specs.declared.symbols.Event.TheVariants.{Took}
use Rattle.sh_lex.specs.declared.tokens.Token.{Token}
use Rattle.sh_names.specs.Names.{Mention, Role, Scope, behind, keep_rules, keeps_rules, mentions, mentions_from, names_of, numbers_of, role_in}
use Rattle.sh_names.specs.Tables.{AreWithin, IsAlong, IsPassing, mention}
use Rattle.sh_names.specs.declared.passing.Pass.{Pass}
use Rattle.sh_names.proofs.OneMention.{one_broken}

pub none_of : {X : Type 0} (xs : List X) → length xs ≡ 0 → xs ≡ []
none_of [] e = refl
none_of (x ∷ xs) e = cc

take_front : (xs ys : List Mention) → take (length xs) (xs ++ ys) ≡ xs
take_front [] ys = refl
take_front (x ∷ xs) ys = ap (λ zs. x ∷ zs) (take_front xs ys)

take_past : (xs : List Mention) (y : Mention) (ys : List Mention) → take (suc (length xs)) (xs ++ y ∷ ys) ≡ xs ++ y ∷ []
take_past [] y ys = refl
take_past (x ∷ xs) y ys = ap (λ zs. x ∷ zs) (take_past xs y ys)

within_front : (xs : List Mention) (y : Mention) (ys : List Mention) → length xs < length (xs ++ y ∷ ys)
within_front xs y ys = let e = length-append xs (y ∷ ys) in omega arith

one_plus : (n : ℕ) → n + 1 ≡ suc n
one_plus n = omega arith

module _ (text : List ℕ) (tokens : List Token) (events : List Event) (p : Pass) (scope : Scope) where
  -- nothing is left
  finished : (es : List Event) (ts : List Token) → IsAlong text tokens events p scope es ts
      → mentions_from (length p.ids.items) scope es (lexemes text ts) ≡ []
      → (keep_rules (mentions events (lexemes text tokens)) ≡ true)
      × (p.ids.items ≡ numbers_of (names_of (mentions events (lexemes text tokens))))
  finished es ts a none =
      let all : a.seen ≡ mentions events (lexemes text tokens) =
      sym (append-nil a.seen) ∙ ap (λ ms. a.seen ++ ms) (sym none) ∙ a.all in
      (ap keep_rules (sym all) ∙ a.passing.keep, a.passing.ids ∙ ap (λ ms. numbers_of (names_of ms)) all)

  no_steps : (ts : List Token) → mentions_from (length p.ids.items) scope [] (lexemes text ts) ≡ []
  no_steps ts = refl

  pub steps_end : (es : List Event) (ts : List Token) → es ≡ [] → IsAlong text tokens events p scope es ts
      → (keep_rules (mentions events (lexemes text tokens)) ≡ true)
      × (p.ids.items ≡ numbers_of (names_of (mentions events (lexemes text tokens))))
  steps_end es ts e a =
      finished es ts a (ap (λ x. mentions_from (length p.ids.items) scope x (lexemes text ts)) e)

  pub tokens_end : (es more : List Event) (ev : Event) (ts : List Token) → es ≡ ev ∷ more → ev ≡ Took → ts ≡ []
      → IsAlong text tokens events p scope es ts
      → (keep_rules (mentions events (lexemes text tokens)) ≡ true)
      × (p.ids.items ≡ numbers_of (names_of (mentions events (lexemes text tokens))))
  tokens_end es more ev ts e took f a =
      finished es ts a (ap (λ x. mentions_from (length p.ids.items) scope x (lexemes text ts)) e
      ∙ ap (λ x. mentions_from (length p.ids.items) scope (x ∷ more) (lexemes text ts)) took
      ∙ ap (λ x. mentions_from (length p.ids.items) scope (Took ∷ more) (lexemes text x)) f)

  module _ (es more : List Event) (ev : Event) (ts rest : List Token) (t : Token) (e : es ≡ ev ∷ more) (took : ev ≡ Took)
      (f : ts ≡ t ∷ rest) (a : IsAlong text tokens events p scope es ts) (role : Role) (bytes : List ℕ)
      (r : role ≡ role_in scope.opened t.kind scope) (b : bytes ≡ (lexeme_of text t).text) where
    -- the mention of the token
    one : Mention
    one = mention role bytes scope

    left : List Mention
    left = mentions_from (suc (length p.ids.items)) (behind t.kind scope) more (lexemes text rest)

    next : a.seen ++ (one ∷ left) ≡ mentions events (lexemes text tokens)
    unfolding one left
    next =
        ap (λ m. a.seen ++ (m ∷ left))
        (ap (λ x. mention x bytes scope) r ∙ ap (λ x. mention (role_in scope.opened t.kind scope) x scope) b)
        ∙ ap (λ x. a.seen ++ mentions_from (length p.ids.items) scope (Took ∷ more) (lexemes text x)) (sym f)
        ∙ ap (λ x. a.seen ++ mentions_from (length p.ids.items) scope x (lexemes text ts)) (sym (e ∙ ap (λ x. x ∷ more) took))
        ∙ a.all

    pub broken : (at : ℕ) → at ≡ length p.ids.items → keeps_rules role bytes (reverse a.seen) ≡ false
        → (keep_rules (take at (mentions events (lexemes text tokens))) ≡ true)
        × (keep_rules (take (suc at) (mentions events (lexemes text tokens))) ≡ false)
        × (at < length (mentions events (lexemes text tokens)))
    unfolding one
    broken at is kept =
        let place : at ≡ length a.seen = is ∙ a.passing.count in
        rw (place, sym next) (
          ap keep_rules (take_front a.seen (one ∷ left)) ∙ a.passing.keep,
          ap keep_rules (take_past a.seen one left) ∙ one_broken a.seen one a.passing.keep kept,
          within_front a.seen one left,
        )

    pub taken : (q : Pass) (to : Scope) → to ≡ behind t.kind scope
        → ((ms : List Mention) → IsPassing p ms → IsPassing q (ms ++ mention role bytes scope ∷ []))
        → IsAlong text tokens events q to more rest
    unfolding one left
    taken q to s passing =
        let after : IsPassing q (a.seen ++ one ∷ []) = passing a.seen a.passing in
        let count : length q.ids.items ≡ suc (length p.ids.items) =
        after.count ∙ length-append a.seen (one ∷ []) ∙ one_plus (length a.seen) ∙ ap suc (sym a.passing.count) in
        let rests : AreWithin text (t ∷ rest) = subst (AreWithin text) f a.within in
        record {
          seen = a.seen ++ one ∷ [];
          passing = after;
          all =
              rw (count, s) (append_assoc a.seen (one ∷ []) left ∙ next);
          within = rests.1;
        }
