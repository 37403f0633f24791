-- The words of a map are numbered by first occurrence.
use Rattle.std.proofs.Common.{◌≡◌, ◌+◌, ◌∙◌, ◌<◌, ℕ, suc, max, Bool, true, false, cond, nat_eq, nat_le, List, [], ◌∷◌, ◌++◌, length, None, refl, ap, sym, subst, arith, inl, inr, append_assoc}
use Rattle.std.proofs.lemmas.List.{append-nil}
use Rattle.std.specs.Prelude.{filter, not}
use Rattle.std.specs.List.{AllByRecursion, list_all}
use Rattle.std.proofs.lemmas.Bool.{and_from, and_parts, cases_Bool, cond_both, eqb-true, le-leb, ne_eqb}
use Rattle.sh_build.specs.Meaning.{made}
use Rattle.sh_build.specs.Readings.{id_in, ids_in, map_in}
use Rattle.sh_build.specs.declared.parts.Alias.{Alias}
use Rattle.sh_build.specs.declared.parts.Part.{Part}
use Rattle.sh_grammar.specs.Grammar.{Spells, Trees}
use Rattle.sh_grammar.specs.Language.{language, one_of}
use Rattle.sh_grammar.specs.Lexemes.{Lexeme, bangs, class_of_keyword, class_of_kind, dims, hashes, signs, words}
use Rattle.sh_grammar.specs.declared.forms.Form.{Form}
use Rattle.sh_grammar.specs.declared.forms.Form.TheVariants as forms
use Rattle.sh_grammar.specs.declared.symbols.Symbol.{Symbol}
use Rattle.sh_ir.specs.Formed.{are_numbered}
use Rattle.sh_lex.specs.declared.tokens.TokenKind.{TokenKind}
use Rattle.sh_lex.specs.declared.tokens.TokenKind.TheVariants.{Word, Val, At, Hash, Block, Bang, Number, Dim, Str, Sign, End}
use Rattle.sh_names.specs.Names.{Owned, behind, distinct, mention_of, names_by_role, number_among, role_by_kind, role_in, same_owned}
use Rattle.sh_names.specs.declared.scopes.Scope.{Scope}
use Rattle.sh_parse.proofs.formed.EachOf.{InOption}
use Rattle.sh_parse.proofs.formed.NumbersOfNames.{absent, count_of, new_number, of_unit, old_number, one_new, one_old, owned, there}
use Rattle.sh_parse.proofs.formed.PartsKept.{MapNumbered}
use Rattle.sh_parse.proofs.formed.States.{Below, Everywhere, Starts, by_rows, everywhere, ForRowsFrom, NameBelow, RowsAre, TokenAt, named_before, named_step, rows_free}
use Rattle.sh_parse.proofs.formed.TokensKept.{by_class, kind_class}
use Rattle.sh_parse.proofs.formed.Walks.{State, enter, leaf_at, names_at, past, step}
use Rattle.sh_parse.specs.Reads.{leaf}

-- ## Kinds of tokens

pub is_word : (kind : TokenKind) → class_of_kind kind ≡ 0 → kind ≡ Word
is_word Word e = refl
is_word Val e = cc
is_word At e = cc
is_word Hash e = cc
is_word Block e = cc
is_word Bang e = cc
is_word Number e = cc
is_word Dim e = cc
is_word Str e = cc
is_word Sign e = cc
is_word End e = cc

pub is_sign : (kind : TokenKind) → class_of_kind kind ≡ 9 → kind ≡ Sign
is_sign Word e = cc
is_sign Val e = cc
is_sign At e = cc
is_sign Hash e = cc
is_sign Block e = cc
is_sign Bang e = cc
is_sign Number e = cc
is_sign Dim e = cc
is_sign Str e = cc
is_sign Sign e = refl
is_sign End e = cc

-- ## Words

-- no form that is told apart begins here
abbrev pub IsPlain : Scope → Type 0
IsPlain s = (kind : TokenKind) → role_in s.opened kind s ≡ role_by_kind kind s

-- behind these numbers of the map's words the next new one is that of the names so far
abbrev pub WordsAre : State → State → List ℕ → Type 0
WordsAre σ τ ids =
    (τ.scope.map ≡ σ.scope.map) × IsPlain τ.scope
    × ((ns : List ℕ) → are_numbered (count_of σ.scope.map (named_before τ)) ns ≡ true
    → are_numbered (count_of σ.scope.map (named_before σ)) (ids ++ ns) ≡ true)

words_then : (σ τ υ : State) (a b : List ℕ) → WordsAre σ τ a → WordsAre τ υ b → WordsAre σ υ (a ++ b)
words_then σ τ υ a b x y = (
  y.0 ∙ x.0,
  y.1,
  λ ns h.
      let h' : are_numbered (count_of τ.scope.map (named_before υ)) ns ≡ true =
      subst (λ u. are_numbered (count_of u (named_before υ)) ns ≡ true) (sym x.0) h in
      let behind_a : are_numbered (count_of σ.scope.map (named_before τ)) (b ++ ns) ≡ true =
      subst (λ u. are_numbered (count_of u (named_before τ)) (b ++ ns) ≡ true) x.0 (y.2 ns h') in
      subst (λ zs. are_numbered (count_of σ.scope.map (named_before σ)) zs ≡ true) (sym (append_assoc a b ns)) (x.2 (b ++ ns) behind_a),
)

behind_map : (kind : TokenKind) (s : Scope) → (behind kind s).map ≡ s.map
behind_map At s = refl
behind_map _ s = refl

pub behind_plain : (kind : TokenKind) (s : Scope) → IsPlain (behind kind s)
behind_plain At s = λ kind. refl
behind_plain _ s = λ kind. refl

-- a word that is read has the number of one that came before, or the next new one
word_number : (all before later : List Owned) (x : Owned) (id : ℕ) (ns : List ℕ) → all ≡ before ++ x ∷ later
    → id ≡ number_among (distinct all) x → are_numbered (count_of x.unit (before ++ x ∷ [])) ns ≡ true
    → are_numbered (count_of x.unit before) (id ∷ ns) ≡ true
word_number all before later x id ns every is h = elim (cases_Bool (absent before x)) [
  | inl new ↦
      let next : id ≡ count_of x.unit before = is ∙ ap (λ xs. number_among (distinct xs) x) every ∙ new_number before later x new in
      let more : count_of x.unit (before ++ x ∷ []) ≡ max (count_of x.unit before) (id + 1) =
      one_new before x new ∙ omega (arith, next) in
      and_from (nat_le id (count_of x.unit before)) _ (le-leb id (count_of x.unit before) (omega (arith, next)))
      (subst (λ n. are_numbered n ns ≡ true) more h)
  | inr old ↦
      let less : number_among (distinct (before ++ x ∷ later)) x < count_of x.unit before = old_number before (x ∷ later) x (there before x old) in
      let here : id ≡ number_among (distinct (before ++ x ∷ later)) x = is ∙ ap (λ xs. number_among (distinct xs) x) every in
      let same : count_of x.unit (before ++ x ∷ []) ≡ max (count_of x.unit before) (id + 1) =
      one_old x.unit before x old ∙ omega (arith, less, here) in
      and_from (nat_le id (count_of x.unit before)) _ (le-leb id (count_of x.unit before) (omega (arith, less, here)))
      (subst (λ n. are_numbered n ns ≡ true) same h)
]

-- no name of this map came before
each_filter : (P : Owned → Type 0) (p : Owned → Bool) (xs : List Owned) → AllByRecursion P xs → AllByRecursion P (filter p xs)
each_filter P p [] h = tt
each_filter P p (x ∷ xs) h =
    cond_both (p x) _ _ (AllByRecursion P) (λ _. (h.0, each_filter P p xs h.1)) (λ _. each_filter P p xs h.1)

each_distinct : (P : Owned → Type 0) (xs : List Owned) → AllByRecursion P xs → AllByRecursion P (distinct xs)
each_distinct P [] h = tt
each_distinct P (x ∷ xs) h = (h.0, each_filter P (λ y. not (same_owned x y)) (distinct xs) (each_distinct P xs h.1))

none_of : (k : ℕ) (xs : List Owned) → AllByRecursion (NameBelow k) xs → length (of_unit k xs) ≡ 0
none_of k [] h = refl
none_of k (x ∷ xs) h =
    let less : x.unit < k = h.0.unit in
    let other : nat_eq x.unit k ≡ false = ne_eqb x.unit k (λ e. omega arith) in
    ap (λ b. length (cond b (x ∷ of_unit k xs) (of_unit k xs))) other ∙ none_of k xs h.1

none_before : (k : ℕ) (xs : List Owned) → AllByRecursion (NameBelow k) xs → count_of k xs ≡ 0
none_before k xs h = none_of k (distinct xs) (each_distinct (NameBelow k) xs h)

module _ (aliases : List Alias) (all : List Owned) where
  silent : (σ : State) (t : Lexeme) → names_at aliases (distinct all) σ t ≡ [] → WordsAre σ (step t σ) []
  silent σ t none =
      let same : named_before (step t σ) ≡ named_before σ ++ [] = named_step aliases (distinct all) σ t ∙ ap (λ ns. named_before σ ++ ns) none in (
        behind_map t.kind σ.scope,
        behind_plain t.kind σ.scope,
        λ ns h. subst (λ xs. are_numbered (count_of σ.scope.map xs) ns ≡ true) (same ∙ append-nil (named_before σ)) h,
      )

  silent_kind : (kind : TokenKind) (σ : State) (t : Lexeme) → IsPlain σ.scope → t.kind ≡ kind
      → names_by_role (role_by_kind kind σ.scope) σ.before (mention_of σ.scope t) ≡ [] → WordsAre σ (step t σ) []
  silent_kind kind σ t plain is none = silent σ t
      (ap (λ role. names_by_role role σ.before (mention_of σ.scope t)) (plain t.kind ∙ ap (λ k. role_by_kind k σ.scope) is) ∙ none)

  sign_then : (σ : State) (t : Lexeme) (c : ℕ) (υ : State) (ids : List ℕ) → TokenAt all c σ t → kind_class c ≡ 9 → IsPlain σ.scope
      → WordsAre (step t σ) υ ids → WordsAre σ υ ids
  sign_then σ t c υ ids at e plain rest =
      words_then σ (step t σ) υ [] ids (silent_kind Sign σ t plain (is_sign t.kind (by_class t c at.class ∙ e)) refl) rest

  word_then : (σ : State) (t : Lexeme) (c : ℕ) (υ : State) (ids : List ℕ) → TokenAt all c σ t → kind_class c ≡ 0 → IsPlain σ.scope
      → WordsAre (step t σ) υ ids → WordsAre σ υ ids
  word_then σ t c υ ids at e plain rest =
      words_then σ (step t σ) υ [] ids (silent_kind Word σ t plain (is_word t.kind (by_class t c at.class ∙ e)) refl) rest

  -- a word at the start of a name
  named_word : (σ : State) (t : Lexeme) (c : ℕ) → TokenAt all c (enter forms.Name σ) t → kind_class c ≡ 0
      → WordsAre σ (step t (enter forms.Name σ)) (id_in (leaf_at aliases (distinct all) (enter forms.Name σ) t) ∷ [])
  named_word σ t c at e =
      let x : Owned = owned σ.scope.map None t.text in
      let before : List Owned = named_before σ in
      let behind_it : named_before (step t (enter forms.Name σ)) ≡ before ++ x ∷ [] = named_step aliases (distinct all) (enter forms.Name σ) t in
      let every : all ≡ before ++ x ∷ at.later = at.is ∙ ap (λ xs. xs ++ at.later) behind_it ∙ append_assoc before (x ∷ []) at.later in
      let id : id_in (leaf_at aliases (distinct all) (enter forms.Name σ) t) ≡ number_among (distinct all) x =
      ap (λ kind. id_in (leaf aliases (record t { kind = kind }) (number_among (distinct all) x))) (is_word t.kind (by_class t c at.class ∙ e)) in (
        behind_map t.kind (enter forms.Name σ).scope,
        behind_plain t.kind (enter forms.Name σ).scope,
        λ ns h. word_number all before at.later x _ ns every id
            (subst (λ xs. are_numbered (count_of σ.scope.map xs) ns ≡ true) behind_it h),
      )

  -- what is known of a map and its words
  abbrev pub WordsIn : Form → State → State → Part → Type 0
  WordsIn forms.Name σ τ p = WordsAre σ τ (id_in p ∷ [])
  WordsIn forms.Names σ τ p = WordsAre σ τ (ids_in p)
  WordsIn forms.MoreNames σ τ p = WordsAre σ τ (ids_in p)
  WordsIn forms.Map σ τ p = InOption MapNumbered (map_in p)
  WordsIn _ σ τ p = Unit {0}

  keyword_rows : (ws : List (List ℕ)) (σ : State) (P : ℕ → State → List Part → Type 0)
      → list_all (λ w. nat_eq (kind_class (class_of_keyword w)) 0) ws ≡ true
      → ((i c : ℕ) → kind_class c ≡ 0 → (t : Lexeme) → TokenAt all c σ t → P i (step t σ) (leaf_at aliases (distinct all) σ t ∷ []))
      → ForRowsFrom aliases all WordsIn σ (one_of ws) P
  keyword_rows [] σ P h so = tt
  keyword_rows (w ∷ ws) σ P h so =
      let parts = and_parts (nat_eq (kind_class (class_of_keyword w)) 0) _ h in (
        λ t at. so 0 (class_of_keyword w) (eqb-true (kind_class (class_of_keyword w)) 0 parts.0) t at,
        keyword_rows ws σ (λ i. P (suc i)) parts.1 (λ i. so (suc i)),
      )

  name_rows : RowsAre aliases all WordsIn forms.Name
  unfolding made words signs dims bangs hashes
  name_rows σ below = (
    λ t at. named_word σ t 0 at refl,
    keyword_rows words (enter forms.Name σ) (λ i τ ps. WordsIn forms.Name σ τ (made forms.Name (suc i) ps)) refl
        (λ i c e t at. named_word σ t c at e),
  )

  no_words : (n : Form) (σ : State) → IsPlain (enter n σ).scope → (enter n σ).scope.map ≡ σ.scope.map → WordsAre σ (enter n σ) []
  no_words n σ plain same = (same, plain, λ ns h. h)

  names_rows : RowsAre aliases all WordsIn forms.Names
  unfolding made
  names_rows σ below = (
    no_words forms.Names σ (λ kind. refl) refl,
    (λ τ word _ word-is υ more _ more-is. words_then σ τ υ (id_in word ∷ []) (ids_in more) word-is more-is, tt),
  )

  more_rows : RowsAre aliases all WordsIn forms.MoreNames
  unfolding made words signs dims bangs hashes
  more_rows σ below = (
    no_words forms.MoreNames σ (λ kind. refl) refl,
    (
      λ t at τ word _ word-is υ more _ more-is.
          let σ' = enter forms.MoreNames σ in
          sign_then σ' t _ υ (id_in word ∷ ids_in more) at refl (λ kind. refl)
          (words_then (step t σ') τ υ (id_in word ∷ []) (ids_in more) word-is more-is),
      tt,
    ),
  )

  map_rows : RowsAre aliases all WordsIn forms.Map
  unfolding made words signs dims bangs hashes
  map_rows σ below = (
    λ t1 at1 t2 at2 t3 at3 τ loops _ loops-is t4 at4 t5 at5 t6 at6 υ results _ results-is t7 at7 t8 at8.
        let σ' = enter forms.Map σ in
        let words_are : WordsAre σ' υ (ids_in loops ++ ids_in results) =
        word_then σ' t1 _ υ _ at1 refl (λ kind. refl)
        (sign_then (step t1 σ') t2 _ υ _ at2 refl (behind_plain t1.kind σ'.scope)
        (sign_then (step t2 (step t1 σ')) t3 _ υ _ at3 refl (behind_plain t2.kind (step t1 σ').scope)
        (words_then (step t3 (step t2 (step t1 σ'))) τ υ (ids_in loops) (ids_in results) loops-is
        (sign_then τ t4 _ υ _ at4 refl loops-is.1
        (sign_then (step t4 τ) t5 _ υ _ at5 refl (behind_plain t4.kind τ.scope)
        (sign_then (step t5 (step t4 τ)) t6 _ υ _ at6 refl (behind_plain t5.kind (step t4 τ).scope) results-is)))))) in
        let from_zero : are_numbered (count_of σ.count (named_before σ)) ((ids_in loops ++ ids_in results) ++ []) ≡ true = words_are.2 [] refl in
        let none : count_of σ.count (named_before σ) ≡ 0 = none_before σ.count (named_before σ) below.names in
        subst (λ ids. are_numbered 0 ids ≡ true) (append-nil (ids_in loops ++ ids_in results))
        (subst (λ n. are_numbered n ((ids_in loops ++ ids_in results) ++ []) ≡ true) none from_zero),
    tt,
  )

  words_rows : (n : Form) → RowsAre aliases all WordsIn n
  words_rows forms.Name = name_rows
  words_rows forms.Names = names_rows
  words_rows forms.MoreNames = more_rows
  words_rows forms.Map = map_rows
  words_rows n = λ σ below. rows_free aliases all WordsIn (enter n σ) (language n) _ (λ i τ ps. tt)

  pub words_everywhere : (α : List Symbol) (f : Trees) (σ : State) → Spells language α f → Below σ
      → Starts all (past σ f) → Everywhere aliases all WordsIn σ f
  words_everywhere = everywhere aliases all WordsIn (λ n. by_rows aliases all WordsIn n (words_rows n))
