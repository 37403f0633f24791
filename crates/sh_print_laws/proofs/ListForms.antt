-- Lists with commas, whatever their items are.
use Rattle.std.proofs.Common.{◌≡◌, ℕ, true, List, [], ◌∷◌, ap}
use Rattle.std.specs.Prelude.{slice_get}
use Rattle.std.specs.List.{AllByRecursion}
use Rattle.sh_build.specs.Meaning.{made}
use Rattle.sh_build.specs.declared.parts.Part.{Part}
use Rattle.sh_grammar.specs.Language as grammar
use Rattle.sh_grammar.specs.declared.forms.Form.{Form}
use Rattle.sh_grammar.specs.declared.symbols.Symbol.TheVariants as symbol
use Rattle.sh_grammar.specs.Lexemes.{Lexeme}
use Rattle.sh_print.specs.Layout.{Piece}
use Rattle.sh_print.specs.Spellings.{list_of, rest_of_list}
use Rattle.sh_print_laws.proofs.Keywords.{the-comma}
use Rattle.sh_print_laws.proofs.Walks.{State}
use Rattle.sh_print_laws.proofs.Rows.{Gives, Naming, by_row, end_row, is_plain, last_is, then_is, then_token}

-- The form is a list of these items, and `more` the form of its rest.
pub record IsListForm {X : Type 0} (n more item : Form) (all : List X → Part) (one : X → Part) : Type 0 where
  pub lists : grammar.language n ≡ grammar.list (symbol.Part item) more
  pub rests : grammar.language more ≡ grammar.rest_of_list (symbol.Part item) more
  pub plain : is_plain n ≡ true
  pub plain_rest : is_plain more ≡ true
  pub none : made n 0 [] ≡ all []
  pub some : (x : X) (xs : List X) → made n 1 (one x ∷ all xs ∷ []) ≡ all (x ∷ xs)
  pub none_more : made more 0 [] ≡ all []
  pub some_more : (comma : Part) (x : X) (xs : List X) → made more 1 (comma ∷ one x ∷ all xs ∷ []) ≡ all (x ∷ xs)

module _ {numbered : State → Lexeme → ℕ} (N : Naming numbered) {X : Type 0} {n more item : Form} {all : List X → Part} {one : X → Part} (L : IsListForm n more item all one) (spelled : X → List Piece) where
  -- each item is spelled
  abbrev pub AreItems : List X → Type 0
  AreItems xs = AllByRecursion (λ x. Gives N item (spelled x) (one x)) xs

  rest_spelled : (xs : List X) → AreItems xs → Gives N more (rest_of_list spelled xs) (all xs)
  rest_spelled [] items = by_row N 0 (ap (λ rows. slice_get rows 0) L.rests) L.plain_rest (end_row N L.none_more)
  rest_spelled (x ∷ xs) items = by_row N 1 (ap (λ rows. slice_get rows 1) L.rests) L.plain_rest
      (then_token N the-comma (λ p id. then_is N items.0 (last_is N (rest_spelled xs items.1) (L.some_more _ x xs))))

  pub list_spelled : (xs : List X) → AreItems xs → Gives N n (list_of spelled xs) (all xs)
  list_spelled [] items = by_row N 0 (ap (λ rows. slice_get rows 0) L.lists) L.plain (end_row N L.none)
  list_spelled (x ∷ xs) items = by_row N 1 (ap (λ rows. slice_get rows 1) L.lists) L.plain
      (then_is N items.0 (last_is N (rest_spelled xs items.1) (L.some x xs)))
