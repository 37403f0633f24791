-- Rows of the grammar spelled by printed pieces, with what their trees stand for.
use Rattle.std.proofs.Common.{◌≡◌, ◌∙◌, ℕ, Bool, true, false, List, [], ◌∷◌, ◌++◌, refl, ap, sym, subst, codes, append_assoc}
use Rattle.std.proofs.lemmas.List.{append-nil}
use Rattle.sh_base.specs.declared.places.Place.{Place}
use Rattle.sh_build.specs.Meaning.{made}
use Rattle.sh_build.specs.declared.parts.Part.{Part}
use Rattle.sh_build.specs.declared.parts.Part.TheVariants as part
use Rattle.sh_grammar.specs.Grammar.{IsAlternative, Spells, Trees, tokens}
use Rattle.sh_grammar.specs.Grammar.Spells.{is_form, is_nothing, is_token}
use Rattle.sh_grammar.specs.Grammar.Trees.{form as tree_form, nothing as tree_nothing, token as tree_token}
use Rattle.sh_grammar.specs.Language.{language, the}
use Rattle.sh_grammar.specs.Lexemes.{Lexeme, class_of}
use Rattle.sh_grammar.specs.declared.forms.Form.{Form}
use Rattle.sh_grammar.specs.declared.forms.Form.TheVariants as forms
use Rattle.sh_grammar.specs.declared.symbols.Symbol.{Symbol}
use Rattle.sh_grammar.specs.declared.symbols.Symbol.TheVariants as symbol
use Rattle.sh_lex.specs.declared.tokens.TokenKind.{TokenKind}
use Rattle.sh_lex.specs.declared.tokens.TokenKind.TheVariants as kind
use Rattle.sh_parse.specs.Reads.{leaf}
use Rattle.sh_print.specs.Layout.{Piece}
use Rattle.sh_print.specs.Layout.Piece.{apart as piece_apart, closing as piece_closing, line_end as piece_line_end, opening as piece_opening, token as piece_token}
use Rattle.sh_print_laws.specs.TokensOf.{AreTokensOf, lexeme}
use Rattle.sh_print_laws.specs.TokensOf.AreTokensOf.{none, a_token, an_apart, an_opening, a_closing, a_line_end}
use Rattle.sh_print_laws.proofs.Keywords.{the-less, the-open_brace, the-close_brace}
use Rattle.sh_print_laws.proofs.Walks.{State, enter, parts_at, past, step}

-- ## Names

-- the form begins no function, operation, region or map, and no name has a role of its own in it
abbrev pub is_plain : Form → Bool
is_plain forms.Contents = false
is_plain forms.Device = false
is_plain forms.Func = false
is_plain forms.Operation = false
is_plain forms.Return = false
is_plain forms.Map = false
is_plain forms.Name = false
is_plain forms.Hash = false
is_plain forms.Combiner = false
is_plain forms.BodyOperation = false
is_plain forms.GenericOperation = false
is_plain forms.BlockArgument = false
is_plain forms.Yield = false
is_plain _ = true

-- What names mean at some states of a reading: which states these are, and the number of each name.
pub record Naming (num : State → Lexeme → ℕ) : Type 1 where
  pub Holds : State → Type 0
  pub number : List ℕ → ℕ
  pub enters : (n : Form) (σ : State) → is_plain n ≡ true → Holds σ → Holds (enter n σ)
  pub steps : (t : Lexeme) (σ : State) → Holds σ → Holds (step t σ)
  pub named : (text : List ℕ) (place : Place) (σ : State) → Holds σ
      → num σ (lexeme kind.Val text place) ≡ number text

-- ## Rows and forms

-- These tokens spell the symbols from this state on, by trees whose parts are so, up to such a state.
pub record SpeltTo (num : State → Lexeme → ℕ) (To : State → Type 0) (α : List Symbol) (σ : State) (ts : List Lexeme) (V : List Part → Type 0) : Type 0 where
  pub trees : Trees
  pub spells : Spells language α trees
  pub takes : tokens trees ≡ ts
  pub row : V (parts_at num σ trees)
  pub holds : To (past σ trees)

-- The tokens spell a form from this state on, and the part that it makes is so.
pub record MadeTo (num : State → Lexeme → ℕ) (To : State → Type 0) (n : Form) (σ : State) (ts : List Lexeme) (P : Part → Type 0) : Type 0 where
  pub i : ℕ
  pub body : List Symbol
  pub below : Trees
  pub is : IsAlternative language n i body
  pub spells : Spells language body below
  pub takes : tokens below ≡ ts
  pub value : P (made n i (parts_at num (enter n σ) below))
  pub holds : To (past (enter n σ) below)

-- from such a state to such a one, whatever the places, the tokens of these pieces spell the symbols so
abbrev pub RowTo : (State → Lexeme → ℕ) → (State → Type 0) → (State → Type 0) → List Symbol → List Piece → (List Part → Type 0) → Type 0
RowTo num From To α ps V = (ts : List Lexeme) (σ : State) → AreTokensOf ps ts → From σ → SpeltTo num To α σ ts V

abbrev pub FormTo : (State → Lexeme → ℕ) → (State → Type 0) → (State → Type 0) → Form → List Piece → (Part → Type 0) → Type 0
FormTo num From To n ps P = (ts : List Lexeme) (σ : State) → AreTokensOf ps ts → From σ → MadeTo num To n σ ts P

-- the same where names mean the same all along
abbrev pub Row : {num : State → Lexeme → ℕ} → Naming num → List Symbol → List Piece → (List Part → Type 0) → Type 0
Row {num = num} N α ps V = RowTo num N.Holds N.Holds α ps V

abbrev pub IsForm : {num : State → Lexeme → ℕ} → Naming num → Form → List Piece → (Part → Type 0) → Type 0
IsForm {num = num} N n ps P = FormTo num N.Holds N.Holds n ps P

abbrev pub Made : {num : State → Lexeme → ℕ} → Naming num → Form → State → List Lexeme → (Part → Type 0) → Type 0
Made {num = num} N n σ ts P = MadeTo num N.Holds n σ ts P

-- the form makes this part
abbrev pub Gives : {num : State → Lexeme → ℕ} → Naming num → Form → List Piece → Part → Type 0
Gives N n ps v = IsForm N n ps (λ p. p ≡ v)

-- ## Tokens of pieces side by side

pub record AreBoth (ps qs : List Piece) (ts : List Lexeme) : Type 0 where
  pub front : List Lexeme
  pub behind : List Lexeme
  pub is : front ++ behind ≡ ts
  pub first : AreTokensOf ps front
  pub second : AreTokensOf qs behind

pub split : (ps qs : List Piece) (ts : List Lexeme) → AreTokensOf (ps ++ qs) ts → AreBoth ps qs ts
split [] qs ts are = record { front = []; behind = ts; is = refl; first = none; second = are }
split (piece_token k x ∷ ps) qs _ (a_token {place = p} {ts = ts} more) = let s = split ps qs ts more in record {
  front = lexeme k x p ∷ s.front;
  behind = s.behind;
  is = ap (λ us. lexeme k x p ∷ us) s.is;
  first = a_token s.first;
  second = s.second;
}
split (piece_apart ∷ ps) qs _ (an_apart {place = p} {ts = ts} more) = let s = split ps qs ts more in record {
  front = lexeme kind.Sign (codes "<") p ∷ s.front;
  behind = s.behind;
  is = ap (λ us. lexeme kind.Sign (codes "<") p ∷ us) s.is;
  first = an_apart s.first;
  second = s.second;
}
split (piece_opening ∷ ps) qs _ (an_opening {place = p} {ts = ts} more) = let s = split ps qs ts more in record {
  front = lexeme kind.Sign (codes "{") p ∷ s.front;
  behind = s.behind;
  is = ap (λ us. lexeme kind.Sign (codes "{") p ∷ us) s.is;
  first = an_opening s.first;
  second = s.second;
}
split (piece_closing ∷ ps) qs _ (a_closing {place = p} {ts = ts} more) = let s = split ps qs ts more in record {
  front = lexeme kind.Sign (codes "}") p ∷ s.front;
  behind = s.behind;
  is = ap (λ us. lexeme kind.Sign (codes "}") p ∷ us) s.is;
  first = a_closing s.first;
  second = s.second;
}
split (piece_line_end ∷ ps) qs _ (a_line_end {ts = ts} more) = let s = split ps qs ts more in record {
  front = s.front;
  behind = s.behind;
  is = s.is;
  first = a_line_end s.first;
  second = s.second;
}

-- ## Steps of rows

module _ {num : State → Lexeme → ℕ} {To : State → Type 0} where
  -- a token of this class, whatever its kind
  one_token : {c : ℕ} {α : List Symbol} {V : List Part → Type 0} (t : Lexeme) (ts : List Lexeme) (σ : State) → class_of t ≡ c
      → SpeltTo num To α (step t σ) ts (λ row. V (leaf [] t (num σ t) ∷ row)) → SpeltTo num To (symbol.Class c ∷ α) σ (t ∷ ts) V
  one_token t ts σ is r = record {
    trees = tree_token t r.trees;
    spells = is_token is r.spells;
    takes = ap (λ us. t ∷ us) r.takes;
    row = r.row;
    holds = r.holds;
  }

  -- a token of this number, behind which the state is another
  pub then_numbered : {From Next : State → Type 0} {c : ℕ} {k : TokenKind} {x : List ℕ} {id : ℕ} {α : List Symbol} {ps : List Piece} {V : List Part → Type 0}
      → ((p : Place) → class_of (lexeme k x p) ≡ c)
      → ((σ : State) (p : Place) → From σ → (num σ (lexeme k x p) ≡ id) × Next (step (lexeme k x p) σ))
      → ((p : Place) → RowTo num Next To α ps (λ row. V (leaf [] (lexeme k x p) id ∷ row)))
      → RowTo num From To (symbol.Class c ∷ α) (piece_token k x ∷ ps) V
  then_numbered {k = k} {x = x} {V = V} is named rest _ σ (a_token {place = p} {ts = ts} more) h =
      let it = named σ p h in
      let r = rest p ts (step (lexeme k x p) σ) more it.1 in
      one_token (lexeme k x p) ts σ (is p) (record {
        trees = r.trees;
        spells = r.spells;
        takes = r.takes;
        row = subst (λ id. V (leaf [] (lexeme k x p) id ∷ parts_at num (step (lexeme k x p) σ) r.trees)) (sym it.0) r.row;
        holds = r.holds;
      })

  -- the name of a value
  pub then_named : {From Next : State → Type 0} {x : List ℕ} {id : ℕ} {α : List Symbol} {ps : List Piece} {V : List Part → Type 0}
      → ((σ : State) (p : Place) → From σ → (num σ (lexeme kind.Val x p) ≡ id) × Next (step (lexeme kind.Val x p) σ))
      → ((p : Place) → RowTo num Next To α ps (λ row. V (part.Mark (record { id = id; place = p }) ∷ row)))
      → RowTo num From To (symbol.Class 1 ∷ α) (piece_token kind.Val x ∷ ps) V
  unfolding class_of
  then_named named rest = then_numbered (λ p. refl) named rest

  -- a token that changes what is known
  pub then_step : {From Next : State → Type 0} {c : ℕ} {k : TokenKind} {x : List ℕ} {α : List Symbol} {ps : List Piece} {V : List Part → Type 0}
      → ((p : Place) → class_of (lexeme k x p) ≡ c) → ((σ : State) (p : Place) → From σ → Next (step (lexeme k x p) σ))
      → ((p : Place) (id : ℕ) → RowTo num Next To α ps (λ row. V (leaf [] (lexeme k x p) id ∷ row)))
      → RowTo num From To (symbol.Class c ∷ α) (piece_token k x ∷ ps) V
  then_step {k = k} {x = x} is next rest _ σ (a_token {place = p} {ts = ts} more) h =
      one_token (lexeme k x p) ts σ (is p) (rest p (num σ (lexeme k x p)) ts (step (lexeme k x p) σ) more (next σ p h))

  -- what is known, said otherwise
  pub from_here : {From Next : State → Type 0} {α : List Symbol} {ps : List Piece} {V : List Part → Type 0}
      → ((σ : State) → From σ → Next σ) → RowTo num Next To α ps V → RowTo num From To α ps V
  from_here so row ts σ are h = row ts σ are (so σ h)

  pub row_to_end : {From End : State → Type 0} {α : List Symbol} {ps : List Piece} {V : List Part → Type 0}
      → ((σ : State) → End σ → To σ) → RowTo num From End α ps V → RowTo num From To α ps V
  row_to_end so row ts σ are h = let r = row ts σ are h in
      record { trees = r.trees; spells = r.spells; takes = r.takes; row = r.row; holds = so (past σ r.trees) r.holds }

  pub form_between : {From Next End : State → Type 0} {n : Form} {ps : List Piece} {P : Part → Type 0}
      → ((σ : State) → From σ → Next σ) → ((σ : State) → End σ → To σ) → FormTo num Next End n ps P → FormTo num From To n ps P
  form_between {n = n} so end form ts σ are h = let r = form ts σ are (so σ h) in
      record { i = r.i; body = r.body; below = r.below; is = r.is; spells = r.spells; takes = r.takes; value = r.value; holds = end (past (enter n σ) r.below) r.holds }

  -- a form by one of its alternatives, with what is known behind its beginning
  pub by_row_entered : {From Next : State → Type 0} {n : Form} {P : Part → Type 0} {ps : List Piece} (i : ℕ) {body : List Symbol} → IsAlternative language n i body
      → ((σ : State) → From σ → Next (enter n σ)) → RowTo num Next To body ps (λ row. P (made n i row)) → FormTo num From To n ps P
  by_row_entered {n = n} i {body = body} is enters row ts σ are h = let r = row ts (enter n σ) are (enters σ h) in record {
    i = i;
    body = body;
    below = r.trees;
    is = is;
    spells = r.spells;
    takes = r.takes;
    value = r.row;
    holds = r.holds;
  }

module _ {num : State → Lexeme → ℕ} (N : Naming num) where
  pub end_row : {V : List Part → Type 0} {From : State → Type 0} → V [] → RowTo num From From [] [] V
  end_row v _ σ none h = record { trees = tree_nothing; spells = is_nothing; takes = refl; row = v; holds = h }

  pub then_token : {To : State → Type 0} {c : ℕ} {k : TokenKind} {x : List ℕ} {α : List Symbol} {ps : List Piece} {V : List Part → Type 0}
      → ((p : Place) → class_of (lexeme k x p) ≡ c) → ((p : Place) (id : ℕ) → RowTo num N.Holds To α ps (λ row. V (leaf [] (lexeme k x p) id ∷ row)))
      → RowTo num N.Holds To (symbol.Class c ∷ α) (piece_token k x ∷ ps) V
  then_token {k = k} {x = x} is rest = then_step is (λ σ p h. N.steps (lexeme k x p) σ h) rest

  -- the name of a value
  pub then_value : {To : State → Type 0} {x : List ℕ} {α : List Symbol} {ps : List Piece} {V : List Part → Type 0}
      → ((p : Place) → RowTo num N.Holds To α ps (λ row. V (part.Mark (record { id = N.number x; place = p }) ∷ row)))
      → RowTo num N.Holds To (symbol.Class 1 ∷ α) (piece_token kind.Val x ∷ ps) V
  then_value {x = x} rest = then_named (λ σ p h. (N.named x p σ h, N.steps (lexeme kind.Val x p) σ h)) rest

  pub then_apart : {To : State → Type 0} {α : List Symbol} {ps : List Piece} {V : List Part → Type 0}
      → ((p : Place) (id : ℕ) → RowTo num N.Holds To α ps (λ row. V (leaf [] (lexeme kind.Sign (codes "<") p) id ∷ row)))
      → RowTo num N.Holds To (the "<" ∷ α) (piece_apart ∷ ps) V
  then_apart rest _ σ (an_apart {place = p} {ts = ts} more) h = let t = lexeme kind.Sign (codes "<") p in
      one_token t ts σ (the-less p) (rest p (num σ t) ts (step t σ) more (N.steps t σ h))

  pub then_opening : {To : State → Type 0} {α : List Symbol} {ps : List Piece} {V : List Part → Type 0}
      → ((p : Place) (id : ℕ) → RowTo num N.Holds To α ps (λ row. V (leaf [] (lexeme kind.Sign (codes "{") p) id ∷ row)))
      → RowTo num N.Holds To (the "{" ∷ α) (piece_opening ∷ ps) V
  then_opening rest _ σ (an_opening {place = p} {ts = ts} more) h = let t = lexeme kind.Sign (codes "{") p in
      one_token t ts σ (the-open_brace p) (rest p (num σ t) ts (step t σ) more (N.steps t σ h))

  pub then_closing : {To : State → Type 0} {α : List Symbol} {ps : List Piece} {V : List Part → Type 0}
      → ((p : Place) (id : ℕ) → RowTo num N.Holds To α ps (λ row. V (leaf [] (lexeme kind.Sign (codes "}") p) id ∷ row)))
      → RowTo num N.Holds To (the "}" ∷ α) (piece_closing ∷ ps) V
  then_closing rest _ σ (a_closing {place = p} {ts = ts} more) h = let t = lexeme kind.Sign (codes "}") p in
      one_token t ts σ (the-close_brace p) (rest p (num σ t) ts (step t σ) more (N.steps t σ h))

  pub then_line_end : {From To : State → Type 0} {α : List Symbol} {ps : List Piece} {V : List Part → Type 0}
      → RowTo num From To α ps V → RowTo num From To α (piece_line_end ∷ ps) V
  then_line_end rest _ σ (a_line_end {ts = ts} more) h = rest ts σ more h

  -- ## Steps over forms

  both : {To Next : State → Type 0} {n : Form} {P : Part → Type 0} {α : List Symbol} {ps qs : List Piece} {V : List Part → Type 0} (ts : List Lexeme) (σ : State)
      → (s : AreBoth ps qs ts) (a : MadeTo num Next n σ s.front P) → SpeltTo num To α (past (enter n σ) a.below) s.behind (λ row. V (made n a.i (parts_at num (enter n σ) a.below) ∷ row))
      → SpeltTo num To (symbol.Part n ∷ α) σ ts V
  both {n = n} ts σ s a r = record {
    trees = tree_form n a.i a.below r.trees;
    spells = is_form a.is a.spells r.spells;
    takes = ap (λ us. us ++ tokens r.trees) a.takes ∙ ap (λ us. s.front ++ us) r.takes ∙ s.is;
    row = r.row;
    holds = r.holds;
  }

  pub then_form : {From Next To : State → Type 0} {n : Form} {P : Part → Type 0} {α : List Symbol} {ps qs : List Piece} {V : List Part → Type 0}
      → FormTo num From Next n ps P → ((p : Part) → P p → RowTo num Next To α qs (λ row. V (p ∷ row))) → RowTo num From To (symbol.Part n ∷ α) (ps ++ qs) V
  then_form {Next = Next} {n = n} {ps = ps} {qs = qs} f rest ts σ are h =
      let s = split ps qs ts are in
      let a = f s.front σ s.first h in
      both {Next = Next} ts σ s a (rest (made n a.i (parts_at num (enter n σ) a.below)) a.value s.behind (past (enter n σ) a.below) s.second a.holds)

  pub then_is : {From Next To : State → Type 0} {n : Form} {v : Part} {α : List Symbol} {ps qs : List Piece} {V : List Part → Type 0}
      → FormTo num From Next n ps (λ p. p ≡ v) → RowTo num Next To α qs (λ row. V (v ∷ row)) → RowTo num From To (symbol.Part n ∷ α) (ps ++ qs) V
  then_is {Next = Next} {To = To} {α = α} {qs = qs} {V = V} f rest =
      then_form f (λ p is. subst (λ q. RowTo num Next To α qs (λ row. V (q ∷ row))) (sym is) rest)

  -- the last form of a row
  pub last_form : {From To : State → Type 0} {n : Form} {P : Part → Type 0} {ps : List Piece} {V : List Part → Type 0}
      → FormTo num From To n ps P → ((p : Part) → P p → V (p ∷ [])) → RowTo num From To (symbol.Part n ∷ []) ps V
  last_form {From = From} {To = To} {n = n} {ps = ps} {V = V} f v =
      subst (λ qs. RowTo num From To (symbol.Part n ∷ []) qs V) (append-nil ps) (then_form f (λ p is. end_row (v p is)))

  pub last_is : {From To : State → Type 0} {n : Form} {v : Part} {ps : List Piece} {V : List Part → Type 0}
      → FormTo num From To n ps (λ p. p ≡ v) → V (v ∷ []) → RowTo num From To (symbol.Part n ∷ []) ps V
  last_is {V = V} f v = last_form f (λ p is. subst (λ q. V (q ∷ [])) (sym is) v)

  -- the same pieces, written otherwise
  pub row_by : {From To : State → Type 0} {α : List Symbol} {ps qs : List Piece} {V : List Part → Type 0} → qs ≡ ps → RowTo num From To α qs V → RowTo num From To α ps V
  row_by {From = From} {To = To} {α = α} {V = V} e row = subst (λ us. RowTo num From To α us V) e row

  -- a form at the head of two lists, of three and of more
  pub then_in_2 : {From Next To : State → Type 0} {n : Form} {v : Part} {α : List Symbol} {ps : List Piece} {V : List Part → Type 0}
      → FormTo num From Next n ps (λ p. p ≡ v) → (qs rs : List Piece) → RowTo num Next To α (qs ++ rs) (λ row. V (v ∷ row)) → RowTo num From To (symbol.Part n ∷ α) ((ps ++ qs) ++ rs) V
  then_in_2 {ps = ps} f qs rs rest = row_by (sym (append_assoc ps qs rs)) (then_is f rest)

  pub then_in_3 : {From Next To : State → Type 0} {n : Form} {v : Part} {α : List Symbol} {ps : List Piece} {V : List Part → Type 0}
      → FormTo num From Next n ps (λ p. p ≡ v) → (qs rs us : List Piece) → RowTo num Next To α (qs ++ (rs ++ us)) (λ row. V (v ∷ row)) → RowTo num From To (symbol.Part n ∷ α) (((ps ++ qs) ++ rs) ++ us) V
  then_in_3 {ps = ps} f qs rs us rest = row_by (sym (append_assoc (ps ++ qs) rs us)) (then_in_2 f qs (rs ++ us) rest)

  pub then_in_4 : {From Next To : State → Type 0} {n : Form} {v : Part} {α : List Symbol} {ps : List Piece} {V : List Part → Type 0}
      → FormTo num From Next n ps (λ p. p ≡ v) → (qs rs us vs : List Piece) → RowTo num Next To α (qs ++ (rs ++ (us ++ vs))) (λ row. V (v ∷ row)) → RowTo num From To (symbol.Part n ∷ α) ((((ps ++ qs) ++ rs) ++ us) ++ vs) V
  then_in_4 {ps = ps} f qs rs us vs rest = row_by (sym (append_assoc ((ps ++ qs) ++ rs) us vs)) (then_in_3 f qs rs (us ++ vs) rest)

  pub then_in_5 : {From Next To : State → Type 0} {n : Form} {v : Part} {α : List Symbol} {ps : List Piece} {V : List Part → Type 0}
      → FormTo num From Next n ps (λ p. p ≡ v) → (qs rs us vs ws : List Piece) → RowTo num Next To α (qs ++ (rs ++ (us ++ (vs ++ ws)))) (λ row. V (v ∷ row)) → RowTo num From To (symbol.Part n ∷ α) (((((ps ++ qs) ++ rs) ++ us) ++ vs) ++ ws) V
  then_in_5 {ps = ps} f qs rs us vs ws rest =
      row_by (sym (append_assoc (((ps ++ qs) ++ rs) ++ us) vs ws)) (then_in_4 f qs rs us (vs ++ ws) rest)

  -- a form by one of its alternatives
  pub by_row : {To : State → Type 0} {n : Form} {P : Part → Type 0} {ps : List Piece} (i : ℕ) {body : List Symbol} → IsAlternative language n i body
      → is_plain n ≡ true → RowTo num N.Holds To body ps (λ row. P (made n i row)) → FormTo num N.Holds To n ps P
  by_row {n = n} i is plain row = by_row_entered i is (λ σ h. N.enters n σ plain h) row
