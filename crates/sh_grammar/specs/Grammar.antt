-- What a grammar is, and what it reads. Nothing here speaks of how it is read.
use Rattle.std.specs.Prelude.{◌≡◌, ℕ, zero, suc, Bool, true, false, ◌||◌, List, [], ◌∷◌, ◌++◌, length, slice_get, Some}
use Rattle.sh_grammar.specs.declared.forms.Form.{Form}
use Rattle.sh_grammar.specs.declared.symbols.Symbol.{Symbol}
use Rattle.sh_grammar.specs.declared.symbols.Symbol.TheVariants.{Class, Part}
use Rattle.sh_grammar.specs.declared.symbols.Event.{Event}
use Rattle.sh_grammar.specs.declared.symbols.Event.TheVariants.{Took, Opened}
use Rattle.sh_grammar.specs.Lexemes.{Lexeme, class_of}
use Rattle.sh_grammar.specs.declared.forms.Form.TheVariants.{Operation, Return, RightSide, Arith, GenericRightSide, Combiner, BodyOperation, GenericOperation, Yield}

-- what each form may be: one of these rows of symbols
abbrev pub Grammar : Type 0
Grammar = Form → List (List Symbol)

-- this row is what the form may be by its alternative i
abbrev pub IsAlternative : Grammar → Form → ℕ → List Symbol → Type 0
IsAlternative g n i body = slice_get (g n) i ≡ Some body

-- A row of trees: a token and the trees behind it, or a form with the alternative that it takes, the
-- trees below it and the trees behind it.
pub data Trees : Type 0 where
  nothing : Trees
  token : Lexeme → Trees → Trees
  form : Form → ℕ → Trees → Trees → Trees

-- the tokens of a row, from the left
abbrev pub tokens : Trees → List Lexeme
tokens nothing = []
tokens (token t behind) = t ∷ tokens behind
tokens (form n i below behind) = tokens below ++ tokens behind

abbrev pub size : Trees → ℕ
size nothing = 0
size (token t behind) = suc (size behind)
size (form n i below behind) = suc (size behind)

-- the trees stand for these symbols
pub data Spells (g : Grammar) : List Symbol → Trees → Type 0 where
  is_nothing : Spells g [] nothing
  is_token : {c : ℕ} {t : Lexeme} {α : List Symbol} {behind : Trees}
      → class_of t ≡ c → Spells g α behind → Spells g (Class c ∷ α) (token t behind)
  is_form : {n : Form} {i : ℕ} {body α : List Symbol} {below behind : Trees}
      → IsAlternative g n i body → Spells g body below → Spells g α behind
      → Spells g (Part n ∷ α) (form n i below behind)

-- the tokens are a spelling of the symbols, by these trees
abbrev pub Reads : Grammar → List Symbol → List Lexeme → Trees → Type 0
Reads g α ts f = Spells g α f × (tokens f ≡ ts)

-- The tokens are a front of the symbols. No tokens are, and a spelling is. A front of what a form may
-- be is a front of the form, and of a row that begins with it. A spelling of the first symbol and then
-- a front of the rest is a front of the row.
pub data Front (g : Grammar) : List Symbol → List Lexeme → Type 0 where
  is_empty : {α : List Symbol} → Front g α []
  is_spelled : {α : List Symbol} (f : Trees) → Spells g α f → Front g α (tokens f)
  is_inside : {n : Form} {α : List Symbol} {ts : List Lexeme} (i : ℕ) (body : List Symbol)
      → IsAlternative g n i body → Front g body ts → Front g (Part n ∷ α) ts
  is_past : {s : Symbol} {α : List Symbol} (f : Trees) (ts : List Lexeme)
      → Spells g (s ∷ []) f → Front g α ts → Front g (s ∷ α) (tokens f ++ ts)

-- the trees in the order in which they are read: each form before what is below it, with its
-- alternative and how many trees are below it
abbrev pub events : Trees → List Event
events nothing = []
events (token t behind) = Took ∷ events behind
events (form n i below behind) = Opened n i (size below) ∷ (events below ++ events behind)

-- what is read behind so many tokens
abbrev pub after : ℕ → List Event → List Event
after zero es = es
after (suc k) [] = []
after (suc k) (Took ∷ es) = after k es
after (suc k) (Opened n i size ∷ es) = after (suc k) es

-- what is read up to and with so many tokens
abbrev pub up_to : ℕ → List Event → List Event
up_to zero es = []
up_to (suc k) [] = []
up_to (suc k) (Took ∷ es) = Took ∷ up_to k es
up_to (suc k) (Opened n i size ∷ es) = Opened n i size ∷ up_to (suc k) es

-- Where one of these forms may begin an operation is due: an operation, its right side, a return,
-- the operations and the yield of a region, and the combiner of a short reduction.
unfoldable pub is_operation : Form → Bool
is_operation Operation = true
is_operation RightSide = true
is_operation Return = true
is_operation BodyOperation = true
is_operation Arith = true
is_operation GenericOperation = true
is_operation GenericRightSide = true
is_operation Yield = true
is_operation Combiner = true
is_operation _ = false

-- an operation is opened before the next token
abbrev pub opens_operation : List Event → Bool
opens_operation [] = false
opens_operation (Took ∷ es) = false
opens_operation (Opened n i size ∷ es) = is_operation n || opens_operation es

-- Behind these tokens an operation may begin: some text goes on so, and is read.
pub record IsDue (g : Grammar) (α : List Symbol) (ts : List Lexeme) : Type 0 where
  pub more : List Lexeme
  pub trees : Trees
  pub reads : Reads g α (ts ++ more) trees
  pub begins : opens_operation (after (length ts) (events trees)) ≡ true
