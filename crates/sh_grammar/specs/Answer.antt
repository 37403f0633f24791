-- What the answer to a list of tokens has to be.
use Rattle.std.specs.Prelude.{◌≡◌, ℕ, suc, ◌↔◌, Bool, IsTrue, List, ◌++◌, length, take, slice_get, Some}
use Rattle.sh_base.specs.declared.rules.Rule.{Rule}
use Rattle.sh_grammar.specs.declared.symbols.Symbol.{Symbol}
use Rattle.sh_grammar.specs.declared.symbols.Event.{Event}
use Rattle.sh_grammar.specs.declared.reading.Reading.{Reading}
use Rattle.sh_grammar.specs.declared.reading.Reading.TheVariants.{Whole, Stopped}
use Rattle.sh_grammar.specs.Lexemes.{Lexeme}
use Rattle.sh_grammar.specs.Grammar.{Grammar, Trees, Reads, Front, IsDue, events, after}
use Rattle.sh_grammar.specs.LeftOut.{rule_of}

-- The tokens are read, as trees with these steps, and as no others.
pub record Accepts (g : Grammar) (α : List Symbol) (ts : List Lexeme) (steps : List Event)
    : Type 0 where
  pub trees : Trees
  pub reads : Reads g α ts trees
  pub takes : events trees ≡ steps
  pub only : (f : Trees) → Reads g α ts f → f ≡ trees

-- These steps take the tokens, and each reading that goes on from them begins so.
pub record Begins (g : Grammar) (α : List Symbol) (ts : List Lexeme) (steps : List Event)
    : Type 0 where
  pub spent : (more : List Event) → after (length ts) (steps ++ more) ≡ more
  pub common : (more : List Lexeme) (f : Trees) → Reads g α (ts ++ more) f
      → (rest : List Event) × (events f ≡ steps ++ rest)

-- The code is that of the token, by whether an operation is due.
pub record HasCode (g : Grammar) (α : List Symbol) (ts : List Lexeme) (t : Lexeme) (rule : Rule)
    : Type 0 where
  pub due : Bool
  pub where_due : IsTrue due ↔ IsDue g α ts
  pub code : rule ≡ rule_of due t

-- The tokens aren't read. Those before the one at this number are a front, and with it they are
-- none.
pub record Refuses (g : Grammar) (α : List Symbol) (ts : List Lexeme) (i : ℕ) (rule : Rule)
    (steps : List Event) : Type 0 where
  pub token : Lexeme
  pub at : slice_get ts i ≡ Some token
  pub front : Front g α (take i ts)
  pub first : Front g α (take (suc i) ts) → ⊥
  pub unread : (f : Trees) → Reads g α ts f → ⊥
  pub code : HasCode g α (take i ts) token rule
  pub begins : Begins g α (take i ts) steps

abbrev pub IsReading : Grammar → List Symbol → List Lexeme → Reading → Type 0
IsReading g α ts (Whole events) = Accepts g α ts events.items
IsReading g α ts (Stopped stop) = Refuses g α ts stop.token stop.rule stop.events.items
