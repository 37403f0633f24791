-- What a stack of symbols has still to read, and what a step of the machine keeps.
use Rattle.std.specs.Prelude.{◌≡◌, ℕ, suc, true, nat_lt, List, [], ◌∷◌, ◌++◌, length}
use Rattle.sh_grammar.specs.declared.forms.Form.{Form}
use Rattle.sh_grammar.specs.declared.symbols.Symbol.{Symbol}
use Rattle.sh_grammar.specs.declared.symbols.Symbol.TheVariants.{Class, Part}
use Rattle.sh_grammar.specs.declared.symbols.Event.{Event}
use Rattle.sh_grammar.specs.declared.symbols.Event.TheVariants.{Took, Opened}
use Rattle.sh_grammar.specs.Lexemes.{Lexeme, class_of, class_count}
use Rattle.sh_grammar.specs.Grammar.{Grammar, IsAlternative, after}
use Rattle.sh_grammar.specs.Predictive.{Facts, facts_of, has, firsts}

-- the spellings of a stack from the left: the tokens that it goes over, and the steps that it takes
pub data Runs (g : Grammar) : List Symbol → List Lexeme → List Event → Type 0 where
  ends : Runs g [] [] []
  shifts : {c : ℕ} {t : Lexeme} {α : List Symbol} {ts : List Lexeme} {cs : List Event}
      → class_of t ≡ c → Runs g α ts cs → Runs g (Class c ∷ α) (t ∷ ts) (Took ∷ cs)
  expands : {n : Form} {i : ℕ} (body : List Symbol)
      {α : List Symbol} {ts : List Lexeme} {cs : List Event}
      → IsAlternative g n i body → Runs g (body ++ α) ts cs
      → Runs g (Part n ∷ α) ts (Opened n i (length body) ∷ cs)

-- some token is wanted
abbrev pub HasClass : List Symbol → Type 0
HasClass [] = ⊥
HasClass (Class c ∷ α) = Unit {0}
HasClass (Part n ∷ α) = HasClass α

-- The classes on the stack are classes of tokens. What may begin the rest of the stack behind a form
-- may follow it, and a token is wanted there.
abbrev pub IsApt : List Facts → List Symbol → Type 0
IsApt fs [] = Unit {0}
IsApt fs (Class c ∷ α) = (nat_lt c class_count ≡ true) × IsApt fs α
IsApt fs (Part n ∷ α) =
    ((c : ℕ) → has (firsts fs α) c ≡ true → has (facts_of fs n).follow c ≡ true)
    × HasClass α × IsApt fs α

-- Before the token t the stack β stands for α, once these forms are opened.
pub record Opens (g : Grammar) (α : List Symbol) (t : Lexeme) (cs : List Event) (β : List Symbol)
    : Type 0 where
  pub forward : (ts : List Lexeme) (ds : List Event) → Runs g β ts ds → Runs g α ts (cs ++ ds)
  pub back : (ts : List Lexeme) (es : List Event) → Runs g α (t ∷ ts) es
      → (ds : List Event) × Runs g β (t ∷ ts) ds × (es ≡ cs ++ ds)
  pub spent : (k : ℕ) (ds : List Event) → after (suc k) (cs ++ ds) ≡ after (suc k) ds

-- Behind these tokens the stack β stands for α, once these steps are taken.
pub record Moves (g : Grammar) (α : List Symbol) (us : List Lexeme) (cs : List Event)
    (β : List Symbol) : Type 0 where
  pub forward : (ts : List Lexeme) (ds : List Event) → Runs g β ts ds
      → Runs g α (us ++ ts) (cs ++ ds)
  pub back : (ts : List Lexeme) (es : List Event) → Runs g α (us ++ ts) es
      → (ds : List Event) × Runs g β ts ds × (es ≡ cs ++ ds)
  pub spent : (ds : List Event) → after (length us) (cs ++ ds) ≡ ds

-- nothing that the stack reads begins with this token
abbrev pub IsStuck : Grammar → List Symbol → Lexeme → Type 0
IsStuck g α t = (ts : List Lexeme) (cs : List Event) → Runs g α (t ∷ ts) cs → ⊥

-- Before the token t: the stack β stands for α once the new ones of these steps are taken, and it is
-- apt.
pub record IsOpened (g : Grammar) (fs : List Facts) (α : List Symbol) (t : Lexeme)
    (old : List Event) (β : List Symbol) (new : List Event) : Type 0 where
  pub taken : List Event
  pub all : new ≡ old ++ taken
  pub opens : Opens g α t taken β
  pub apt : IsApt fs β

-- Behind these tokens: the stack β stands for α once the new ones of these steps are taken, and it is
-- apt.
pub record IsMoved (g : Grammar) (fs : List Facts) (α : List Symbol) (us : List Lexeme)
    (old : List Event) (β : List Symbol) (new : List Event) : Type 0 where
  pub taken : List Event
  pub all : new ≡ old ++ taken
  pub moves : Moves g α us taken β
  pub apt : IsApt fs β

-- what stands on the stack at the start: a form and the token that ends all
abbrev pub whole : Form → ℕ → List Symbol
whole start end = Part start ∷ Class end ∷ []

-- more steps stand behind the old ones
abbrev pub Grows : List Event → List Event → Type 0
Grows old new = (more : List Event) × (new ≡ old ++ more)
