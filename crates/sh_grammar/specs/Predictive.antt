-- The test that a table of choices serves a grammar: one token ahead tells which alternative to
-- take.
use Rattle.std.specs.Prelude.{ℕ, suc, ◌+◌, Bool, true, false, cond, nat_eq, nat_lt, List, [], ◌∷◌, ◌++◌, get_or}
use Rattle.sh_grammar.specs.declared.forms.Form.{Form}
use Rattle.sh_grammar.specs.declared.symbols.Symbol.{Symbol}
use Rattle.sh_grammar.specs.declared.symbols.Symbol.TheVariants.{Class, Part}
use Rattle.sh_grammar.specs.Lexemes.{class_count}
use Rattle.sh_grammar.specs.Forms.{number, all_forms}
use Rattle.sh_grammar.specs.Grammar.{Grammar, is_operation}

-- for each form a row: by the class of the next token 0 where nothing fits, else the alternative's
-- number and 1
abbrev pub Table : Type 0
Table = List (List ℕ)

abbrev pub choice : Table → Form → ℕ → ℕ
choice table n c = get_or (get_or table (number n) []) c 0

-- What is known of a form: whether it may be empty, whether an operation may begin where it begins,
-- the classes that may begin it and that may follow it, and two weights, by which it doesn't begin
-- with itself and has an end.
pub record Facts : Type 0 where
  pub empty : Bool
  pub begins : Bool
  pub first : List ℕ
  pub follow : List ℕ
  pub weight : ℕ
  pub depth : ℕ

unfoldable pub no_facts : Facts
no_facts = record { empty = false; begins = false; first = []; follow = []; weight = 0; depth = 0 }

abbrev pub facts_of : List Facts → Form → Facts
facts_of fs n = get_or fs (number n) no_facts

-- `&&`, `||` and `!a || b` that stay as written in a proof until it unfolds them
infixl 35 ◌&◌
unfoldable pub ◌&◌ : Bool → Bool → Bool
true & b = b
false & b = false

infixl 30 ◌or◌
unfoldable pub ◌or◌ : Bool → Bool → Bool
true or b = true
false or b = b

unfoldable pub only_if : Bool → Bool → Bool
only_if true b = b
only_if false b = true

abbrev pub has : List ℕ → ℕ → Bool
has [] c = false
has (d ∷ ds) c = nat_eq d c or has ds c

-- each of the items passes
abbrev pub each : {X : Type 0} → (X → Bool) → List X → Bool
each p [] = true
each p (d ∷ ds) = p d & each p ds

-- some item passes
abbrev pub some : {X : Type 0} → (X → Bool) → List X → Bool
some p [] = false
some p (d ∷ ds) = p d or some p ds

abbrev pub may_be_empty : List Facts → List Symbol → Bool
may_be_empty fs [] = true
may_be_empty fs (Class c ∷ α) = false
may_be_empty fs (Part n ∷ α) = (facts_of fs n).empty & may_be_empty fs α

-- an operation may begin where the row begins
abbrev pub may_begin_operation : List Facts → List Symbol → Bool
may_begin_operation fs [] = false
may_begin_operation fs (Class c ∷ α) = false
may_begin_operation fs (Part n ∷ α) =
    (facts_of fs n).begins or (facts_of fs n).empty & may_begin_operation fs α

abbrev pub firsts : List Facts → List Symbol → List ℕ
firsts fs [] = []
firsts fs (Class c ∷ α) = c ∷ []
firsts fs (Part n ∷ α) = (facts_of fs n).first ++ cond (facts_of fs n).empty (firsts fs α) []

abbrev pub weight_of : List Facts → List Symbol → ℕ
weight_of fs [] = 0
weight_of fs (Class c ∷ α) = 0
weight_of fs (Part n ∷ α) = (facts_of fs n).weight + cond (facts_of fs n).empty (weight_of fs α) 0

-- what comes behind each form in an alternative of the form n is in what may follow it, and classes
-- are classes of tokens
abbrev pub follows_fit : List Facts → Form → List Symbol → Bool
follows_fit fs n [] = true
follows_fit fs n (Class c ∷ α) = nat_lt c class_count & follows_fit fs n α
follows_fit fs n (Part m ∷ α) =
    each (has (facts_of fs m).follow) (firsts fs α)
    & only_if (may_be_empty fs α) (each (has (facts_of fs m).follow) (facts_of fs n).follow)
    & follows_fit fs n α

-- the table takes the alternative i of the form n at each of the classes
abbrev pub takes_at : Table → Form → ℕ → List ℕ → Bool
takes_at table n i cs = each (λ c. nat_eq (choice table n c) (suc i)) cs

abbrev pub alternative_fits : Table → List Facts → Form → ℕ → List Symbol → Bool
alternative_fits table fs n i body =
    only_if (may_be_empty fs body) ((facts_of fs n).empty)
    & only_if (may_begin_operation fs body) ((facts_of fs n).begins)
    & each (has (facts_of fs n).first) (firsts fs body)
    & takes_at table n i (firsts fs body)
    & only_if (may_be_empty fs body) (takes_at table n i (facts_of fs n).follow)
    & nat_lt (weight_of fs body) (facts_of fs n).weight
    & follows_fit fs n body

abbrev pub alternatives_fit : Table → List Facts → Form → ℕ → List (List Symbol) → Bool
alternatives_fit table fs n i [] = true
alternatives_fit table fs n i (body ∷ bodies) =
    alternative_fits table fs n i body & alternatives_fit table fs n (suc i) bodies

-- each form in it has a smaller depth
abbrev pub is_shallower : List Facts → ℕ → List Symbol → Bool
is_shallower fs d [] = true
is_shallower fs d (Class c ∷ α) = is_shallower fs d α
is_shallower fs d (Part m ∷ α) = nat_lt (facts_of fs m).depth d & is_shallower fs d α

-- Each alternative fits, some alternative has an end, the form is empty only where an alternative
-- is, and an operation
-- begins it exactly where it is one, or begins an alternative.
abbrev pub form_fits : Grammar → Table → List Facts → Form → Bool
form_fits g table fs n =
    alternatives_fit table fs n 0 (g n)
    & some (is_shallower fs (facts_of fs n).depth) (g n)
    & only_if ((facts_of fs n).empty) (some (may_be_empty fs) (g n))
    & only_if (is_operation n) ((facts_of fs n).begins)
    & only_if ((facts_of fs n).begins) (is_operation n or some (may_begin_operation fs) (g n))

abbrev pub is_predictive : Grammar → Table → List Facts → Bool
is_predictive g table fs = each (form_fits g table fs) all_forms

-- the row lacks this class
abbrev pub lacks : ℕ → List Symbol → Bool
lacks c [] = true
lacks c (Class d ∷ α) = cond (nat_eq c d) false (lacks c α)
lacks c (Part n ∷ α) = lacks c α

-- the same, the class that ends all may follow the form that stands for all, and it stands nowhere
-- else
abbrev pub serves : Grammar → Table → List Facts → Form → ℕ → Bool
serves g table fs start end =
    is_predictive g table fs
    & has (facts_of fs start).follow end
    & nat_lt end class_count
    & each (λ n. each (lacks end) (g n)) all_forms
