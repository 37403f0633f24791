-- What the tables of the code hold of the mentions so far.
use Rattle.std.specs.Prelude.{◌≡◌, ◌≤◌, ◌<◌, ℕ, suc, take, List, [], ◌∷◌, ◌++◌, map, flat_map, filter, fold, length, reverse, Option, Some, None, Bool, true, false, not, ◌&&◌, nat_eq, unwrap_or, option_map, if◌then◌else◌}
use Rattle.std.specs.List.{list_any}
use Rattle.indexmap.specs.IndexMap as index_map
use Rattle.indexmap.specs.IndexSet as index_set
use Rattle.sh_grammar.specs.Lexemes.{Lexeme, lexemes}
use Rattle.sh_lex.specs.declared.tokens.Token.{Token}
use Rattle.sh_grammar.specs.declared.symbols.Event.{Event}
use Rattle.sh_grammar.specs.declared.symbols.Event.TheVariants.{Took, Opened}
use Rattle.sh_names.specs.Names.{Mention, combiner, Owned, Role, Scope, distinct, fits_device, is_alias_of, is_own, keep_rules, mentions, mentions_from, names_by_role, names_of, numbers_of, same_owned, same_text}
use Rattle.sh_names.specs.declared.definers.Defined.{Defined}
use Rattle.sh_names.specs.declared.definers.Definers.{Definers}
use Rattle.sh_names.specs.declared.definers.Steps.{Steps}
use Rattle.sh_names.specs.declared.definers.Steps.TheVariants.{One, Several}
use Rattle.sh_names.specs.declared.mentions.Named.{Named}
use Rattle.sh_names.specs.declared.mentions.Named.TheVariants.{Broken, Kept}
use Rattle.sh_names.specs.declared.numbering.Name.{Name}
use Rattle.sh_names.specs.declared.numbering.Numbering.{Numbering}
use Rattle.sh_names.specs.declared.passing.Pass.{Pass}
use Rattle.sh_names.specs.declared.rules.Rules.{Rules}

-- how many tokens the steps take
abbrev pub tooks : List Event → ℕ
tooks [] = 0
tooks (Took ∷ es) = suc (tooks es)
tooks (Opened n i size ∷ es) = tooks es

-- ## Numbers

abbrev pub owned_of : Name → Owned
owned_of n = record { unit = n.unit; region = n.region; text = n.text.now }

abbrev pub names_in : Numbering → List Owned
names_in n = map owned_of n.names.keys

-- one more name, which goes last where it is new
abbrev pub with_name : List Owned → Owned → List Owned
with_name names x = if list_any (same_owned x) names then names else names ++ x ∷ []

-- how many names belong to a function or a map
abbrev pub count_in : ℕ → List Owned → ℕ
count_in unit names = length (filter (λ y. nat_eq y.unit unit) names)

-- how many it has by the table
abbrev pub count_by : {S : Type 0} → index_map.IndexMap ℕ ℕ S → ℕ → ℕ
count_by counts unit = unwrap_or (index_map.get nat_eq counts unit) 0

-- the number of each name among those before it, behind these
abbrev pub numbers_behind : List Owned → List Owned → List ℕ
numbers_behind before [] = []
numbers_behind before (x ∷ xs) = count_in x.unit before ∷ numbers_behind (before ++ x ∷ []) xs

pub record IsNumbering (n : Numbering) : Type 0 where
  pub numbers : n.numbers.items ≡ numbers_behind [] (names_in n)
  pub counts : (unit : ℕ) → count_by n.counts unit ≡ count_in unit (names_in n)

-- ## Names that regions define

-- one more step that defines a name
abbrev pub added : Option Steps → ℕ → Option Steps
added None step = Some (One step)
added (Some (One first)) step = if nat_eq first step then Some (One first) else Some Several
added (Some Several) step = Some Several

-- another step than this one is among them
abbrev pub has_other : Option Steps → ℕ → Bool
has_other None step = false
has_other (Some (One first)) step = not (nat_eq first step)
has_other (Some Several) step = true

abbrev pub is_at : ℕ → List ℕ → Defined → Bool
is_at op text name = nat_eq op name.op && same_text text name.text.now

-- the steps that define the name by the table
abbrev pub steps_at : Definers → ℕ → List ℕ → Option Steps
steps_at d op text = index_map.get_by (is_at op text) d.steps

-- the steps that define the name by the mentions so far
abbrev pub with_step : ℕ → List ℕ → Option Steps → Mention → Option Steps
with_step op text steps m =
    if is_own m.role && (nat_eq op m.scope.op && same_text text m.text)
    then added steps m.scope.step else steps

abbrev pub steps_of : ℕ → List ℕ → List Mention → Option Steps
steps_of op text ms = fold (with_step op text) None ms

-- one more step defines this name, and no other name
abbrev pub AddsStep : Definers → Definers → ℕ → List ℕ → ℕ → Type 0
AddsStep old new op text step = (other : ℕ) (name : List ℕ) → steps_at new other name
    ≡ (if nat_eq other op && same_text name text then added (steps_at old other name) step
    else steps_at old other name)

abbrev pub AreDefiners : Definers → List Mention → Type 0
AreDefiners d ms = (op : ℕ) (text : List ℕ) → steps_at d op text ≡ steps_of op text ms

abbrev pub mention : Role → List ℕ → Scope → Mention
mention role text scope = record { role = role; text = text; scope = scope }

-- the names of a combiner's region
abbrev pub combiner_names : Scope → List Owned
combiner_names scope = let m = mention combiner [] scope in names_by_role combiner [] m

abbrev pub with_names : List Owned → List Owned → List Owned
with_names names more = fold with_name names more

-- ## Rules

abbrev pub has_alias : Rules → List ℕ → Bool
has_alias r text = index_set.contains_by (λ name. same_text text name.now) r.aliases

abbrev pub device_in : Rules → Option (List ℕ)
device_in r = option_map (λ name. name.now) r.device

-- a function of this name may stand behind the device item of that one, if there is one
abbrev pub fits_by : Option (List ℕ) → List ℕ → Bool
fits_by None text = true
fits_by (Some device) text = same_text device text

-- what is known of the mentions so far, the latest first
pub record AreKept (r : Rules) (before : List Mention) : Type 0 where
  pub aliases : (text : List ℕ) → has_alias r text ≡ list_any (is_alias_of text) before
  pub device : (text : List ℕ) → fits_by (device_in r) text ≡ fits_device text before

-- ## The pass over a text

abbrev pub all_names : List Mention → List Owned
all_names ms = flat_map (λ names. names) (names_of ms)

-- the first name of each token, where it has one, is among these
abbrev pub AreThere : List Owned → List (List Owned) → Type 0
AreThere names [] = Unit {0}
AreThere names ([] ∷ tokens) = AreThere names tokens
AreThere names ((x ∷ xs) ∷ tokens) = (list_any (same_owned x) names ≡ true) × AreThere names tokens

-- what is known of the mentions so far, all of which keep the rules
pub record IsPassing (p : Pass) (ms : List Mention) : Type 0 where
  pub numbering : IsNumbering p.numbers.numbering
  pub names : names_in p.numbers.numbering ≡ distinct (all_names ms)
  pub definers : AreDefiners p.numbers.definers ms
  pub known : AreKept p.rules (reverse ms)
  pub keep : keep_rules ms ≡ true
  pub are_there : AreThere (distinct (all_names ms)) (names_of ms)
  pub count : length p.ids.items ≡ length ms
  pub ids : p.ids.items ≡ numbers_of (names_of ms)

-- each token is a part of the text
abbrev pub AreWithin : List ℕ → List Token → Type 0
AreWithin text [] = Unit {0}
AreWithin text (t ∷ ts) = ((t.start ≤ t.end) × (t.end ≤ length text)) × AreWithin text ts

-- the answer for these steps and tokens
abbrev pub IsPassed : List Event → List Lexeme → Named → Type 0
IsPassed es ts (Kept ids) =
    (keep_rules (mentions es ts) ≡ true) × (ids.items ≡ numbers_of (names_of (mentions es ts)))
IsPassed es ts (Broken at) =
    (keep_rules (take at (mentions es ts)) ≡ true)
    × (keep_rules (take (suc at) (mentions es ts)) ≡ false) × (at < length (mentions es ts))

-- So far has the pass come: these steps and tokens are left.
pub record IsAlong (text : List ℕ) (tokens : List Token) (events : List Event) (p : Pass)
    (scope : Scope) (es : List Event) (ts : List Token) : Type 0 where
  pub seen : List Mention
  pub passing : IsPassing p seen
  pub all : seen ++ mentions_from (length p.ids.items) scope es (lexemes text ts)
      ≡ mentions events (lexemes text tokens)
  pub within : AreWithin text ts
