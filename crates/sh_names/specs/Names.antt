-- Names: what each token of a text says of them, which names are one, and their numbers. All of it is
-- said of the steps of a reading, so that it is known of the tokens so far however the text goes on.
-- Functions, maps and operations are known by the numbers of their first tokens.
use Rattle.std.specs.Prelude.{ℕ, suc, List, [], ◌∷◌, ◌++◌, map, flat_map, filter, Option, Some, None, Bool, true, false, not, ◌&&◌, nat_eq, codes, if◌then◌else◌}
use Rattle.std.specs.List.{list_any, position_or_len}
use Rattle.std.specs.Cmp.Lexicographic.{pointwise}
use Rattle.sh_lex.specs.declared.tokens.TokenKind.{TokenKind}
use Rattle.sh_lex.specs.declared.tokens.TokenKind.TheVariants.{Val, At}
use Rattle.sh_grammar.specs.declared.forms.Form.{Form}
use Rattle.sh_grammar.specs.declared.forms.Form.TheVariants.{Contents, Map, Name, Device, Func, Operation, Return, Combiner, BodyOperation, GenericOperation, BlockArgument, Yield, Hash}
use Rattle.sh_grammar.specs.declared.symbols.Event.{Event}
use Rattle.sh_grammar.specs.declared.symbols.Event.TheVariants.{Took, Opened}
use Rattle.sh_grammar.specs.Lexemes.{Lexeme}
pub use Rattle.sh_names.specs.declared.scopes.Role.{Role}
pub use Rattle.sh_names.specs.declared.scopes.Role.TheVariants.{Nothing as nothing, Value as value, Own as own, Combiner as combiner, Word as word, NewAlias as new_alias, Alias as alias, DeviceName as device_name, FuncName as func_name}
pub use Rattle.sh_names.specs.declared.scopes.Scope.{Scope}

abbrev pub at_start : Scope
at_start = record {
  func = 0;
  op = 0;
  in_region = false;
  step = 0;
  map = 0;
  in_head = true;
  at = nothing;
  opened = None;
}

-- where the tokens of a form stand that begins with token k
abbrev pub inside : ℕ → Form → Scope → Scope
inside k Contents s = record s { in_head = false }
inside k Map s = record s { map = k }
inside k Device s = record s { at = device_name }
inside k Func s = record s { func = k; at = func_name }
inside k Operation s = record s { op = k; step = k; in_region = false }
inside k Return s = record s { op = k; step = k; in_region = false }
inside k BlockArgument s = record s { step = k; in_region = true }
inside k BodyOperation s = record s { step = k; in_region = true }
inside k GenericOperation s = record s { step = k; in_region = true }
inside k Yield s = record s { step = k; in_region = true }
inside k _ s = s

-- where the token stands behind this one
abbrev pub behind : TokenKind → Scope → Scope
behind At s = record s { at = nothing; opened = None }
behind _ s = record s { opened = None }

-- a token by its kind, where no form that is told apart begins with it
abbrev pub role_by_kind : TokenKind → Scope → Role
role_by_kind Val s = value
role_by_kind At s = s.at
role_by_kind _ s = nothing

-- a token by its kind and the form that begins with it
abbrev pub role_in : Option Form → TokenKind → Scope → Role
role_in (Some BlockArgument) kind s = own
role_in (Some BodyOperation) kind s = own
role_in (Some GenericOperation) kind s = own
role_in (Some Combiner) kind s = combiner
role_in (Some Name) kind s = word
role_in (Some Hash) kind s = if s.in_head then new_alias else alias
role_in _ kind s = role_by_kind kind s

-- What a token says of names, and where it stands.
pub record Mention : Type 0 where
  pub role : Role
  pub text : List ℕ
  pub scope : Scope

abbrev pub mention_of : Scope → Lexeme → Mention
mention_of s t = record { role = role_in s.opened t.kind s; text = t.text; scope = s }

-- the mentions of the tokens from number k on, one a token, by the steps that take them
abbrev pub mentions_from : ℕ → Scope → List Event → List Lexeme → List Mention
mentions_from k s [] ts = []
mentions_from k s (Took ∷ es) [] = []
mentions_from k s (Took ∷ es) (t ∷ ts) =
    mention_of s t ∷ mentions_from (suc k) (behind t.kind s) es ts
mentions_from k s (Opened n i size ∷ es) ts =
    mentions_from k (record (inside k n s) { opened = Some n }) es ts

abbrev pub mentions : List Event → List Lexeme → List Mention
mentions es ts = mentions_from 0 at_start es ts

-- ## Which names are one

-- A name, by what it belongs to.
pub record Owned : Type 0 where
  pub unit : ℕ  -- the function, or the map
  pub region : Option ℕ  -- the operation in whose region it is defined
  pub text : List ℕ

abbrev pub same_text : List ℕ → List ℕ → Bool
same_text a b = pointwise nat_eq a b

abbrev pub same_region : Option ℕ → Option ℕ → Bool
same_region None None = true
same_region (Some a) (Some b) = nat_eq a b
same_region _ _ = false

abbrev pub same_owned : Owned → Owned → Bool
same_owned a b =
    nat_eq a.unit b.unit && same_region a.region b.region && same_text a.text b.text

abbrev pub is_own : Role → Bool
is_own own = true
is_own _ = false

-- the mention `m` defines the name that is used at `at`: in the same region, as a block argument or by
-- another operation
abbrev pub defines_for : Mention → Mention → Bool
defines_for at m =
    is_own m.role && nat_eq m.scope.op at.scope.op && not (nat_eq m.scope.step at.scope.step)
    && same_text m.text at.text

-- a name used in a region is the region's where the region defines it, and else the function's
abbrev pub region_of_use : List Mention → Mention → Option ℕ
region_of_use before m =
    if m.scope.in_region && list_any (defines_for m) before then Some m.scope.op else None

abbrev pub value_name : Mention → Option ℕ → List ℕ → Owned
value_name m region text = record { unit = m.scope.func; region = region; text = text }

-- the names of a token: one, or the three of a combiner (the input's, the output's, the result's)
abbrev pub names_by_role : Role → List Mention → Mention → List Owned
names_by_role nothing before m = []
names_by_role value before m = value_name m (region_of_use before m) m.text ∷ []
names_by_role own before m = value_name m (Some m.scope.op) m.text ∷ []
names_by_role combiner before m =
    map (value_name m (Some m.scope.op)) (codes "input" ∷ codes "output" ∷ codes "result" ∷ [])
names_by_role word before m = record { unit = m.scope.map; region = None; text = m.text } ∷ []
names_by_role new_alias before m = []
names_by_role alias before m = []
names_by_role device_name before m = []
names_by_role func_name before m = []

-- the names of each token, behind these mentions
abbrev pub names_behind : List Mention → List Mention → List (List Owned)
names_behind before [] = []
names_behind before (m ∷ ms) = names_by_role m.role before m ∷ names_behind (before ++ m ∷ []) ms

abbrev pub names_of : List Mention → List (List Owned)
names_of ms = names_behind [] ms

-- ## Numbers

-- each once, by first occurrence
abbrev pub distinct : List Owned → List Owned
distinct [] = []
distinct (x ∷ xs) = x ∷ filter (λ y. not (same_owned x y)) (distinct xs)

-- the number of a name: its position among the distinct ones of its function or map
abbrev pub number_among : List Owned → Owned → ℕ
number_among names x =
    position_or_len (same_owned x) (filter (λ y. nat_eq y.unit x.unit) names)

-- the number of the first of these names
abbrev pub first_number : List Owned → List Owned → ℕ
first_number names [] = 0
first_number names (x ∷ xs) = number_among names x

-- the numbers of the tokens' names, one a token, and 0 where it has none
abbrev pub numbers_among : List Owned → List (List Owned) → List ℕ
numbers_among names tokens = map (first_number names) tokens

abbrev pub numbers_of : List (List Owned) → List ℕ
numbers_of tokens = numbers_among (distinct (flat_map (λ names. names) tokens)) tokens

-- ## Rules on names

abbrev pub is_new : Role → Bool
is_new new_alias = true
is_new _ = false

-- the mention is that of a new alias of this name
abbrev pub is_alias_of : List ℕ → Mention → Bool
is_alias_of text m = is_new m.role && same_text m.text text

-- a function of this name may stand behind an item of this role and text, or behind what is before it
abbrev pub fits_behind : Role → List ℕ → List ℕ → Bool → Bool
fits_behind device_name device text before = same_text device text
fits_behind func_name device text before = true
fits_behind _ device text before = before

-- whether the last device item that no function has stood behind, if there is one, is said of a function
-- of this name; the latest mention is first
abbrev pub fits_device : List ℕ → List Mention → Bool
fits_device text [] = true
fits_device text (m ∷ before) = fits_behind m.role m.text text (fits_device text before)

-- an alias has a new name, a name among maps is an alias, and the function behind a device item is the
-- one that the item names; the mentions before it are given with the latest first
abbrev pub keeps_rules : Role → List ℕ → List Mention → Bool
keeps_rules new_alias text before = not (list_any (is_alias_of text) before)
keeps_rules alias text before = list_any (is_alias_of text) before
keeps_rules func_name text before = fits_device text before
keeps_rules nothing text before = true
keeps_rules value text before = true
keeps_rules own text before = true
keeps_rules combiner text before = true
keeps_rules word text before = true
keeps_rules device_name text before = true

-- each mention keeps the rules, behind these with the latest first
abbrev pub all_keep : List Mention → List Mention → Bool
all_keep before [] = true
all_keep before (m ∷ ms) = keeps_rules m.role m.text before && all_keep (m ∷ before) ms

abbrev pub keep_rules : List Mention → Bool
keep_rules ms = all_keep [] ms
