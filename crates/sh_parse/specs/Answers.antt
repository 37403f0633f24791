-- What the answer to a list of tokens has to be, and how it is put together.
use Rattle.std.specs.Prelude.{◌≡◌, ℕ, List, [], drop, take, Bool, true, false}
use Rattle.std.specs.List.{prefix_len}
use Rattle.sh_build.specs.Building.{parts_by}
use Rattle.sh_build.specs.Readings.{aliases_in}
use Rattle.sh_build.specs.Rows.{first_part}
use Rattle.sh_build.specs.declared.parts.Alias.{Alias}
use Rattle.sh_build.specs.declared.parts.Part.{Part}
use Rattle.sh_grammar.specs.Grammar.{Trees, events}
use Rattle.sh_grammar.specs.Language.{IsFile}
use Rattle.sh_grammar.specs.Lexemes.{Lexeme}
use Rattle.sh_grammar.specs.declared.forms.Form.TheVariants.{Contents}
use Rattle.sh_grammar.specs.declared.symbols.Event.{Event}
use Rattle.sh_grammar.specs.declared.symbols.Event.TheVariants.{Opened}
use Rattle.sh_parse.specs.Reads.{IsRefusedAt, leaves}
use Rattle.sh_parse.specs.declared.refusals.ParseRefusal.{ParseRefusal}
use Rattle.sh_parse.specs.declared.refusals.ParseRefusal.TheVariants.{At, Mem}

-- the tokens are refused so, at the first one that no reading goes on from, with its place and code
abbrev pub IsRefusal : List Lexeme → ParseRefusal → Type 0
IsRefusal ts (At r) = (i : ℕ) × (t : Lexeme) × IsRefusedAt ts i t r.rule × (r.place ≡ t.place)
IsRefusal ts Mem = Unit {0}

-- ## A file by its steps

-- These are the steps of a file.
pub record IsFileBy (ts : List Lexeme) (es : List Event) : Type 0 where
  pub trees : Trees
  pub file : IsFile ts trees
  pub takes : events trees ≡ es

-- the contents of the file don't begin here
abbrev pub is_before : Event → Bool
is_before (Opened Contents i size) = false
is_before _ = true

-- the steps of the aliases, which stand between the first step and the contents
abbrev pub head_in : List Event → List Event
head_in es = take (prefix_len is_before (drop 1 es)) (drop 1 es)

abbrev pub aliases_by : List Lexeme → List ℕ → List Event → List Alias
aliases_by ts ids es = aliases_in (first_part (parts_by (head_in es) (leaves [] ts ids) []))

-- what the tokens stand for, by the steps that take them
abbrev pub part_by : List Lexeme → List ℕ → List Event → Part
part_by ts ids es = first_part (parts_by es (leaves (aliases_by ts ids es) ts ids) [])
