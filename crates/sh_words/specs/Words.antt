-- A word is `--name` or `--name=value`, and no name is given twice.
use Rattle.std.specs.Prelude.{◌==◌, ◌&&◌, ℕ, Bool, true, not, List, [], ◌∷◌, Option, Some, None}
use Rattle.std.specs.Prelude.{if◌then◌else◌, find, option_and_then}
use Rattle.std.specs.List.{list_any, before_first, after_first}
use Rattle.std.specs.Str.{bytes_eq}

abbrev pub Text : Type 0
Text = List ℕ

abbrev pub is_equals : ℕ → Bool
is_equals b = b == 61

-- what stands before the first `=`, with its two dashes
abbrev pub name_of : Text → Text
name_of word = before_first is_equals word

-- what stands after the first `=`
abbrev pub value_of : Text → Option Text
value_of word = if list_any is_equals word then Some (after_first is_equals word) else None

abbrev pub has_name : Text → Text → Bool
has_name name word = bytes_eq (name_of word) name

-- the word of this name is there
abbrev pub is_given : Text → List Text → Bool
is_given name words = list_any (has_name name) words

-- no name is given twice
abbrev pub names_once : List Text → Bool
names_once [] = true
names_once (word ∷ rest) = not (is_given (name_of word) rest) && names_once rest

-- the value of the option of this name
abbrev pub value_in : Text → List Text → Option Text
value_in name words = option_and_then value_of (find (has_name name) words)
