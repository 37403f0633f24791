-- What clap is given for a table of words.
use Rattle.std.specs.Prelude.{Bool, true, false, not, List, ◌∷◌, Some, is_some, codes}
use Rattle.std.specs.Prelude.{fold, find, map, if◌then◌else◌}
use Rattle.std.specs.Option.{option_map_or}
use Rattle.clap.specs.declared.builder.ArgAction.TheVariants.{Set, SetTrue}
use Rattle.clap.specs.Words.{App, Rule, new_app, new_rule, with_rule}
use Rattle.sh_words.specs.Words.{Text, has_name, value_of}
use Rattle.sh_words.specs.Tables.{forms, takes_value}
use Rattle.sh_words.specs.declared.options.Tool.{Tool}
use Rattle.sh_words.specs.declared.options.Tool.TheVariants as tool
use Rattle.sh_words.specs.declared.acceptance.Form.{Form}

-- a name without its dashes, and whether it takes a value
abbrev pub Entry : Type 0
Entry = Text × Bool

abbrev pub raw_rule : Entry → Rule
raw_rule e =
    record (new_rule e.0) { long = Some e.0; action = Some (if e.1 then Set else SetTrue) }

-- a command that reads no program's name and has no help
abbrev pub bare_app : Text → App
bare_app name =
    record (new_app name) {
      top = record (new_app name).top { no_binary_name = true; disable_help_flag = true };
    }

abbrev pub app_for : Text → List Entry → App
app_for name table = fold (λ a e. with_rule a (raw_rule e)) (bare_app name) table

-- the word is of the table, with a value just where its entry takes one
abbrev pub named_by : Text → Entry → Bool
named_by word e = has_name (45 ∷ 45 ∷ e.0) word

abbrev pub fits_entry : Text → Entry → Bool
fits_entry word e = if e.1 then is_some (value_of word) else not (is_some (value_of word))

abbrev pub is_shaped : List Entry → Text → Bool
is_shaped table word = option_map_or (fits_entry word) (find (named_by word) table) false

-- the table of each program

abbrev pub entry_of : Text × Form → Entry
entry_of f = (f.0, takes_value f.1)

abbrev pub entries : Tool → List Entry
entries t = map entry_of (forms t)

abbrev pub tool_name : Tool → Text
tool_name tool.Opt = codes "shard-opt"
tool_name tool.Run = codes "shard-run"

abbrev pub tool_app : Tool → App
tool_app t = app_for (tool_name t) (entries t)
