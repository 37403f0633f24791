-- The table of words of each program, and which words it accepts.
use Rattle.std.specs.Prelude.{◌&&◌, ◌||◌, Bool, true, false, not, List, [], ◌∷◌, Option, is_some}
use Rattle.std.specs.Prelude.{codes, if◌then◌else◌, find, option_map}
use Rattle.std.specs.List.{list_all}
use Rattle.std.specs.Option.{option_map_or}
use Rattle.std.specs.Str.{bytes_eq}
use Rattle.sh_words.specs.Words.{Text, is_given, name_of, names_once, value_of}
use Rattle.sh_words.specs.Values.{decimal_of, numbers_of, order_of, size_of, traversal_of}
use Rattle.sh_words.specs.declared.options.Tool.{Tool}
use Rattle.sh_words.specs.declared.options.Tool.TheVariants as tool
use Rattle.sh_words.specs.declared.acceptance.Form.{Form}
use Rattle.sh_words.specs.declared.acceptance.Form.TheVariants as form

-- the names without their dashes, and what follows each
abbrev pub forms : Tool → List (Text × Form)
forms tool.Opt =
    (codes "propagate", form.Traversal)
    ∷ (codes "partition", form.Flag)
    ∷ (codes "simplify", form.Flag)
    ∷ (codes "halo-to-shift", form.Flag)
    ∷ []
forms tool.Run =
    (codes "order", form.Order)
    ∷ (codes "turns", form.Turns)
    ∷ (codes "trace", form.Flag)
    ∷ (codes "device", form.Flag)
    ∷ (codes "generate", form.Decimal)
    ∷ (codes "size", form.Size)
    ∷ []

-- the text is a value of the form
abbrev pub has_form : Form → Text → Bool
has_form form.Flag text = false
has_form form.Traversal text = is_some (traversal_of text)
has_form form.Order text = is_some (order_of text)
has_form form.Turns text = is_some (numbers_of text)
has_form form.Decimal text = is_some (decimal_of text)
has_form form.Size text = is_some (size_of text)

abbrev pub takes_value : Form → Bool
takes_value form.Flag = false
takes_value form.Traversal = true
takes_value form.Order = true
takes_value form.Turns = true
takes_value form.Decimal = true
takes_value form.Size = true

-- a flag has no value, and an option has one of its form
abbrev pub fits : Form → Option Text → Bool
fits f value = option_map_or (has_form f) value (not (takes_value f))

abbrev pub form_named : Tool → Text → Option Form
form_named t name =
    option_map (λ f. f.1) (find (λ f. bytes_eq name (45 ∷ 45 ∷ f.0)) (forms t))

-- the word is of the table
abbrev pub is_word : Tool → Text → Bool
is_word t word = option_map_or (λ f. fits f (value_of word)) (form_named t (name_of word)) false

-- `--turns` excludes `--order`
abbrev pub has_one_order : List Text → Bool
has_one_order words = not (is_given (codes "--turns") words && is_given (codes "--order") words)

-- `--generate` and `--size` come together
abbrev pub has_both_or_none : List Text → Bool
has_both_or_none words =
    if is_given (codes "--generate") words then is_given (codes "--size") words
    else not (is_given (codes "--size") words)

abbrev pub is_of_a_run : List Text → Bool
is_of_a_run words =
    is_given (codes "--turns") words
    || (is_given (codes "--trace") words
    || is_given (codes "--device") words)

-- they exclude `--turns`, `--trace` and `--device`
abbrev pub generates_alone : List Text → Bool
generates_alone words = not (is_given (codes "--generate") words && is_of_a_run words)

-- no word excludes another, and none is missing
abbrev pub agree : List Text → Bool
agree words = has_one_order words && (has_both_or_none words && generates_alone words)

-- each word is of the table, no name is given twice, and the words agree
abbrev pub accepts : Tool → List Text → Bool
accepts t words = list_all (is_word t) words && (names_once words && agree words)
