-- What accepted words mean.
use Rattle.std.specs.Prelude.{◌≡◌, true, List, Option, codes}
use Rattle.std.specs.Prelude.{option_and_then, option_map, unwrap_or}
use Rattle.std.specs.Option.{option_or}
use Rattle.sh_base.specs.declared.orders.Order.{Order}
use Rattle.sh_base.specs.declared.orders.Order.TheVariants as order
use Rattle.sh_words.specs.Words.{Text, is_given, value_in}
use Rattle.sh_words.specs.Values.{decimal_of, numbers_of, order_of, size_of, traversal_of}
use Rattle.sh_words.specs.Tables.{accepts}
use Rattle.sh_words.specs.declared.options.Tool.{Tool}
use Rattle.sh_words.specs.declared.options.Generate.{Generate}
use Rattle.sh_words.specs.declared.options.Options.{Options}

-- the value of `--turns`
abbrev pub turns_from : Option Text → Option Order
turns_from turns = option_map order.Listed (option_and_then numbers_of turns)

-- by the value of `--turns`, or else of `--order`
abbrev pub order_from : Option Text → Option Text → Order
order_from turns named =
    unwrap_or (option_or (turns_from turns) (option_and_then order_of named)) order.Round

-- by the values of `--generate` and of `--size`
abbrev pub generate_from : Option Text → Option Text → Option Generate
generate_from number size =
    option_and_then
    (λ n. option_map (λ s. record { number = n; size = s }) (option_and_then size_of size))
    (option_and_then decimal_of number)

-- the words are accepted, and these are the options that they give
pub record AreOptionsOf (t : Tool) (words : List Text) (o : Options) : Type 0 where
  pub accepted : accepts t words ≡ true
  pub propagate : o.propagate ≡ option_and_then traversal_of (value_in (codes "--propagate") words)
  pub partition : o.partition ≡ is_given (codes "--partition") words
  pub simplify : o.simplify ≡ is_given (codes "--simplify") words
  pub halo_to_shift : o.halo_to_shift ≡ is_given (codes "--halo-to-shift") words
  pub order : o.order
      ≡ order_from (value_in (codes "--turns") words) (value_in (codes "--order") words)
  pub trace : o.trace ≡ is_given (codes "--trace") words
  pub device : o.device ≡ is_given (codes "--device") words
  pub generate : o.generate
      ≡ generate_from (value_in (codes "--generate") words) (value_in (codes "--size") words)
