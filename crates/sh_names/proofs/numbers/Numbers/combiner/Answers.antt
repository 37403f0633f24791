use Rattle.std.proofs.Common.{◌∙◌, ap, sym}
use Rattle.sh_names.specs.Names.{number_among}
use Rattle.sh_names.specs.Tables.{names_in, owned_of}
use Rattle.sh_names.proofs.Numbered.{first_of_three}
use Rattle.sh_names.proofs.numbers.Numbers.combiner.Goals as goal

pub returns-clause-number : goal.returns-clause-number
returns-clause-number c =
    c.in_ok-input.ensures.number
    ∙ sym (first_of_three (owned_of c.value_name.result) (owned_of c.value_name-2.result) (owned_of c.value_name-3.result) (names_in c.args.self.now.numbering)
    (names_in c.number.new.self) (names_in c.number-2.new.self) (names_in c.number-3.new.self)
    c.in_ok-input.ensures.names c.in_ok-number.ensures.names c.in_ok-number-2.ensures.names)
    ∙ ap (number_among (names_in c.number-3.new.self)) c.value_name.ensures
