use Rattle.std.proofs.Common.{◌≡◌, take}
use Rattle.sh_print.specs.Pages.{written}
use Rattle.sh_print.specs.Spellings.{rest_of_list}
use Rattle.sh_print.specs.Tokens.{value_in}
use Rattle.sh_print.proofs.phrases.more_values.Given as goal

abbrev pub invariant-loop-id : goal.invariant-loop-id
invariant-loop-id l =
    l.printer ≡ written l.initial.printer (rest_of_list (value_in l.scope) (take l.id-index l.ids))
