use Rattle.std.proofs.Common.{◌≡◌, take}
use Rattle.sh_print.specs.Pages.{written}
use Rattle.sh_print.specs.Spellings.{rest_of_list}
use Rattle.sh_print.specs.Tokens as tokens
use Rattle.sh_print.proofs.items.more_parameters.Given as goal

abbrev pub invariant-loop-arg : goal.invariant-loop-arg
invariant-loop-arg l =
    l.printer
    ≡ written l.initial.printer
    (rest_of_list (tokens.parameter l.scope) (take l.arg-index l.args))
