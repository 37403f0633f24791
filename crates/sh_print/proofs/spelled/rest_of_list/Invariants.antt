use Rattle.std.proofs.Common.{◌≡◌, take}
use Rattle.sh_print.specs.Pages.{written}
use Rattle.sh_print.specs.Spellings.{rest_of_list}
use Rattle.sh_print.proofs.spelled.rest_of_list.Given as goal

abbrev pub invariant-loop-item : goal.invariant-loop-item
invariant-loop-item g l =
    l.printer
    ≡ written l.initial.printer
    (rest_of_list g.T.Spelled.pieces (take l.item-index l.items))
