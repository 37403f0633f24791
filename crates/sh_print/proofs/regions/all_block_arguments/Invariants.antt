use Rattle.std.proofs.Common.{◌≡◌, drop}
use Rattle.sh_print.specs.Pages.{written}
use Rattle.sh_print.specs.Tokens as tokens
use Rattle.sh_print.proofs.regions.all_block_arguments.Given as goal

abbrev pub invariant-loop-at : goal.invariant-loop-at
invariant-loop-at l =
    written l.printer (tokens.more_block_arguments l.at (drop l.at l.widths))
    ≡ written l.initial.printer (tokens.more_block_arguments 0 l.widths)
