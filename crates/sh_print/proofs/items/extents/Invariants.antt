use Rattle.std.proofs.Common.{◌≡◌, length}
use Rattle.sh_print.specs.Pages.{written}
use Rattle.sh_print.specs.Tokens as tokens
use Rattle.sh_print.proofs.items.extents.Given as goal

abbrev pub invariant-loop-extent : goal.invariant-loop-extent
invariant-loop-extent l =
    written l.printer (tokens.extents l.left) ≡ written l.initial.printer (tokens.extents l.extents)

abbrev pub decreases-loop-extent : goal.decreases-loop-extent
decreases-loop-extent l = length l.left
