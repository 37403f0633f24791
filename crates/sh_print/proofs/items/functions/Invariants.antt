use Rattle.std.proofs.Common.{◌≡◌, flat_map, take}
use Rattle.sh_print.specs.Pages.{written}
use Rattle.sh_print.specs.Tokens as tokens
use Rattle.sh_print.proofs.items.functions.Given as goal

abbrev pub invariant-loop-it : goal.invariant-loop-it
invariant-loop-it l =
    l.printer ≡ written l.initial.printer (flat_map tokens.func_pieces (take l.it-index l.funcs))
