use Rattle.std.proofs.Common.{◌≡◌, flat_map, take}
use Rattle.sh_print.specs.Pages.{written}
use Rattle.sh_print.specs.Tokens as tokens
use Rattle.sh_print.proofs.operations.operations.Given as goal

abbrev pub invariant-loop-op : goal.invariant-loop-op
invariant-loop-op l =
    l.printer
    ≡ written l.initial.printer
    (flat_map (tokens.op_pieces l.scope) (take l.op-index l.ops))
