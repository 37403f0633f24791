use Rattle.std.proofs.Common.{◌≡◌, flat_map, take}
use Rattle.sh_print.specs.Pages.{written}
use Rattle.sh_print.specs.Tokens as tokens
use Rattle.sh_print.proofs.regions.body_ops.Given as goal

abbrev pub invariant-loop-op : goal.invariant-loop-op
invariant-loop-op l =
    l.printer
    ≡ written l.initial.printer
    (flat_map (tokens.body_op_pieces l.own l.outer) (take l.op-index l.ops))
