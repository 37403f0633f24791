use Rattle.std.proofs.Common.{◌≡◌, [], List, drop}
use Rattle.sh_ir.specs.RegionRules.{with_block}
use Rattle.sh_ir.specs.Scope.{Value}
use Rattle.sh_verify.specs.OwnValues.{HasOwn}
use Rattle.sh_verify.proofs.own_values.block_values.Given as goal

-- with the arguments to come the values so far are those of all
abbrev pub invariant-loop-at : goal.invariant-loop-at
invariant-loop-at l =
    (own : List Value) × HasOwn l.own.entries own
    × (with_block own (drop l.at l.names) (drop l.at l.widths) ≡ with_block [] l.names l.widths)
