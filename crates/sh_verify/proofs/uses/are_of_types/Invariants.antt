use Rattle.std.proofs.Common.{◌≡◌, drop}
use Rattle.sh_ir.specs.Typing.{are_of_types}
use Rattle.sh_verify.proofs.uses.are_of_types.Given as goal

-- the types to come decide
abbrev pub invariant-loop-at : goal.invariant-loop-at
invariant-loop-at l =
    are_of_types l.context.values (drop l.at l.types) (drop l.at l.names) ≡ are_of_types l.context.values l.types l.names
