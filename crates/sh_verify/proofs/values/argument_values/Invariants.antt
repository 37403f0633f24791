use Rattle.std.proofs.Common.{◌≡◌, [], List, drop}
use Rattle.sh_ir.specs.Scope.{Value, with_args}
use Rattle.sh_verify.specs.Tables.{HasValues}
use Rattle.sh_verify.proofs.values.argument_values.Given as goal

-- with the arguments to come the values so far are those of all
abbrev pub invariant-loop-arg : goal.invariant-loop-arg
invariant-loop-arg l =
    (values : List Value) × HasValues l.values.entries values
    × (with_args values (drop l.arg-index l.args) ≡ with_args [] l.args)
