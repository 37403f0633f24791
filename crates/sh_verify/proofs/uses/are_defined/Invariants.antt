use Rattle.std.proofs.Common.{◌≡◌, drop}
use Rattle.std.specs.List.{list_all}
use Rattle.sh_ir.specs.Scope.{is_defined}
use Rattle.sh_verify.proofs.uses.are_defined.Given as goal

-- the names to come decide
abbrev pub invariant-loop-name : goal.invariant-loop-name
invariant-loop-name l =
    list_all (is_defined l.context.values) (drop l.name-index l.names) ≡ list_all (is_defined l.context.values) l.names
