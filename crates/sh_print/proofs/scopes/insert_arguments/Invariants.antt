use Rattle.std.proofs.Common.{◌≡◌, map, nat_eq, take}
use Rattle.indexmap.specs.IndexSet.{insert_all}
use Rattle.sh_print.proofs.scopes.insert_arguments.Given as goal

abbrev pub invariant-loop-arg : goal.invariant-loop-arg
invariant-loop-arg l =
    l.ids.keys ≡ insert_all nat_eq l.initial.ids.keys
    (map (λ arg. arg.id) (take l.arg-index l.args))
