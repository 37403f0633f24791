use Rattle.std.proofs.Common.{◌≡◌, map, nat_eq, take}
use Rattle.indexmap.specs.IndexSet.{insert_all}
use Rattle.sh_print.proofs.scopes.insert_body_values.Given as goal

abbrev pub invariant-loop-op : goal.invariant-loop-op
invariant-loop-op l =
    l.ids.keys ≡ insert_all nat_eq l.initial.ids.keys
    (map (λ op. op.defines) (take l.op-index l.ops))
