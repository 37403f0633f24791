use Rattle.std.proofs.Common.{◌≡◌, flat_map, option_to_list, nat_eq, take}
use Rattle.indexmap.specs.IndexSet.{insert_all}
use Rattle.sh_print.proofs.scopes.insert_values.Given as goal

abbrev pub invariant-loop-op : goal.invariant-loop-op
invariant-loop-op l =
    l.ids.keys ≡ insert_all nat_eq l.initial.ids.keys
    (flat_map (λ op. option_to_list op.defines) (take l.op-index l.ops))
