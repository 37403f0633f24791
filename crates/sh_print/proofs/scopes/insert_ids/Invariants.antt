use Rattle.std.proofs.Common.{◌≡◌, nat_eq, take}
use Rattle.indexmap.specs.IndexSet.{insert_all}
use Rattle.sh_print.proofs.scopes.insert_ids.Given as goal

abbrev pub invariant-loop-id : goal.invariant-loop-id
invariant-loop-id l =
    l.ids.keys ≡ insert_all nat_eq l.initial.ids.keys
    (take l.id-index l.more)
