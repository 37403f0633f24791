use Rattle.std.proofs.Common.{◌≡◌, None, drop}
use Rattle.sh_eval.specs.Stores.{values_in}
use Rattle.sh_eval.specs.Uses.{changed_at, ends_at, uses_in}
use Rattle.sh_eval.proofs.uses.forget_names.Given as goal

abbrev pub invariant-loop-name : goal.invariant-loop-name
invariant-loop-name l =
    changed_at (ends_at (drop l.name-index l.names) (uses_in l.uses) l.at) None (values_in l.store)
    ≡ changed_at (ends_at l.names (uses_in l.uses) l.at) None (values_in l.initial.store)
