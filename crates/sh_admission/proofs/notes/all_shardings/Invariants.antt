use Rattle.std.proofs.Common.{◌≡◌, [], List, drop}
use Rattle.sh_admission.specs.Found.{HasShardings, Named}
use Rattle.sh_admission.specs.Notes.{shardings_in}
use Rattle.sh_admission.proofs.notes.all_shardings.Given as goal

-- with the operations to come the shardings so far are those of all
abbrev pub invariant-loop-op : goal.invariant-loop-op
invariant-loop-op l =
    (shardings : List Named) × HasShardings l.shardings.entries shardings
    × (shardings_in shardings (drop l.op-index l.ops) ≡ shardings_in [] l.ops)
