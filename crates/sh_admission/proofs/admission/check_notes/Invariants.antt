use Rattle.std.proofs.Common.{◌≡◌, List, take}
use Rattle.sh_base.specs.declared.places.Refusal.{Refusal}
use Rattle.sh_admission.specs.Found.{AreNoteFaults}
use Rattle.sh_admission.specs.Least.{by_place, least_of}
use Rattle.sh_admission.proofs.admission.check_notes.Given as goal

-- it is the least of those of the operations so far
abbrev pub invariant-loop-op : goal.invariant-loop-op
invariant-loop-op l =
    (faults : List Refusal) × AreNoteFaults l.table l.ops (take l.op-index l.ops) faults
    × (l.found ≡ least_of by_place l.fn.least faults)
