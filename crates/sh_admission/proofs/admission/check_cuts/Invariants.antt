use Rattle.std.proofs.Common.{◌≡◌, List, take}
use Rattle.sh_base.specs.declared.places.Refusal.{Refusal}
use Rattle.sh_admission.specs.Found.{AreCutFaults}
use Rattle.sh_admission.specs.Least.{by_place, least_of}
use Rattle.sh_admission.proofs.admission.check_cuts.Given as goal

-- it is the least of those of the cuts so far
abbrev pub invariant-loop-cut : goal.invariant-loop-cut
invariant-loop-cut l =
    (faults : List Refusal) × AreCutFaults l.table l.fn.place (take l.cut-index l.cuts) faults
    × (l.found ≡ least_of by_place l.fn.least faults)
