use Rattle.std.proofs.Common.{◌≡◌, List, take}
use Rattle.std.specs.Prelude.{None}
use Rattle.sh_base.specs.declared.places.Refusal.{Refusal}
use Rattle.sh_admission.specs.Found.{AreModuleFaults}
use Rattle.sh_admission.specs.Least.{by_place, least_of}
use Rattle.sh_admission.proofs.admission.check_funcs.Given as goal

-- it is the least of those of the functions so far
abbrev pub invariant-loop-f : goal.invariant-loop-f
invariant-loop-f l =
    (faults : List Refusal) × AreModuleFaults l.table (take l.f-index l.funcs) faults
    × (l.found ≡ least_of by_place None faults)
