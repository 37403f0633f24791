use Rattle.std.proofs.Common.{◌≡◌, List, take}
use Rattle.sh_base.specs.declared.places.Refusal.{Refusal}
use Rattle.sh_verify.specs.CutFaults.{AreCutFaults}
use Rattle.sh_verify.specs.Least.{by_place, least_of}
use Rattle.sh_verify.proofs.cut_rules.check_cuts.Given as goal

-- it is the least of those of the functions so far
abbrev pub invariant-loop-f : goal.invariant-loop-f
invariant-loop-f l =
    (faults : List Refusal) × AreCutFaults l.tables (take l.f-index l.funcs) faults
    × (l.found ≡ least_of by_place l.fn.least faults)
