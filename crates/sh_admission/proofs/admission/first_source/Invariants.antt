use Rattle.std.proofs.Common.{◌≡◌, drop}
use Rattle.sh_admission.specs.Faults.{first_source}
use Rattle.sh_admission.proofs.admission.first_source.Given as goal

-- the functions to come decide
abbrev pub invariant-loop-f : goal.invariant-loop-f
invariant-loop-f l = first_source (drop l.f-index l.funcs) ≡ first_source l.funcs
