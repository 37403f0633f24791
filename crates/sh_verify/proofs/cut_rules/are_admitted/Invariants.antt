use Rattle.std.proofs.Common.{drop}
use Rattle.std.specs.List.{AllByRecursion}
use Rattle.sh_verify.specs.CutFaults.{IsCutAdmitted}
use Rattle.sh_verify.proofs.CutLaws.{Decides}
use Rattle.sh_verify.proofs.cut_rules.are_admitted.Given as goal

-- the cuts to come decide
abbrev pub invariant-loop-cut : goal.invariant-loop-cut
invariant-loop-cut l = Decides (IsCutAdmitted l.g) (drop l.cut-index l.cuts) (AllByRecursion (IsCutAdmitted l.g) l.cuts)
