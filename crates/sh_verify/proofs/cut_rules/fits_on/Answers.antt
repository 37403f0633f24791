use Rattle.std.proofs.Common.{subst}
use Rattle.std.specs.Prelude.{◌↔◌, IsTrue}
use Rattle.std.specs.List.{AllByRecursion}
use Rattle.sh_verify.specs.CutFaults.{IsCutAdmitted}
use Rattle.sh_verify.proofs.CutLaws.{args_refused, refused_when, results_refused}
use Rattle.sh_verify.proofs.cut_rules.fits_on.Goals as goal

pub returns-then-not-branch : goal.returns-then-not-branch
returns-then-not-branch c =
    args_refused c.args.g.now c.args.f.now c.args.carry.now
    (refused_when c.in_ok-are_admitted.field-0 (AllByRecursion (IsCutAdmitted c.args.g.now) c.args.carry.now.args)
    (subst (λ cuts. IsTrue c.in_ok-are_admitted.field-0 ↔ AllByRecursion (IsCutAdmitted c.args.g.now) cuts) c.as_slice-args.ensures
    c.in_ok-are_admitted.ensures) c.if-not-branch.true)

pub returns-then-not-branch-2 : goal.returns-then-not-branch-2
returns-then-not-branch-2 c =
    results_refused c.args.g.now c.args.f.now c.args.carry.now
    (refused_when c.in_ok-are_admitted-2.field-0 (AllByRecursion (IsCutAdmitted c.args.g.now) c.args.carry.now.results)
    (subst (λ cuts. IsTrue c.in_ok-are_admitted-2.field-0 ↔ AllByRecursion (IsCutAdmitted c.args.g.now) cuts) c.as_slice-results.ensures
    c.in_ok-are_admitted-2.ensures) c.if-not-branch-2.true)
