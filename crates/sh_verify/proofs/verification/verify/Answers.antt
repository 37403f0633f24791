use mathlib.Core.Path.{◌∙◌, sym}
use Rattle.sh_verify.proofs.VerifiedLaws.{least_fault, verified_by}
use Rattle.sh_verify.proofs.verification.verify.Goals as goal

pub new-requires : goal.new-requires
new-requires c =
    let found = c.in_ok-check_module.ensures in
    verified_by c.args.m found.0 c.requires.formed c.requires.within found.1 (sym found.2 ∙ c.in-None.is)

pub returns-in-Some-clause-refused : goal.returns-in-Some-clause-refused
returns-in-Some-clause-refused c =
    let found = c.in_ok-check_module.ensures in
    least_fault c.args.m found.0 c.in-Some.refusal c.order_is_total.ensures found.1 (sym found.2 ∙ c.in-Some.is)
