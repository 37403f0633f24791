use Rattle.std.proofs.Common.{◌≡◌, ◌∙◌, ap, false, subst, sym}
use Rattle.sh_admission.specs.Faults.{IsRefused as IsNotAdmitted}
use Rattle.sh_admission.specs.Refusals as admission
use Rattle.sh_print.specs.Tokens as print
use Rattle.sh_cli.specs.Answer.{IsPrinting}
use Rattle.sh_cli.specs.Answer.IsPrinting.{prints}
use Rattle.sh_cli.specs.Ending.{Refuses}
use Rattle.sh_cli.specs.Status.{admit_status}
use Rattle.sh_cli.specs.declared.status.Status.TheVariants.{Success}
use Rattle.sh_cli.proofs.Judged.{module_refuses, no_text_refuses, not_admitted, refused_by}
use Rattle.sh_cli.proofs.judging.printed.Goals as goal

pub returns-in_err-m-clause-err : goal.returns-in_err-m-clause-err
returns-in_err-m-clause-err c =
    let status = c.in_err-m.field-0.0 in
    refused_by c.from_residual.result (Refuses (IsPrinting c.args.text.now)) status c.from_residual.ensures.1
    (no_text_refuses c.args.text.now status c.in_err-m.ensures.refused)

pub returns-in_err-verified-clause-err : goal.returns-in_err-verified-clause-err
returns-in_err-verified-clause-err c =
    let status = c.in_err-verified.field-0.0 in
    refused_by c.from_residual-in_err-verified.result (Refuses (IsPrinting c.args.text.now)) status c.from_residual-in_err-verified.ensures.1
    (module_refuses c.args.text.now c.in_ok-m.m status c.in_ok-m.ensures.reads c.in_err-verified.ensures.refused)

pub returns-in_err-admit_module-clause-err : goal.returns-in_err-admit_module-clause-err
returns-in_err-admit_module-clause-err c =
    let why = c.in_err-admit_module.field-0.0 in
    let same : c.module.result.now ≡ c.in_ok-m.m = c.module.ensures.value ∙ c.in_ok-verified.ensures.kept in
    let refused = subst (λ m. admission.IsRefusal why m false) same c.in_err-admit_module.ensures.refused in
    refused_by c.from_residual-in_err-admit_module.result (Refuses (IsPrinting c.args.text.now)) (admit_status why)
    c.from_residual-in_err-admit_module.ensures.1
    (module_refuses c.args.text.now c.in_ok-m.m (admit_status why) c.in_ok-m.ensures.reads
    (not_admitted c.in_ok-m.m why c.in_ok-verified.ensures.sound refused))

pub returns-clause-ok : goal.returns-clause-ok
returns-clause-ok c =
    let admitted : c.module.result.now ≡ c.in_ok-m.m = c.module.ensures.value ∙ c.in_ok-verified.ensures.kept in
    let same : c.module-2.result.now ≡ c.in_ok-m.m = c.module-2.ensures.value ∙ c.in_ok-verified.ensures.kept in
    subst (IsPrinting c.args.text.now Success) (sym (c.in_ok-print.ensures ∙ ap print.text_of same))
    (prints c.in_ok-m.m c.in_ok-m.ensures.reads c.in_ok-verified.ensures.sound
    (λ r refused. c.in_ok-admit_module.ensures.kept r (subst (λ m. IsNotAdmitted m false r) (sym admitted) refused)))
