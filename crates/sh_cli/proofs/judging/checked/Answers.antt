use Rattle.std.proofs.Common.{sym}
use Rattle.sh_cli.specs.Answer.IsTurnedDown.{over_limit, with_call}
use Rattle.sh_cli.specs.Judging.{TurnsDown}
use Rattle.sh_cli.specs.Status.{verify_status}
use Rattle.sh_cli.proofs.Judged.{not_verified, refused_by}
use Rattle.sh_cli.proofs.judging.checked.Goals as goal

pub returns-in-Err-clause-refused : goal.returns-in-Err-clause-refused
returns-in-Err-clause-refused c = over_limit c.in-Err.refusal c.in-Err.ensures.refused

pub returns-then-has_call-clause-refused : goal.returns-then-has_call-clause-refused
returns-then-has_call-clause-refused c = with_call c.in_default.ensures.kept (sym c.if-has_call.ensures)

pub returns-in_err-verify-clause-refused : goal.returns-in_err-verify-clause-refused
returns-in_err-verify-clause-refused c =
    let why = c.in_err-verify.field-0.0 in
    refused_by c.from_residual.result (TurnsDown c.args.m) (verify_status why) c.from_residual.ensures.1
    (not_verified c.args.m why c.in_default.ensures.kept (sym c.if-has_call.ensures) c.in_err-verify.ensures.refused)
