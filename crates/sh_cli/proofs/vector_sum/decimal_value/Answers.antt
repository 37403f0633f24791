use Rattle.std.proofs.Common.{◌∙◌, ap}
use Rattle.std.proofs.lemmas.Fmt.{IsAscii-decimal, parse-decimal}
use Rattle.std.proofs.lemmas.Str.{IsUtf8-from_ascii}
use Rattle.std.specs.Result.{result_ok}
use Rattle.sh_cli.proofs.vector_sum.decimal_value.Goals as goal

pub returns-in-Ok : goal.returns-in-Ok
returns-in-Ok c = λ n small e.
    let parsed = parse-decimal 64 n _ c.parse.result small small (c.in-Ok.ensures.cases.0 ∙ e) c.parse.ensures.value.0 in
    c.ok.ensures.value ∙ ap result_ok parsed

pub returns-in-Err : goal.returns-in-Err
returns-in-Err c = λ n small e. absurd (c.in-Err.ensures.cases.0 (rw e (IsUtf8-from_ascii _ (IsAscii-decimal n small))))
