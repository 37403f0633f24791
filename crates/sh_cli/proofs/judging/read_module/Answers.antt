use Rattle.std.proofs.Common.{subst, sym}
use Rattle.sh_lex.specs.Tokens.{HasTokens}
use Rattle.sh_cli.specs.Judging.{IsNoModule}
use Rattle.sh_cli.specs.Status.{lex_status, parse_status}
use Rattle.sh_cli.proofs.Judged.{no_tokens, not_parsed, refused_by}
use Rattle.sh_cli.proofs.judging.read_module.Goals as goal

pub returns-in_err-tokens-clause-refused : goal.returns-in_err-tokens-clause-refused
returns-in_err-tokens-clause-refused c =
    let why = c.in_err-tokens.field-0.0 in
    refused_by c.from_residual.result (IsNoModule c.args.text.now) (lex_status why) c.from_residual.ensures.1
    (no_tokens c.args.text.now why c.in_err-tokens.ensures.refused)

pub returns-in_err-parse-clause-refused : goal.returns-in_err-parse-clause-refused
returns-in_err-parse-clause-refused c =
    let why = c.in_err-parse.field-0.0 in
    let has = subst (HasTokens c.args.text.now) (sym c.as_slice.ensures.value) c.in_ok-tokens.ensures.tokens in
    refused_by c.from_residual-in_err-parse.result (IsNoModule c.args.text.now) (parse_status why) c.from_residual-in_err-parse.ensures.1
    (not_parsed c.args.text.now c.as_slice.result.now why has c.in_err-parse.ensures.refused)
