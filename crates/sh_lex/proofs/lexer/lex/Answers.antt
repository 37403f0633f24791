use Rattle.std.proofs.Common.{[], ◌∷◌, inl, append_assoc}
use Rattle.std.proofs.lemmas.Result.{err_from_is_err_and}
use Rattle.sh_lex.specs.Tokens.{at_end, at_token, at_fault, behind_token}
use Rattle.sh_lex.proofs.Uniqueness.{same_tokens, same_refusal, tokens_or_refused}
use Rattle.sh_lex.proofs.lexer.lex.Goals as goal

pub returns-in_err-token-clause-refused : goal.returns-in_err-token-clause-refused
returns-in_err-token-clause-refused c =
    let p = err_from_is_err_and c.from_residual.result c.from_residual.ensures.1 in
    rw (p.1, p.2) (λ other. c.loop-tokens.invariant.refused _ (at_fault c.in_err-token.ensures.stopped))

pub returns-in_err-token-clause-all_tokens : goal.returns-in_err-token-clause-all_tokens
returns-in_err-token-clause-all_tokens c =
    let p = err_from_is_err_and c.from_residual.result c.from_residual.ensures.1 in
    rw (p.1, p.2) (λ tokens have. absurd (tokens_or_refused have (c.loop-tokens.invariant.refused _ (at_fault c.in_err-token.ensures.stopped))))

pub returns-in_err-token-clause-first_fault : goal.returns-in_err-token-clause-first_fault
returns-in_err-token-clause-first_fault c =
    let p = err_from_is_err_and c.from_residual.result c.from_residual.ensures.1 in
    rw (p.1, p.2) (λ fault refused. inl (same_refusal (c.loop-tokens.invariant.refused _ (at_fault c.in_err-token.ensures.stopped)) refused))

pub returns-in-End-clause-tokens : goal.returns-in-End-clause-tokens
returns-in-End-clause-tokens c =
    rw c.in_ok-push.ensures.items (c.loop-tokens.invariant.tokens (c.in_ok-token.token ∷ []) (at_end (c.in_ok-token.ensures.end c.in-End.is)))

pub returns-in-End-clause-all_tokens : goal.returns-in-End-clause-all_tokens
returns-in-End-clause-all_tokens c = λ tokens have.
    let found = c.loop-tokens.invariant.tokens (c.in_ok-token.token ∷ []) (at_end (c.in_ok-token.ensures.end c.in-End.is)) in
    rw c.in_ok-push.ensures.items (same_tokens found have)

pub returns-in-End-clause-first_fault : goal.returns-in-End-clause-first_fault
returns-in-End-clause-first_fault c = λ fault refused.
    tokens_or_refused (c.loop-tokens.invariant.tokens (c.in_ok-token.token ∷ []) (at_end (c.in_ok-token.ensures.end c.in-End.is))) refused

pub loop-tokens-preserved : goal.loop-tokens-preserved
loop-tokens-preserved c =
    let next = c.in_ok-token.ensures.next c.in_default.not-End in
    let behind = c.in_ok-token.ensures.after.1 in
    record {
      at = c.in_ok-token.ensures.after.0;
      tokens = λ tokens rest.
          rw (c.in_ok-push.ensures.items, append_assoc) (c.loop-tokens.invariant.tokens (c.in_ok-token.token ∷ tokens) (at_token next (rw behind at rest)));
      refused = λ why refused. c.loop-tokens.invariant.refused why (behind_token next (rw behind at refused));
    }
