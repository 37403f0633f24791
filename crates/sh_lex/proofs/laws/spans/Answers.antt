use Rattle.sh_lex.proofs.SpanLemmas.{are_spans, are_within}
use Rattle.sh_lex.proofs.laws.spans.Goals as goal

pub returns-clause-order : goal.returns-clause-order
returns-clause-order c = λ text tokens have. are_spans have

pub returns-clause-within : goal.returns-clause-within
returns-clause-within c = λ text tokens have. are_within have
