use Rattle.sh_lex.proofs.Uniqueness.{same_refusal, tokens_or_refused}
use Rattle.sh_lex.proofs.laws.one_refusal.Goals as goal

pub returns-clause-one : goal.returns-clause-one
returns-clause-one c = λ text why other refused too. same_refusal refused too

pub returns-clause-none : goal.returns-clause-none
returns-clause-none c = λ text tokens why have refused. tokens_or_refused have refused
