use Rattle.sh_lex.proofs.Uniqueness.{same_tokens}
use Rattle.sh_lex.proofs.laws.one_token_list.Goals as goal

pub returns : goal.returns
returns c = λ text tokens others have has. same_tokens have has
