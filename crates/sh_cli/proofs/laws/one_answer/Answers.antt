use Rattle.sh_cli.proofs.OneAnswer.{one_answer_at}
use Rattle.sh_cli.proofs.laws.one_answer.Goals as goal

pub returns : goal.returns
returns c = one_answer_at
