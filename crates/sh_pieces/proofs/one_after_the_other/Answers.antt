use Rattle.sh_pieces.proofs.one_after_the_other.Goals as goal
use Rattle.sh_pieces.proofs.Lists.{state_append, runs_append, runs_parts}

pub returns : goal.returns
returns g c = record {
  values = λ sem is js s. state_append sem is js s;
  runs = λ sem is js s. (runs_parts sem is js s, λ both. runs_append sem is js s both.0 both.1);
}
