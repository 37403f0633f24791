use Rattle.sh_answers.proofs.WordsAnswered.{answered}
use Rattle.sh_answers.proofs.some_answer.Goals as goal

pub returns : goal.returns
returns c = λ tool words text none. answered tool words text (λ a. none a.0 a.1 a.2)
