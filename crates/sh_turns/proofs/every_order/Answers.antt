use Rattle.sh_turns.proofs.EveryOrder as lemmas
use Rattle.sh_turns.proofs.every_order.Goals as goal

pub returns : goal.returns
returns g c = λ p well. lemmas.every_order p well
