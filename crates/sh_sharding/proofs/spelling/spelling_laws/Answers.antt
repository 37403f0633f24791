use Rattle.sh_sharding.proofs.SpellingLaws.{spelling_admitted, spelling_again}
use Rattle.sh_sharding.proofs.spelling.spelling_laws.Goals as goal

pub returns-clause-admitted : goal.returns-clause-admitted
returns-clause-admitted c = spelling_admitted c.args.s.now c.whole-whole.ensures.admitted

pub returns-clause-again : goal.returns-clause-again
returns-clause-again c = spelling_again c.args.s.now c.whole-whole.ensures.admitted
