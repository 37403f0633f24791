use Rattle.sh_grammar.proofs.OneLanguage.{front_on}
use Rattle.sh_grammar.proofs.laws.fronts_go_on.Goals as goal

pub returns : goal.returns
returns c = λ ts. front_on ts
