use Rattle.sh_grammar.proofs.OneLanguage.{only_way}
use Rattle.sh_grammar.proofs.laws.one_way.Goals as goal

pub returns : goal.returns
returns c = λ k ts us f h p q e. only_way k ts us f h p q e
