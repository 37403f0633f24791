use Rattle.sh_parse.proofs.OneReading.{same_module}
use Rattle.sh_parse.proofs.laws.one_module.Goals as goal

pub returns : goal.returns
returns c = λ text m n r s. same_module text m n r s
