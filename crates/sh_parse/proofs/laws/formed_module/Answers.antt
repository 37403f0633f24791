use Rattle.sh_parse.proofs.formed.FilesFormed.{read_formed}
use Rattle.sh_parse.proofs.laws.formed_module.Goals as goal

pub returns : goal.returns
returns c = read_formed
