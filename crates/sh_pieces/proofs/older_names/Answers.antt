use Rattle.sh_pieces.proofs.older_names.Goals as goal
use Rattle.sh_pieces.proofs.Lists.{keeps_name}

pub returns : goal.returns
returns g c = λ sem is s base k name from lt. keeps_name sem is s k name base from lt
