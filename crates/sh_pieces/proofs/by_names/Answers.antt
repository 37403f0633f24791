use Rattle.sh_pieces.proofs.by_names.Goals as goal
use Rattle.sh_pieces.proofs.Bridge as lemmas

pub returns : goal.returns
returns g c = λ sem f arguments groups counted. lemmas.by_names sem f arguments groups counted
