use Rattle.sh_iface.specs.Valid.{IsValid}
use Rattle.sh_choose.specs.Proposals.{options_of}
use Rattle.sh_choose.specs.Weights.{weight_of}
use Rattle.sh_choose.proofs.ChoiceLaws.{one_least}
use Rattle.sh_choose.proofs.SameLaws.{same_shown}
use Rattle.sh_choose.proofs.laws.least_laws.Goals as goal

pub returns-clause-one : goal.returns-clause-one
returns-clause-one c = λ nest g known o p h k. one_least (IsValid nest g) (weight_of nest g known) (options_of nest known) o p h k

pub returns-clause-same : goal.returns-clause-same
returns-clause-same c = same_shown
