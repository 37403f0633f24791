use Rattle.sh_sem.proofs.Groups.{has_groups}
use Rattle.sh_collectives.proofs.DeviceLaws.{device_by_names}
use Rattle.sh_collectives.proofs.laws.device_laws.Goals as goal

pub returns-clause-groups : goal.returns-clause-groups
returns-clause-groups c = has_groups c.args.g.now.extents

pub returns-clause-program : goal.returns-clause-program
returns-clause-program c = λ arguments counted. device_by_names c.args.f.now c.args.g.now.extents arguments counted
