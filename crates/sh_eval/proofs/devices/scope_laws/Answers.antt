use Rattle.sh_eval.proofs.DeviceWalk.{goes_on, have_after, have_at_start, scope_at}
use Rattle.sh_eval.proofs.devices.scope_laws.Goals as goal

pub returns-clause-there : goal.returns-clause-there
returns-clause-there c = scope_at

pub returns-clause-next : goal.returns-clause-next
returns-clause-next c = goes_on

pub returns-clause-start : goal.returns-clause-start
returns-clause-start c = have_at_start

pub returns-clause-after : goal.returns-clause-after
returns-clause-after c = have_after
