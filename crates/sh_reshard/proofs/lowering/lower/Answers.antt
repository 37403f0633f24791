use Rattle.sh_plan.proofs.PlanReshards.{plain_leads, plain_source, plain_target}
use Rattle.sh_reshard.proofs.Reshards.{plan_reshards}
use Rattle.sh_reshard.proofs.lowering.lower.Goals as goal

pub instructions-requires-clause-source : goal.instructions-requires-clause-source
instructions-requires-clause-source c = plain_source c.args.from.now c.args.to.now c.args.p.now c.requires.plan

pub instructions-requires-clause-target : goal.instructions-requires-clause-target
instructions-requires-clause-target c = plain_target c.args.from.now c.args.to.now c.args.p.now c.requires.plan

pub instructions-requires-clause-leads : goal.instructions-requires-clause-leads
instructions-requires-clause-leads c = rw c.as_slice.ensures (plain_leads c.args.from.now c.args.to.now c.args.p.now c.requires.plan)

pub returns-clause-reshards : goal.returns-clause-reshards
returns-clause-reshards c = plan_reshards c.args.width c.args.from.now c.args.to.now c.args.p.now c.args.value c.args.first_id c.requires.plan c.requires.value
