use Rattle.sh_plan.proofs.Searches.{certificate, entries_for}
use Rattle.sh_plan.proofs.planning.plan.Goals as goal

pub returns-clause-certificate : goal.returns-clause-certificate
returns-clause-certificate c =
    certificate c.args.from.now c.args.to.now c.in_ok-found.found _ _ c.in_ok-found.ensures (record { drop = c.differs_with_halos.ensures; add = c.differs_with_halos-2.ensures })

pub returns-clause-table : goal.returns-clause-table
returns-clause-table c = entries_for c.args.to.now c.in_ok-found.found.table c.in_ok-found.ensures.each
