use Rattle.sh_plan.proofs.Searches.{plain_pair, plain_target}
use Rattle.sh_plan.proofs.planning.least_between.Goals as goal

pub reached-requires-clause-source : goal.reached-requires-clause-source
reached-requires-clause-source c = rw (c.in_ok-source.ensures, c.in_ok-target.ensures) (plain_pair c.args.from.now c.args.to.now c.requires)

pub reached-requires-clause-target : goal.reached-requires-clause-target
reached-requires-clause-target c = rw c.in_ok-target.ensures (plain_target c.args.from.now c.args.to.now c.requires)

pub search-requires-clause-source : goal.search-requires-clause-source
search-requires-clause-source c = rw (c.in_ok-source.ensures, c.in_ok-target.ensures) (plain_pair c.args.from.now c.args.to.now c.requires)

pub search-requires-clause-target : goal.search-requires-clause-target
search-requires-clause-target c = rw c.in_ok-target.ensures (plain_target c.args.from.now c.args.to.now c.requires)
