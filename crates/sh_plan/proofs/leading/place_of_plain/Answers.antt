use Rattle.std.proofs.Common.{rules}
use Rattle.sh_sharding.specs.Made.{without_halos}
use Rattle.sh_plan.proofs.CheckSteps.{place_within}
use Rattle.sh_plan.proofs.TableCheck.{sought_plain}
use Rattle.sh_plan.proofs.leading.place_of_plain.Goals as goal

pub returns-clause-place : goal.returns-clause-place
returns-clause-place c =
    c.place_of.ensures c.args.to.now (without_halos c.args.s.now) c.requires.grid c.requires.all (sought_plain c.args.to.now c.args.s.now _ c.rank.ensures.admitted c.requires.own c.requires.whole (search rules))

pub returns-clause-within : goal.returns-clause-within
returns-clause-within c =
    place_within c.args.table.now _ c.place_of.result
    (c.place_of.ensures c.args.to.now (without_halos c.args.s.now) c.requires.grid c.requires.all (sought_plain c.args.to.now c.args.s.now _ c.rank.ensures.admitted c.requires.own c.requires.whole (search rules)))
