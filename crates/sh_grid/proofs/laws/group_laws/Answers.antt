use Rattle.std.proofs.Common.{length}
use Rattle.sh_grid.proofs.GroupLaws.{axes_join, places_join, places_stay}
use Rattle.sh_grid.proofs.laws.group_laws.Goals as goal

pub returns-clause-join : goal.returns-clause-join
returns-clause-join c = places_join c.args.g.now.extents

pub returns-clause-stay : goal.returns-clause-stay
returns-clause-stay c = places_stay c.args.g.now.extents

pub returns-clause-axes : goal.returns-clause-axes
returns-clause-axes c = axes_join (length c.args.g.now.extents)
