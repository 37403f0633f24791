use Rattle.sh_iface.proofs.MakingLaws.{views_ordered}
use Rattle.sh_iface.proofs.making.implied_dimensions.Goals as goal

pub dimensions_of-requires-clause-ordered : goal.dimensions_of-requires-clause-ordered
dimensions_of-requires-clause-ordered g c =
    let nest = (g.O.HasLoops.meaning c.args.op.now).nest in
    views_ordered c.args.g.now nest c.args.o.now c.args.v c.rank.result c.implied_views-views.result c.requires.valid c.requires.v (c.requires.nest.values c.args.v c.requires.v).short c.implied_views-views.ensures.views c.extents-grid.ensures.grid c.rank.ensures
