use Rattle.std.proofs.Common.{ap, subst, sym, take, length, ◌∙◌}
use Rattle.sh_grid.specs.Grid.{GridValue}
use Rattle.sh_sharding.specs.Views.{AreOwnViews}
use Rattle.sh_sharding.proofs.OrderLaws.{own_order}
use Rattle.sh_sharding.proofs.order.compare.Goals as goal

pub returns : goal.returns
returns c =
    let a = c.args.a.now in
    let b = c.args.b.now in
    let other = subst (λ (g : GridValue). AreOwnViews g.extents (take (length b.dimensions) c.views_of-right.result) b.dimensions) (sym c.requires) c.views_of-right.ensures.own in
    c.compare_views.ensures
    ∙ own_order a.grid.extents c.grid.result.now.extents c.views_of-left.result c.views_of-right.result c.rank.result c.rank-2.result a.dimensions b.dimensions (ap (λ (g : GridValue). g.extents) c.grid.ensures) c.rank.ensures.value c.rank-2.ensures.value
    c.views_of-left.ensures.own other
