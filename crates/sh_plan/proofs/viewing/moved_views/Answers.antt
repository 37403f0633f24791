use Rattle.std.proofs.Common.{arith, length}
use Rattle.sh_sharding.proofs.AxisListLaws.{few_axes}
use Rattle.sh_sharding.specs.Views.{IsUnsplitView, IsViewOf}
use Rattle.sh_plan.specs.Moves.{at, last_axis, with_axis, without_last}
use Rattle.sh_plan.proofs.MovedViews.{appended_2, even_1, exchange_3, views_1, views_2, views_3, views_4, views_5}
use Rattle.sh_plan.proofs.States.{even_is}
use Rattle.sh_plan.proofs.viewing.moved_views.Goals as goal

pub shorter_view-requires : goal.shorter_view-requires
shorter_view-requires c =
    rw c.dimension.ensures.value (even_is c.args.s.now.grid.extents (at c.args.s.now.dimensions c.in-M1.d)
    (even_1 c.args.s.now c.args.to.now c.args.m c.requires.state c.requires.named c.requires.may c.in-M1.d c.in-M1.is)).balanced

pub longer_view-requires-clause-balanced : goal.longer_view-requires-clause-balanced
longer_view-requires-clause-balanced c =
    rw c.dimension-in-M2.ensures.value (appended_2 c.args.s.now c.args.to.now c.args.m c.requires.state c.requires.named c.requires.may c.in-M2.d c.in-M2.a c.in-M2.is).0

pub longer_view-requires-clause-few : goal.longer_view-requires-clause-few
longer_view-requires-clause-few c =
    let few = few_axes (length c.args.s.now.grid.extents) c.dimension-in-M2.result.now.axes c.dimension-in-M2.ensures.axes in
    let grid = c.dimension-in-M2.ensures.grid.few in
    omega (arith, few, grid)

pub shorter_view-requires-in-M3 : goal.shorter_view-requires-in-M3
shorter_view-requires-in-M3 c =
    rw c.dimension-in-M3.ensures.value (even_is c.args.s.now.grid.extents (at c.args.s.now.dimensions c.in-M3.d)
    (exchange_3 c.args.s.now c.args.to.now c.args.m c.requires.state c.requires.named c.requires.may c.in-M3.d c.in-M3.e c.in-M3.is).even).balanced

pub longer_view-requires-in-M3-clause-balanced : goal.longer_view-requires-in-M3-clause-balanced
longer_view-requires-in-M3-clause-balanced c =
    rw c.dimension-in-M3-2.ensures.value (exchange_3 c.args.s.now c.args.to.now c.args.m c.requires.state c.requires.named c.requires.may c.in-M3.d c.in-M3.e c.in-M3.is).balanced

pub longer_view-requires-in-M3-clause-few : goal.longer_view-requires-in-M3-clause-few
longer_view-requires-in-M3-clause-few c =
    let few = few_axes (length c.args.s.now.grid.extents) c.dimension-in-M3-2.result.now.axes c.dimension-in-M3-2.ensures.axes in
    let grid = c.dimension-in-M3-2.ensures.grid.few in
    omega (arith, few, grid)

pub returns-in-M1-clause-views : goal.returns-in-M1-clause-views
returns-in-M1-clause-views c =
    let is : IsViewOf c.shorter_view.result (without_last (at c.args.s.now.dimensions c.in-M1.d)) = rw c.dimension.ensures.value at c.shorter_view.ensures in
    views_1 c.args.s.now c.args.to.now c.args.m c.requires.state c.requires.named c.requires.may c.in-M1.d c.in-M1.is c.views_of-views.result c.with_view.result c.shorter_view.result
    c.views_of-views.ensures.own c.with_view.ensures is

pub returns-in-M2-clause-views : goal.returns-in-M2-clause-views
returns-in-M2-clause-views c =
    let is : IsViewOf c.longer_view.result (with_axis (at c.args.s.now.dimensions c.in-M2.d) c.in-M2.a) = rw c.dimension-in-M2.ensures.value at c.longer_view.ensures in
    views_2 c.args.s.now c.args.to.now c.args.m c.requires.state c.requires.named c.requires.may c.in-M2.d c.in-M2.a c.in-M2.is c.views_of-views.result c.with_view-in-M2.result c.longer_view.result
    c.views_of-views.ensures.own c.with_view-in-M2.ensures is

pub returns-in-M3-clause-views : goal.returns-in-M3-clause-views
returns-in-M3-clause-views c =
    let first : IsViewOf c.shorter_view-in-M3.result (without_last (at c.args.s.now.dimensions c.in-M3.d)) = rw c.dimension-in-M3.ensures.value at c.shorter_view-in-M3.ensures in
    let second : IsViewOf c.longer_view-in-M3.result (with_axis (at c.args.s.now.dimensions c.in-M3.e) (last_axis (at c.args.s.now.dimensions c.in-M3.d))) =
    rw (c.dimension-in-M3-2.ensures.value, c.last_axis_along-axis.ensures.value) at c.longer_view-in-M3.ensures in
    views_3 c.args.s.now c.args.to.now c.args.m c.requires.state c.requires.named c.requires.may c.in-M3.d c.in-M3.e c.in-M3.is c.views_of-views.result c.with_view-shorter.result
    c.with_view-in-M3.result c.shorter_view-in-M3.result c.longer_view-in-M3.result c.views_of-views.ensures.own c.with_view-shorter.ensures c.with_view-in-M3.ensures first second

pub returns-in-M4-clause-views : goal.returns-in-M4-clause-views
returns-in-M4-clause-views c =
    let is : IsUnsplitView c.unsplit_view.result (at c.args.s.now.dimensions c.in-M4.d).extent = rw c.dimension-in-M4.ensures.value at c.unsplit_view.ensures in
    views_4 c.args.s.now c.args.to.now c.args.m c.requires.state c.requires.named c.requires.may c.in-M4.d c.in-M4.is c.views_of-views.result c.with_view-in-M4.result c.unsplit_view.result
    c.views_of-views.ensures.own c.with_view-in-M4.ensures is

pub returns-in-M5-clause-views : goal.returns-in-M5-clause-views
returns-in-M5-clause-views c =
    let is : IsViewOf c.view.result (at c.args.to.now.dimensions c.in-M5.d) = rw c.dimension-in-M5.ensures.value at c.view.ensures.value in
    views_5 c.args.s.now c.args.to.now c.args.m c.requires.state c.requires.named c.requires.may c.in-M5.d c.in-M5.is c.requires.target c.requires.grid c.requires.whole
    c.views_of-views.result c.with_view-in-M5.result c.view.result c.views_of-views.ensures.own c.with_view-in-M5.ensures is
