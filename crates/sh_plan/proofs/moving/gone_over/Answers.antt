use Rattle.std.proofs.Common.{◌∙◌, ap, ap₂, arith, length}
use Rattle.sh_sharding.specs.declared.shardings.Dimension.{Dimension}
use Rattle.sh_sharding.specs.Made.{with_dimension}
use Rattle.sh_sharding.proofs.AxisListLaws.{few_axes}
use Rattle.sh_plan.specs.Moves.{at, with_axis, without_last}
use Rattle.sh_plan.proofs.MovedSteps.{made_state}
use Rattle.sh_plan.proofs.MovedViews.{exchange, exchanged}
use Rattle.sh_plan.proofs.States.{even_is}
use Rattle.sh_plan.proofs.moving.gone_over.Goals as goal

pub without_last_axis-shorter-requires : goal.without_last_axis-shorter-requires
without_last_axis-shorter-requires c =
    let x = exchange c.args.s.now c.args.from c.args.to c.requires.state c.requires.from c.requires.to c.requires.may in
    rw c.dimension.ensures.value (even_is c.args.s.now.grid.extents (at c.args.s.now.dimensions c.args.from) x.even).balanced

pub with_last_axis-longer-requires-clause-balanced : goal.with_last_axis-longer-requires-clause-balanced
with_last_axis-longer-requires-clause-balanced c =
    let x = exchange c.args.s.now c.args.from c.args.to c.requires.state c.requires.from c.requires.to c.requires.may in
    rw c.dimension-2.ensures.value x.balanced

pub with_last_axis-longer-requires-clause-few : goal.with_last_axis-longer-requires-clause-few
with_last_axis-longer-requires-clause-few c =
    let few = few_axes (length c.args.s.now.grid.extents) c.dimension-2.result.now.axes c.dimension-2.ensures.axes in
    let grid = c.dimension-2.ensures.grid.few in
    omega (arith, few, grid)

pub with_others-requires-clause-sharding : goal.with_others-requires-clause-sharding
with_others-requires-clause-sharding c =
    (exchanged c.args.s.now c.args.from c.args.to c.without_last_axis-shorter.result c.with_last_axis-longer.result c.requires.state c.requires.from c.requires.to c.requires.may
    (c.without_last_axis-shorter.ensures ∙ ap (λ (d : Dimension). without_last d) c.dimension.ensures.value)
    (c.with_last_axis-longer.ensures ∙ ap₂ (λ (d : Dimension) a. with_axis d a) c.dimension-2.ensures.value c.last_axis_along-axis.ensures.value)).sharding

pub returns-clause-state : goal.returns-clause-state
returns-clause-state c =
    made_state c.with_others.result (with_dimension (with_dimension c.args.s.now c.args.from c.without_last_axis-shorter.result) c.args.to c.with_last_axis-longer.result)
    (exchanged c.args.s.now c.args.from c.args.to c.without_last_axis-shorter.result c.with_last_axis-longer.result c.requires.state c.requires.from c.requires.to c.requires.may
    (c.without_last_axis-shorter.ensures ∙ ap (λ (d : Dimension). without_last d) c.dimension.ensures.value)
    (c.with_last_axis-longer.ensures ∙ ap₂ (λ (d : Dimension) a. with_axis d a) c.dimension-2.ensures.value c.last_axis_along-axis.ensures.value))
    c.with_others.ensures
