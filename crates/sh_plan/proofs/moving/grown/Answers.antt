use Rattle.std.proofs.Common.{◌≡◌, ◌∙◌, ap, arith, length}
use Rattle.sh_sharding.specs.declared.shardings.Dimension.{Dimension}
use Rattle.sh_sharding.specs.Sharding.{dimension_of}
use Rattle.sh_sharding.proofs.AxisListLaws.{few_axes}
use Rattle.sh_plan.specs.Moves.{with_axis}
use Rattle.sh_plan.proofs.MovedSteps.{is_appended, made_state}
use Rattle.sh_sharding.specs.Made.{IsState, with_dimension}
use Rattle.sh_plan.proofs.moving.grown.Goals as goal

pub with_last_axis-d-requires-clause-balanced : goal.with_last_axis-d-requires-clause-balanced
with_last_axis-d-requires-clause-balanced c =
    rw c.dimension.ensures.value (is_appended c.args.s.now c.args.dim c.args.axis c.requires.state c.requires.dim c.requires.axis c.requires.unused c.requires.may).balanced

pub with_last_axis-d-requires-clause-few : goal.with_last_axis-d-requires-clause-few
with_last_axis-d-requires-clause-few c =
    let few = few_axes (length c.args.s.now.grid.extents) c.dimension.result.now.axes c.dimension.ensures.axes in
    let grid = c.dimension.ensures.grid.few in
    omega (arith, few, grid)

pub with_other-requires-clause-sharding : goal.with_other-requires-clause-sharding
with_other-requires-clause-sharding c =
    let made : c.with_last_axis-d.result ≡ with_axis (dimension_of c.args.s.now c.args.dim) c.args.axis =
    c.with_last_axis-d.ensures ∙ ap (λ (d : Dimension). with_axis d c.args.axis) c.dimension.ensures.value in
    rw made (is_appended c.args.s.now c.args.dim c.args.axis c.requires.state c.requires.dim c.requires.axis c.requires.unused c.requires.may).state.sharding

pub returns-clause-state : goal.returns-clause-state
returns-clause-state c =
    let made : c.with_last_axis-d.result ≡ with_axis (dimension_of c.args.s.now c.args.dim) c.args.axis =
    c.with_last_axis-d.ensures ∙ ap (λ (d : Dimension). with_axis d c.args.axis) c.dimension.ensures.value in
    let state : IsState (with_dimension c.args.s.now c.args.dim c.with_last_axis-d.result) =
    rw made (is_appended c.args.s.now c.args.dim c.args.axis c.requires.state c.requires.dim c.requires.axis c.requires.unused c.requires.may).state in
    made_state c.with_other.result (with_dimension c.args.s.now c.args.dim c.with_last_axis-d.result) state c.with_other.ensures
