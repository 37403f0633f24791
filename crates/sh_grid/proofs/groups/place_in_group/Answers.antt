use Rattle.std.proofs.Common.{◌≡◌, ◌<◌, ◌≤◌, length, arith, refl, ap}
use Rattle.std.proofs.lemmas.List.{take_all}
use Rattle.sh_grid.specs.Grid.{place_in}
use Rattle.sh_grid.proofs.GroupLaws.{place_in-below, member_of-place_in}
use Rattle.sh_grid.proofs.GroupSteps.{IsPlaceStep, place_step}
use Rattle.sh_grid.proofs.groups.place_in_group.Goals as goal
use Rattle.sh_grid.proofs.groups.place_in_group.Goals.{In-loop-axis, After-loop-axis}

pub loop-axis-init : goal.loop-axis-init
unfolding place_in
loop-axis-init c = refl

-- one axis more
step : (c : In-loop-axis)
    → IsPlaceStep c.args.g.now.extents c.args.axes.now c.args.device c.loop-axis.axis-index c.loop-axis.place
step c =
    let lt : c.loop-axis.axis-index < length c.args.axes.now = rw (← c.extents-axis-items.ensures.value) c.loop-axis-test.true in
    place_step c.args.g.now.extents c.args.axes.now c.args.device c.loop-axis.axis-index c.loop-axis.place
    c.extents.ensures.grid c.requires.axes c.requires.device lt c.loop-axis.invariant

pub overflow_mul-place : goal.overflow_mul-place
overflow_mul-place c =
    rw (c.extents-extents.ensures.value, c.extents.ensures.value, c.extents-axis-items.ensures.value)
    (let few = (step (goal.at.overflow_mul-place c).In-loop-axis).few in omega arith)

pub overflow_add-place : goal.overflow_add-place
overflow_add-place c =
    rw (c.coordinate_of.ensures.value, c.extents-extents.ensures.value, c.extents.ensures.value, c.extents-axis-items.ensures.value)
    (let few = (step (goal.at.overflow_add-place c).In-loop-axis).few in omega arith)

pub loop-axis-preserved : goal.loop-axis-preserved
loop-axis-preserved c =
    rw (c.coordinate_of.ensures.value, c.extents-extents.ensures.value, c.extents.ensures.value, c.extents-axis-items.ensures.value)
    (step (goal.at.loop-axis-preserved c).In-loop-axis).value

-- all axes
done : (c : After-loop-axis) → c.loop-axis.place ≡ place_in c.args.g.now.extents c.args.axes.now c.args.device
done c =
    let le : length c.args.axes.now ≤ c.loop-axis.axis-index = rw (← c.extents-axis-items.ensures.value) c.loop-axis-test.false in
    rw c.loop-axis.invariant (ap (λ axes. place_in c.args.g.now.extents axes c.args.device) (take_all c.loop-axis.axis-index c.args.axes.now le))

pub returns-clause-value : goal.returns-clause-value
returns-clause-value c = done (goal.at.returns-clause-value c).After-loop-axis

pub returns-clause-below : goal.returns-clause-below
returns-clause-below c =
    rw (done (goal.at.returns-clause-below c).After-loop-axis)
    (place_in-below c.args.g.now.extents c.args.axes.now c.args.device c.requires.device c.requires.axes)

pub returns-clause-member : goal.returns-clause-member
returns-clause-member c = λ d agree.
    rw (done (goal.at.returns-clause-member c).After-loop-axis)
    (member_of-place_in c.args.g.now.extents c.args.axes.now d c.args.device c.requires.device c.requires.axes agree)
