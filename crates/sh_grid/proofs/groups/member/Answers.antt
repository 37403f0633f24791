use Rattle.std.proofs.Common.{◌≡◌, ◌<◌, ◌≤◌, get_or, length}
use Rattle.sh_grid.specs.Grid.{member_of}
use Rattle.sh_grid.proofs.GroupLaws.{member_of-agrees, place_in-member_of}
use Rattle.sh_grid.proofs.GroupSteps.{IsMemberStep, member_step, member_end}
use Rattle.sh_grid.proofs.groups.member.Goals as goal
use Rattle.sh_grid.proofs.groups.member.Goals.{In-loop-axis, After-loop-axis}

-- one axis more
step : (c : In-loop-axis) → IsMemberStep c.args.g.now.extents c.args.axes.now c.args.device c.args.place
    c.loop-axis.axis-index c.loop-axis.size c.loop-axis.rest c.loop-axis.found
    (get_or c.args.g.now.extents (get_or c.args.axes.now c.loop-axis.axis-index 0) 0)
step c =
    let lt : c.loop-axis.axis-index < length c.args.axes.now = rw (← c.extents-axis-items.ensures.value) c.loop-axis-test.true in
    member_step c.args.g.now.extents c.args.axes.now c.args.device c.args.place c.loop-axis.axis-index
    c.loop-axis.size c.loop-axis.rest c.loop-axis.found c.extents.ensures.grid c.requires.axes lt c.loop-axis.invariant

pub nonzero_div-size : goal.nonzero_div-size
nonzero_div-size c =
    rw (c.extents-extents.ensures.value, c.extents.ensures.value, c.extents-axis-items.ensures.value)
    (step (goal.at.nonzero_div-size c).In-loop-axis).extent

pub nonzero_div-rest : goal.nonzero_div-rest
nonzero_div-rest c =
    rw (c.extents-extents.ensures.value, c.extents.ensures.value, c.extents-axis-items.ensures.value)
    (step (goal.at.nonzero_div-rest c).In-loop-axis).some

pub moved-found-requires-clause-coordinate : goal.moved-found-requires-clause-coordinate
moved-found-requires-clause-coordinate c =
    rw (c.extents-extents.ensures.value, c.extents.ensures.value, c.extents-axis-items.ensures.value)
    (step (goal.at.moved-found-requires-clause-coordinate c).In-loop-axis).entry

pub nonzero_rem-rest : goal.nonzero_rem-rest
nonzero_rem-rest c =
    rw (c.extents-extents.ensures.value, c.extents.ensures.value, c.extents-axis-items.ensures.value)
    (step (goal.at.nonzero_rem-rest c).In-loop-axis).some

pub loop-axis-preserved : goal.loop-axis-preserved
loop-axis-preserved c =
    let within = rw (c.extents-extents.ensures.value, c.extents.ensures.value) at c.moved-found.ensures.within in
    let index = rw (c.extents-extents.ensures.value, c.extents.ensures.value, c.extents-axis-items.ensures.value) at c.moved-found.ensures.index in
    rw (c.extents-extents.ensures.value, c.extents.ensures.value, c.extents-axis-items.ensures.value)
    ((step (goal.at.loop-axis-preserved c).In-loop-axis).next c.moved-found.result within index)

-- all axes
done : (c : After-loop-axis) → c.loop-axis.found ≡ member_of c.args.g.now.extents c.args.axes.now c.args.device c.args.place
done c =
    let le : length c.args.axes.now ≤ c.loop-axis.axis-index = rw (← c.extents-axis-items.ensures.value) c.loop-axis-test.false in
    member_end c.args.g.now.extents c.args.axes.now c.args.device c.args.place c.loop-axis.axis-index
    c.loop-axis.size c.loop-axis.rest c.loop-axis.found le c.loop-axis.invariant

pub returns-clause-value : goal.returns-clause-value
returns-clause-value c = done (goal.at.returns-clause-value c).After-loop-axis

pub returns-clause-group : goal.returns-clause-group
returns-clause-group c =
    rw (done (goal.at.returns-clause-group c).After-loop-axis)
    (member_of-agrees c.args.g.now.extents c.args.axes.now c.args.device c.args.place c.requires.device c.requires.place)

pub returns-clause-place : goal.returns-clause-place
returns-clause-place c =
    rw (done (goal.at.returns-clause-place c).After-loop-axis)
    (place_in-member_of c.args.g.now.extents c.args.axes.now c.args.device c.args.place c.requires.device c.requires.place c.requires.axes)
