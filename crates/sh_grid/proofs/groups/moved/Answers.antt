use Rattle.std.proofs.Common.{ℕ, ◌*◌, ◌<◌, ◌≤◌, arith, get_or}
use Rattle.std.proofs.lemmas.Nat.{mul-le}
use Rattle.sh_base.specs.Limits.{max_devices}
use Rattle.sh_grid.proofs.GroupSteps.{IsMoved, moved_is, entry_below}
use Rattle.sh_grid.proofs.groups.moved.Goals as goal
use Rattle.sh_grid.proofs.groups.moved.Goals.{After-coordinate_of, After-stride_of-stride}

-- a coordinate times a stride
product : (c : After-stride_of-stride) (coordinate : ℕ) → coordinate < get_or c.args.extents.now c.args.axis 0
    → coordinate * c.stride_of-stride.result ≤ max_devices * max_devices
product c coordinate below =
    let few = entry_below c.args.extents.now c.args.axis coordinate c.requires.grid c.requires.axis below in
    mul-le coordinate c.stride_of-stride.result max_devices max_devices (omega arith) c.stride_of-stride.ensures.few

pub overflow_mul-result : goal.overflow_mul-result
overflow_mul-result c =
    let few = product (goal.at.overflow_mul-result c).After-stride_of-stride c.args.coordinate c.requires.coordinate in
    omega arith

pub overflow_add-result : goal.overflow_add-result
overflow_add-result c =
    let few = product (goal.at.overflow_add-result c).After-stride_of-stride c.args.coordinate c.requires.coordinate in
    let small = c.requires.grid.small in
    omega arith

pub overflow_mul-result-2 : goal.overflow_mul-result-2
overflow_mul-result-2 c =
    let few = product (goal.at.overflow_mul-result-2 c).After-stride_of-stride c.coordinate_of.result c.coordinate_of.ensures.within in
    omega arith

is_moved : (c : After-coordinate_of) → IsMoved c.args.extents.now c.args.axis c.args.device c.args.coordinate
    c.stride_of-stride.result c.coordinate_of.result
is_moved c =
    moved_is c.args.extents.now c.args.axis c.args.device c.args.coordinate c.stride_of-stride.result c.coordinate_of.result
    c.requires.device c.requires.axis c.requires.coordinate c.stride_of-stride.ensures.value c.coordinate_of.ensures.value

pub overflow_sub-result : goal.overflow_sub-result
overflow_sub-result c = (is_moved (goal.at.overflow_sub-result c).After-coordinate_of).enough

pub returns-clause-index : goal.returns-clause-index
returns-clause-index c = (is_moved (goal.at.returns-clause-index c).After-coordinate_of).index

pub returns-clause-within : goal.returns-clause-within
returns-clause-within c = (is_moved (goal.at.returns-clause-within c).After-coordinate_of).below
