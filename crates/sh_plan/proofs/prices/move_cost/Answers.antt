use Rattle.std.proofs.Common.{◌≡◌, ◌+◌, ◌*◌, ◌≤◌, arith, ap, inl, inr, sym}
use Rattle.sh_base.specs.Limits.{max_devices}
use Rattle.sh_base.specs.Shape.{max_cells}
use Rattle.sh_grid.specs.Grid.{GridValue}
use Rattle.sh_plan.specs.Costs.{cost_from, held}
use Rattle.sh_plan.proofs.HeldSteps.{held_small, once_less}
use Rattle.sh_plan.proofs.StepCosts.{split_1, split_3, step_1, step_2, step_3, step_4, step_5}
use Rattle.sh_plan.proofs.prices.move_cost.Goals as goal

pub last_extent-requires-clause-split : goal.last_extent-requires-clause-split
last_extent-requires-clause-split c =
    split_1 c.args.s.now c.args.next.now c.args.m c.requires.state c.requires.next c.requires.step c.in-M1.d c.in-M1.is

pub overflow_sub-result : goal.overflow_sub-result
overflow_sub-result c =
    let x = step_1 c.args.s.now c.args.next.now c.args.m c.requires.state c.requires.next c.requires.step c.in-M1.d c.in-M1.is in
    omega (arith, x.some, c.last_extent.ensures)

pub overflow_mul-result : goal.overflow_mul-result
overflow_mul-result c =
    let x = step_1 c.args.s.now c.args.next.now c.args.m c.requires.state c.requires.next c.requires.step c.in-M1.d c.in-M1.is in
    let small = held_small c.args.next.now c.requires.next.sharding in
    let then : held c.args.s.now.grid.extents c.args.next.now.dimensions ≤ max_devices * max_cells = rw (ap (λ (g : GridValue). g.extents) c.requires.step.grid) at small in
    let most : c.last_extent.result * c.args.cells ≤ max_devices * max_cells = rw (c.last_extent.ensures, c.requires.cells) (omega (arith, x.more, then)) in
    let less = once_less c.last_extent.result c.args.cells (omega (arith, x.some, c.last_extent.ensures)) in
    omega (arith, most, less)

pub overflow_add-result : goal.overflow_add-result
overflow_add-result c =
    let x = step_1 c.args.s.now c.args.next.now c.args.m c.requires.state c.requires.next c.requires.step c.in-M1.d c.in-M1.is in
    let small = held_small c.args.next.now c.requires.next.sharding in
    let then : held c.args.s.now.grid.extents c.args.next.now.dimensions ≤ max_devices * max_cells = rw (ap (λ (g : GridValue). g.extents) c.requires.step.grid) at small in
    let most : c.last_extent.result * c.args.cells ≤ max_devices * max_cells = rw (c.last_extent.ensures, c.requires.cells) (omega (arith, x.more, then)) in
    let less = once_less c.last_extent.result c.args.cells (omega (arith, x.some, c.last_extent.ensures)) in
    omega (arith, most, less)

pub last_extent-requires-in-M3-clause-split : goal.last_extent-requires-in-M3-clause-split
last_extent-requires-in-M3-clause-split c =
    split_3 c.args.s.now c.args.next.now c.args.m c.requires.state c.requires.next c.requires.step c.in-M3.d c.in-M3.e c.in-M3.is

pub nonzero_div-result : goal.nonzero_div-result
nonzero_div-result c =
    let x = step_3 c.args.s.now c.args.next.now c.args.m c.requires.state c.requires.next c.requires.step c.in-M3.d c.in-M3.e c.in-M3.is in
    omega (arith, x.some, c.last_extent-in-M3.ensures)

pub overflow_add-result-in-M3 : goal.overflow_add-result-in-M3
overflow_add-result-in-M3 c =
    let small = held_small c.args.s.now c.requires.state.sharding in
    omega (arith, small, c.requires.cells)

pub overflow_sub-result-in-M4 : goal.overflow_sub-result-in-M4
overflow_sub-result-in-M4 c =
    let x = step_4 c.args.s.now c.args.next.now c.args.m c.requires.state c.requires.next c.requires.step c.in-M4.d c.in-M4.is in
    let then : c.held.result ≡ held c.args.s.now.grid.extents c.args.next.now.dimensions = rw (ap (λ (g : GridValue). g.extents) c.requires.step.grid) at c.held.ensures.value in
    omega (arith, x.less, then, c.requires.cells)

pub returns-in-M1 : goal.returns-in-M1
returns-in-M1 c =
    let x = step_1 c.args.s.now c.args.next.now c.args.m c.requires.state c.requires.next c.requires.step c.in-M1.d c.in-M1.is in
    let some : 1 ≤ c.last_extent.result = omega (arith, x.some, c.last_extent.ensures) in
    let split = once_less c.last_extent.result c.args.cells some in
    let cost : cost_from c.args.s.now c.args.next.now + c.args.cells ≡ 1 + c.last_extent.result * c.args.cells = rw (c.last_extent.ensures, c.requires.cells) x.cost in
    omega (arith, split, cost)

pub returns-in-M2 : goal.returns-in-M2
returns-in-M2 c =
    elim c.in-M2.is [
      | inl x ↦ sym (step_2 c.args.s.now c.args.next.now c.args.m c.requires.state c.requires.next c.requires.step x.0 x.1 x.2)
      | inr x ↦ sym (step_5 c.args.s.now c.args.next.now c.args.m c.requires.state c.requires.next c.requires.step x.0 x.1)
    ]

pub returns-in-M3 : goal.returns-in-M3
returns-in-M3 c =
    let x = step_3 c.args.s.now c.args.next.now c.args.m c.requires.state c.requires.next c.requires.step c.in-M3.d c.in-M3.e c.in-M3.is in
    rw (c.last_extent-in-M3.ensures, c.requires.cells) (sym x.cost)

pub returns-in-M4 : goal.returns-in-M4
returns-in-M4 c =
    let x = step_4 c.args.s.now c.args.next.now c.args.m c.requires.state c.requires.next c.requires.step c.in-M4.d c.in-M4.is in
    let then : c.held.result ≡ held c.args.s.now.grid.extents c.args.next.now.dimensions = rw (ap (λ (g : GridValue). g.extents) c.requires.step.grid) at c.held.ensures.value in
    omega (arith, x.less, x.cost, then, c.requires.cells)
