use Rattle.std.proofs.Common.{◌≡◌, ◌∙◌, ap, sym, arith, refl, true, false}
use Rattle.sh_grid.specs.Grid.{GridValue, IsGrid}
use Rattle.sh_sharding.specs.Sharding.{dimension_of, is_balanced}
use Rattle.sh_plan.proofs.MoveSteps.{even_with, is_extent, parts_fit}
use Rattle.sh_plan.proofs.allowed.is_even_with.Goals as goal

pub overflow_mul-parts : goal.overflow_mul-parts
overflow_mul-parts c =
    let extents : c.extents-2.result.now ≡ c.args.s.now.grid.extents = c.extents-2.ensures.value ∙ c.extents.ensures.value ∙ ap (λ (g : GridValue). g.extents) c.grid.ensures in
    let grid : IsGrid c.args.s.now.grid.extents = rw c.grid.ensures at c.extents.ensures.grid in
    let fit = parts_fit c.part_count.result _ c.part_count.ensures.some c.part_count.ensures.few (is_extent c.args.s.now.grid.extents c.args.axis grid c.requires.axis) in
    rw extents (omega (arith, fit.1))

pub returns-then-is_balanced_along : goal.returns-then-is_balanced_along
returns-then-is_balanced_along c =
    let extents : c.extents-2.result.now ≡ c.args.s.now.grid.extents = c.extents-2.ensures.value ∙ c.extents.ensures.value ∙ ap (λ (g : GridValue). g.extents) c.grid.ensures in
    let balanced : is_balanced (dimension_of c.args.s.now c.args.dim) ≡ true = sym c.is_balanced_along.ensures ∙ c.if-is_balanced_along.true in
    rw (c.dimension.ensures.value, extents, c.part_count.ensures.value, even_with c.args.s.now.grid.extents (dimension_of c.args.s.now c.args.dim) c.args.axis, balanced) refl

pub returns-else-is_balanced_along : goal.returns-else-is_balanced_along
returns-else-is_balanced_along c =
    let balanced : is_balanced (dimension_of c.args.s.now c.args.dim) ≡ false = sym c.is_balanced_along.ensures ∙ c.if-is_balanced_along.false in
    rw (c.if-is_balanced_along.false, even_with c.args.s.now.grid.extents (dimension_of c.args.s.now c.args.dim) c.args.axis, balanced) refl
