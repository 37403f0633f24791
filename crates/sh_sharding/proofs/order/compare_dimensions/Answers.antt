use Rattle.std.proofs.Common.{ℕ, ap, ap₂, subst, sym, ◌∙◌}
use Rattle.std.specs.Ordering.{nat_cmp}
use Rattle.std.specs.Cmp.Lexicographic.{slice_cmp}
use Rattle.sh_grid.specs.Grid.{group_size_of}
use Rattle.sh_sharding.specs.Views.{axes_in, IsDividing}
use Rattle.sh_sharding.proofs.OrderLaws.{lists_equal, order_by_axes, order_by_offsets}
use Rattle.sh_sharding.proofs.order.compare_dimensions.Goals as goal

pub compare_offsets-requires-clause-second : goal.compare_offsets-requires-clause-second
compare_offsets-requires-clause-second c =
    let b = c.args.b.now in
    let axes = c.cmp.ensures ∙ ap₂ (slice_cmp nat_cmp) c.as_slice-axes.ensures.value c.as_slice.ensures.value in
    let same = c.as_slice-axes.ensures.value ∙ lists_equal (axes_in c.args.a.now.axes) (axes_in b.axes) (sym axes ∙ c.in-Equal.is) in
    let parts = c.size_along.ensures.value ∙ ap (group_size_of c.args.g.now.extents) same in
    subst (λ (p : ℕ). IsDividing b.extent p b.mark) (sym parts) c.requires.second.dividing

pub returns-in-Equal : goal.returns-in-Equal
returns-in-Equal c =
    let axes = c.cmp.ensures ∙ ap₂ (slice_cmp nat_cmp) c.as_slice-axes.ensures.value c.as_slice.ensures.value in
    let parts = c.size_along.ensures.value ∙ ap (group_size_of c.args.g.now.extents) c.as_slice-axes.ensures.value in
    order_by_offsets c.args.g.now.extents c.args.a.now c.args.b.now c.size_along.result c.compare_offsets.result (sym axes ∙ c.in-Equal.is) parts c.compare_offsets.ensures

pub returns-in_default : goal.returns-in_default
returns-in_default c =
    let axes = c.cmp.ensures ∙ ap₂ (slice_cmp nat_cmp) c.as_slice-axes.ensures.value c.as_slice.ensures.value in
    order_by_axes c.args.g.now.extents c.args.a.now c.args.b.now c.cmp.result axes c.in_default.not-Equal
