use Rattle.std.proofs.Common.{◌≡◌, ◌≤◌, List, ap, ◌∙◌, sym, subst, set}
use Rattle.sh_base.specs.Shape.{cell_count, max_cells}
use Rattle.sh_tensor.specs.Tensor.{CanJoin, IsTensor, TensorValue, concat_of, joined_shape}
use Rattle.sh_tensor.proofs.JoinLaws.{join_is, join_made, joined_shape-first}
use Rattle.sh_tensor.proofs.joins.concat.Goals as goal

pub invariant_of-result : goal.invariant_of-result
invariant_of-result c =
    let ts : List TensorValue = c.as_slice-parts.result.now in
    let a = c.args.axis in
    let first = c.index-parts-0.result in
    let can : CanJoin a ts = subst (CanJoin a) (sym c.as_slice-parts.ensures.value) c.requires.alike in
    let join = join_is a ts can c.extent_along.ensures.whole in
    let shape : c.with_extent-shape.result ≡ joined_shape a ts =
    c.with_extent-shape.ensures
    ∙ ap (λ s. set s a c.extent_along.result) c.shape.ensures.value
    ∙ ap (λ e. set first.shape a e) c.extent_along.ensures.value
    ∙ joined_shape-first a ts first can c.index-parts-0.is in
    let made = join_made a ts first c.with_extent-shape.result c.width.result c.in_ok-cells.cells.items can c.index-parts-0.is shape c.width.ensures c.in_ok-cells.ensures in
    let small : cell_count c.with_extent-shape.result ≤ max_cells =
    subst (λ s. cell_count s ≤ max_cells) (sym (shape ∙ ap (joined_shape a) c.as_slice-parts.ensures.value)) c.requires.small in
    record { whole = subst IsTensor (sym made) join.whole; small = small }

pub returns : goal.returns
returns c =
    let ts : List TensorValue = c.as_slice-parts.result.now in
    let a = c.args.axis in
    let first = c.index-parts-0.result in
    let can : CanJoin a ts = subst (CanJoin a) (sym c.as_slice-parts.ensures.value) c.requires.alike in
    let shape : c.with_extent-shape.result ≡ joined_shape a ts =
    c.with_extent-shape.ensures
    ∙ ap (λ s. set s a c.extent_along.result) c.shape.ensures.value
    ∙ ap (λ e. set first.shape a e) c.extent_along.ensures.value
    ∙ joined_shape-first a ts first can c.index-parts-0.is in
    let made = join_made a ts first c.with_extent-shape.result c.width.result c.in_ok-cells.cells.items can c.index-parts-0.is shape c.width.ensures c.in_ok-cells.ensures in
    made ∙ ap (λ (xs : List TensorValue). concat_of xs a) c.as_slice-parts.ensures.value
