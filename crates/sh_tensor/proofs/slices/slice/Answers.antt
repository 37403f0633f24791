use Rattle.std.proofs.Common.{◌≡◌, ap, ◌∙◌, sym, subst, set}
use Rattle.sh_tensor.specs.Tensor.{IsHeld, TensorValue}
use Rattle.sh_tensor.proofs.SliceLaws.{held_slice, slice_made}
use Rattle.sh_tensor.proofs.slices.slice.Goals as goal

pub invariant_of-result : goal.invariant_of-result
invariant_of-result c =
    let t : TensorValue = c.args.t.now in
    let shape : c.with_extent-shape.result ≡ set t.shape c.args.axis c.args.size = c.with_extent-shape.ensures ∙ ap (λ s. set s c.args.axis c.args.size) c.shape.ensures.value in
    let made = slice_made t c.args.axis c.args.start c.args.size c.with_extent-shape.result c.width.result c.in_ok-cells.cells.items shape c.width.ensures c.in_ok-cells.ensures in
    subst IsHeld (sym made) (held_slice t c.args.axis c.args.start c.args.size c.requires.axis c.requires.within (record { whole = c.shape.ensures.whole; small = c.shape.ensures.small }))

pub returns : goal.returns
returns c =
    let t : TensorValue = c.args.t.now in
    let shape : c.with_extent-shape.result ≡ set t.shape c.args.axis c.args.size = c.with_extent-shape.ensures ∙ ap (λ s. set s c.args.axis c.args.size) c.shape.ensures.value in
    slice_made t c.args.axis c.args.start c.args.size c.with_extent-shape.result c.width.result c.in_ok-cells.cells.items shape c.width.ensures c.in_ok-cells.ensures
