use Rattle.std.proofs.Common.{◌≡◌, ap, sym, ◌∙◌}
use Rattle.sh_base.specs.Shape.{cell_count}
use Rattle.sh_tensor.specs.Tensor.{TensorValue}
use Rattle.sh_tensor.proofs.TensorLaws.{held-reshape_of}
use Rattle.sh_tensor.proofs.tensors.reshape.Goals as goal

pub invariant_of-result : goal.invariant_of-result
invariant_of-result c =
    let t : TensorValue = record { shape = c.t.inside.shape; width = c.t.inside.width; cells = c.t.inside.cells.items } in
    let same : t ≡ c.args.t = c.t.view_is in
    held-reshape_of t c.args.s (c.requires ∙ sym (ap (λ (u : TensorValue). cell_count u.shape) same)) c.t.invariant
