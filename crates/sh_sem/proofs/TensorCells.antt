-- The cells of a tensor.
use Rattle.std.proofs.Common.{◌≡◌, ℕ, ◌<◌, get_or, ap, ◌∙◌, subst}
use Rattle.std.specs.List.{All}
use Rattle.std.proofs.lemmas.List.{get_or_default}
use Rattle.sh_base.specs.declared.numbers.Cell.TheVariants.{Undef}
use Rattle.sh_base.specs.declared.numbers.Width.{Width}
use Rattle.sh_base.specs.Cells.{IsCellOf}
use Rattle.sh_base.specs.Shape.{cell_count, flat_of, unflat_of}
use Rattle.sh_base.proofs.ShapeLaws.{flat_of-unflat_of, unflat_of-within}
use Rattle.sh_tensor.specs.Tensor.{TensorValue, IsTensor, at}

-- the cells of a tensor are of its width
pub cells_fit : (t : TensorValue) (w : Width) → IsTensor t → t.width ≡ w → All (IsCellOf w) t.cells
unfolding at
cells_fit t w whole same k d l =
    let below : k < cell_count t.shape = rw (← whole.counted) l in
    let cell : IsCellOf t.width (get_or t.cells (flat_of t.shape (unflat_of t.shape k)) Undef) = whole.fitting (unflat_of t.shape k) (unflat_of-within t.shape k below) in
    let read : get_or t.cells (flat_of t.shape (unflat_of t.shape k)) Undef ≡ get_or t.cells k d =
    ap (λ n. get_or t.cells n Undef) (flat_of-unflat_of t.shape k below) ∙ get_or_default t.cells k Undef d l in
    subst (λ v. IsCellOf v (get_or t.cells k d)) same (subst (IsCellOf t.width) read cell)
