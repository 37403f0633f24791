-- Tensors that are made of their cells.
use Rattle.std.proofs.Common.{◌≡◌, ℕ, List, length, refl, ap, sym, ◌∙◌, subst}
use Rattle.std.specs.List.{All}
use Rattle.sh_base.specs.Cells.{IsCellOf}
use Rattle.sh_base.specs.declared.numbers.Cell.{Cell}
use Rattle.sh_base.specs.declared.numbers.Width.{Width}
use Rattle.sh_base.specs.Shape.{cell_count}
use Rattle.sh_sem.proofs.TensorCells.{cells_fit}
use Rattle.sh_tensor.specs.Tensor.{IsTensor, build, cells_of}

-- cells of which the tensor with these cells at its indices can be made
pub record IsMade (s : List ℕ) (w : Width) (f : List ℕ → Cell) (cells : List Cell) : Type 0 where
  pub counted : length cells ≡ cell_count s
  pub fitting : All (IsCellOf w) cells
  pub value : record { shape = s; width = w; cells = cells } ≡ build s w f

pub is_made : (s : List ℕ) (w : Width) (f : List ℕ → Cell) (cells : List Cell) → IsTensor (build s w f) → cells ≡ cells_of s f → IsMade s w f cells
is_made s w f cells whole e = record {
  counted = ap length e ∙ whole.counted;
  fitting = subst (All (IsCellOf w)) (sym e) (cells_fit (build s w f) w whole refl);
  value = ap (λ c. record { shape = s; width = w; cells = c }) e;
}
