-- What a shift gives at a place, and tensors of undefined cells.
use Rattle.std.proofs.Common.{◌≡◌, ℕ, ◌<◌, List, map, length, get_or, replicate, ap, ap₂, sym, ◌∙◌, subst, Some, None}
use Rattle.std.specs.Prelude.{Option, option_map, slice_get}
use Rattle.std.proofs.lemmas.List.{length-replicate, get_or-replicate}
use Rattle.std.proofs.lemmas.List.FromFn.{fill_by_all}
use Rattle.std.proofs.lemmas.Option.{same_Some, slice_get-get_or, slice_get-map}
use Rattle.sh_base.specs.declared.numbers.Cell.{Cell}
use Rattle.sh_base.specs.declared.numbers.Cell.TheVariants.{Undef}
use Rattle.sh_base.specs.declared.numbers.Width.{Width}
use Rattle.sh_base.specs.Shape.{cell_count}
use Rattle.sh_sem.specs.Collected.{shifted_cell, shifted_shape}
use Rattle.sh_tensor.specs.Tensor.{TensorValue, IsTensor, at, build, cells_of}
use Rattle.sh_tensor.proofs.TensorLaws.{build-at, IsTensor-build}
use Rattle.sh_collectives.specs.Operands.{AreTensors}
use Rattle.sh_collectives.proofs.MadeLaws.{IsMade, is_made}

abbrev cell_at : List ℕ → Option TensorValue → Cell
cell_at i o = elim o [ None ↦ Undef | Some t ↦ at t i ]

-- the tensor of the source
pub shifted_is : (o : Option ℕ) (from place : ℕ) (ts : List TensorValue) (w : Width) (s : List ℕ) (t : TensorValue) → o ≡ Some from → from < length ts → get_or ts from t ≡ t → AreTensors w ts
    → shifted_shape o place (map (λ u. u.shape) ts) ≡ Some s → t ≡ build s w (λ i. shifted_cell o ts i)
shifted_is o from place ts w s t source l read are h =
    let found : slice_get ts from ≡ Some t = slice_get-get_or ts from t l ∙ ap (λ u. Some u) read in
    let shaped : slice_get (map (λ (u : TensorValue). u.shape) ts) from ≡ Some t.shape = slice_get-map (λ (u : TensorValue). u.shape) ts from ∙ ap (option_map (λ (u : TensorValue). u.shape)) found in
    let moved : slice_get (map (λ (u : TensorValue). u.shape) ts) from ≡ Some s = ap (λ p. shifted_shape p place (map (λ (u : TensorValue). u.shape) ts)) (sym source) ∙ h in
    let shape : t.shape ≡ s = same_Some t.shape s (sym shaped ∙ moved) in
    let width : t.width ≡ w = ap (λ (u : TensorValue). u.width) (sym read) ∙ are.widths from t l in
    let whole : IsTensor t = subst IsTensor read (are.whole from t l) in
    sym (build-at t whole)
    ∙ ap₂ (λ x v. build x v (at t)) shape width
    ∙ ap (λ p. build s w (λ i. cell_at i p)) (sym found)
    ∙ ap (λ p. build s w (λ i. shifted_cell p ts i)) (sym source)

pub shifted_none : (o : Option ℕ) (ts : List TensorValue) (w : Width) (s : List ℕ) → o ≡ None → build s w (λ i. Undef) ≡ build s w (λ i. shifted_cell o ts i)
shifted_none o ts w s h = ap (λ p. build s w (λ i. shifted_cell p ts i)) (sym h)

pub undefined_made : (s : List ℕ) (w : Width) (n : ℕ) (cells : List Cell) → n ≡ cell_count s → cells ≡ replicate n Undef → IsMade s w (λ i. Undef) cells
unfolding cells_of
undefined_made s w n cells e h =
    is_made s w (λ i. Undef) cells (IsTensor-build s w (λ i. Undef) (λ i l. tt))
    (h ∙ ap (λ m. replicate m Undef) e
    ∙ fill_by_all (λ k. Undef) (replicate (cell_count s) Undef) (cell_count s) Undef (length-replicate (cell_count s) Undef) (λ k l. get_or-replicate (cell_count s) k Undef Undef l))
