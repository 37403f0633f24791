-- What is known of `build` and `at`, and when two tensors are one.
use Rattle.std.proofs.Common.{◌≡◌, ℕ, ◌<◌, ◌≤◌, List, length, get_or, refl, ap, sym, ◌∙◌, arith, subst}
use Rattle.std.specs.List.{All}
use Rattle.std.proofs.lemmas.List.{get_or_read}
use Rattle.std.proofs.lemmas.List.FromFn.{length-map-range_with_len, get_or-map-range_with_len, fill_by_all}
use Rattle.sh_base.specs.Cells.{IsCellOf}
use Rattle.sh_base.specs.declared.numbers.Cell.{Cell}
use Rattle.sh_base.specs.declared.numbers.Cell.TheVariants.{Undef}
use Rattle.sh_base.specs.declared.numbers.Width.{Width}
use Rattle.sh_base.specs.Shape.{cell_count, max_cells, IsIndexOf, flat_of, unflat_of}
use Rattle.sh_base.proofs.ShapeLaws.{flat_of-below, unflat_of-flat_of, unflat_of-within, flat_of-unflat_of}
use Rattle.sh_tensor.specs.Tensor.{TensorValue, IsTensor, IsHeld, at, cells_of, build, reshape_of}

pub length-cells_of : (s : List ℕ) (f : List ℕ → Cell) → length (cells_of s f) ≡ cell_count s
unfolding cells_of
length-cells_of s f = length-map-range_with_len (λ k. f (unflat_of s k)) 0 (cell_count s)

pub at-build : (s : List ℕ) (w : Width) (f : List ℕ → Cell) (i : List ℕ) → IsIndexOf s i → at (build s w f) i ≡ f i
unfolding at cells_of
at-build s w f i h =
    get_or-map-range_with_len (λ k. f (unflat_of s k)) 0 (cell_count s) (flat_of s i) (flat_of s i) Undef (flat_of-below s i h) (omega arith)
    ∙ ap f (unflat_of-flat_of s i h)

pub IsTensor-build : (s : List ℕ) (w : Width) (f : List ℕ → Cell) → ((i : List ℕ) → IsIndexOf s i → IsCellOf w (f i)) → IsTensor (build s w f)
IsTensor-build s w f h = record {
  counted = length-cells_of s f;
  fitting = λ i l. subst (IsCellOf w) (sym (at-build s w f i l)) (h i l);
}

-- cells that are those of f at each index, in row-major order
pub is_cells_of : (cells : List Cell) (s : List ℕ) (f : List ℕ → Cell) → length cells ≡ cell_count s
    → ((i : List ℕ) → IsIndexOf s i → get_or cells (flat_of s i) Undef ≡ f i) → cells ≡ cells_of s f
unfolding cells_of
is_cells_of cells s f counted h =
    fill_by_all (λ k. f (unflat_of s k)) cells (cell_count s) Undef counted
    (λ k l. sym (ap (λ z. get_or cells z Undef) (flat_of-unflat_of s k l)) ∙ h (unflat_of s k) (unflat_of-within s k l))

-- a tensor with the cell f i at each index i is the one that `build` gives
pub is_build : (t : TensorValue) (f : List ℕ → Cell) → length t.cells ≡ cell_count t.shape
    → ((i : List ℕ) → IsIndexOf t.shape i → at t i ≡ f i) → t ≡ build t.shape t.width f
unfolding at
is_build t f counted h = let cells = is_cells_of t.cells t.shape f counted h in ap (λ c. record t { cells = c }) cells

-- tensors of one shape and width with equal cells are equal
pub tensor_ext : (t u : TensorValue) → length t.cells ≡ cell_count t.shape → length u.cells ≡ cell_count u.shape → t.shape ≡ u.shape → t.width ≡ u.width
    → ((i : List ℕ) → IsIndexOf u.shape i → at t i ≡ at u i) → t ≡ u
unfolding at
tensor_ext t u ct cu shapes widths h =
    let mine = is_cells_of t.cells u.shape (at u) (ct ∙ ap cell_count shapes) (λ i l. sym (ap (λ s. get_or t.cells (flat_of s i) Undef) shapes) ∙ h i l) in
    let theirs = is_cells_of u.cells u.shape (at u) cu (λ i l. refl) in
    let cells : t.cells ≡ u.cells = mine ∙ sym theirs in
    λ j. record { shape = shapes j; width = widths j; cells = cells j }

pub build-ext : (s : List ℕ) (w : Width) (f g : List ℕ → Cell) → ((i : List ℕ) → IsIndexOf s i → f i ≡ g i) → build s w f ≡ build s w g
unfolding at
build-ext s w f g h =
    ap (λ c. record { shape = s; width = w; cells = c })
    (is_cells_of (cells_of s f) s g (length-cells_of s f) (λ i l. at-build s w f i l ∙ h i l))

pub build-at : (t : TensorValue) → IsTensor t → build t.shape t.width (at t) ≡ t
build-at t h = sym (is_build t (at t) h.counted (λ i l. refl))

-- the cell of a reshaped tensor at the index with number k is the cell of the tensor at the index with number k
pub at-reshape_of : (t : TensorValue) (s i : List ℕ) → cell_count t.shape ≡ cell_count s → IsIndexOf s i → at (reshape_of t s) i ≡ at t (unflat_of t.shape (flat_of s i))
unfolding at
at-reshape_of t s i same h =
    let below : flat_of s i < cell_count t.shape = rw same (flat_of-below s i h) in
    ap (λ k. get_or t.cells k Undef) (sym (flat_of-unflat_of t.shape (flat_of s i) below))

pub IsTensor-reshape_of : (t : TensorValue) (s : List ℕ) → cell_count t.shape ≡ cell_count s → IsTensor t → IsTensor (reshape_of t s)
IsTensor-reshape_of t s same h = record {
  counted = h.counted ∙ same;
  fitting = λ i l. subst (IsCellOf t.width) (sym (at-reshape_of t s i same l)) (h.fitting (unflat_of t.shape (flat_of s i)) (unflat_of-within t.shape (flat_of s i) (rw same (flat_of-below s i l))));
}

-- ---- tensors in memory

pub held : (s : List ℕ) (w : Width) (cells : List Cell) → length cells ≡ cell_count s → cell_count s ≤ max_cells → All (IsCellOf w) cells
    → IsHeld (record { shape = s; width = w; cells = cells })
unfolding at
held s w cells counted small fitting = record {
  whole = record { counted = counted; fitting = λ i l. fitting (flat_of s i) Undef (rw counted (flat_of-below s i l)) };
  small = small;
}

pub held-reshape_of : (t : TensorValue) (s : List ℕ) → cell_count s ≡ cell_count t.shape → IsHeld t → IsHeld (reshape_of t s)
held-reshape_of t s same h = record { whole = IsTensor-reshape_of t s (sym same) h.whole; small = rw same h.small }

-- the cell that stands in memory at the number of an index
pub read_at : (t : TensorValue) (i : List ℕ) (k : ℕ) (x : Cell) → IsHeld t → IsIndexOf t.shape i → k ≡ flat_of t.shape i → x ≡ get_or t.cells k x → x ≡ at t i
unfolding at
read_at t i k x h l e r =
    let there : k < length t.cells = rw (e, h.whole.counted) (flat_of-below t.shape i l) in
    get_or_read t.cells k x there r Undef ∙ ap (λ n. get_or t.cells n Undef) e

pub read_fits : (t : TensorValue) (i : List ℕ) (k : ℕ) (x : Cell) → IsHeld t → IsIndexOf t.shape i → k ≡ flat_of t.shape i → x ≡ get_or t.cells k x → IsCellOf t.width x
read_fits t i k x h l e r = subst (IsCellOf t.width) (sym (read_at t i k x h l e r)) (h.whole.fitting i l)
