-- Tensors of one shape, combined cell by cell.
use Rattle.std.proofs.Common.{◌≡◌, ℕ, zero, suc, ◌+◌, ◌<◌, ◌≤◌, Bool, true, false, List, [], ◌∷◌, map, length, get_or, take, refl, ap, ap₂, sym, ◌∙◌, arith, subst, Some, None}
use Rattle.std.specs.Prelude.{nat_eq, if◌then◌else◌}
use Rattle.std.specs.Cmp.Lexicographic.{pointwise, same_text}
use Rattle.std.specs.List.{All, list_all, range_with_len}
use Rattle.std.proofs.lemmas.List.{take_more, get_or-map}
use Rattle.std.proofs.lemmas.List.Elements.{All-head, All-tail, All-nil, All-cons}
use Rattle.std.proofs.lemmas.List.FromFn.{fill_by_all, length-map-range_with_len, get_or-map-range_with_len}
use Rattle.std.proofs.lemmas.List.Sums.{fold-append}
use Rattle.std.proofs.lemmas.Option.{same_Some}
use Rattle.sh_base.specs.declared.numbers.Cell.{Cell}
use Rattle.sh_base.specs.declared.numbers.Cell.TheVariants.{Undef}
use Rattle.sh_base.specs.declared.numbers.Width.{Width}
use Rattle.sh_base.specs.declared.operations.Kind.{Kind}
use Rattle.sh_base.specs.Shape.{cell_count, flat_of, unflat_of}
use Rattle.sh_base.proofs.ShapeLaws.{flat_of-unflat_of}
use Rattle.sh_int.specs.Reduction.{combine_of}
use Rattle.sh_sem.specs.Collected.{combined, combined_at}
use Rattle.sh_sem.specs.Pieces.{common_shape}
use Rattle.sh_tensor.specs.Tensor.{TensorValue, at, cells_of}
use Rattle.sh_collectives.proofs.JoiningLaws.{both_true}

-- ---- the cells with one number

abbrev pub numbered : ℕ → List TensorValue → List Cell
numbered k ts = map (λ (t : TensorValue). get_or t.cells k Undef) ts

module _ (kind : Kind) (w : Width) where
  pub combined_first : (cs : List Cell) (c d : Cell) → 0 < length cs → c ≡ get_or cs 0 d → c ≡ combined kind w (take 1 cs)
  combined_first [] c d l e = absurd (omega (arith, l))
  combined_first (x ∷ cs) c d l e = e

  -- one cell more
  pub combined_more : (cs : List Cell) (i : ℕ) (c d old : Cell) → 1 ≤ i → i < length cs → c ≡ get_or cs i d → old ≡ combined kind w (take i cs)
      → combine_of kind w old c ≡ combined kind w (take (i + 1) cs)
  combined_more [] i c d old some l e h = absurd (omega (arith, l))
  combined_more (x ∷ cs) zero c d old some l e h = absurd (omega (arith, some))
  combined_more (x ∷ cs) (suc i) c d old some l e h =
      ap₂ (combine_of kind w) h e
      ∙ sym (ap (combined kind w) (take_more (x ∷ cs) (suc i) d l) ∙ fold-append (combine_of kind w) x (take i cs) (get_or cs i d ∷ []))

-- ---- tensors of one shape

same_all : (s : List ℕ) (us : List TensorValue) → list_all (pointwise nat_eq s) (map (λ u. u.shape) us) ≡ true → All (λ (u : TensorValue). u.shape ≡ s) us
same_all s [] h = All-nil (λ (u : TensorValue). u.shape ≡ s)
same_all s (u ∷ us) h =
    let parts = both_true (pointwise nat_eq s u.shape) (list_all (pointwise nat_eq s) (map (λ u. u.shape) us)) h in
    All-cons (λ (u : TensorValue). u.shape ≡ s) u us (sym (same_text s u.shape (sym parts.0))) (same_all s us parts.1)

common_if : (t : TensorValue) (us : List TensorValue) (s : List ℕ) (b : Bool) → list_all (pointwise nat_eq t.shape) (map (λ u. u.shape) us) ≡ b → (if b then Some t.shape else None) ≡ Some s
    → All (λ (u : TensorValue). u.shape ≡ s) (t ∷ us)
common_if t us s false all h = absurd (cc)
common_if t us s true all h =
    let first : t.shape ≡ s = same_Some t.shape s h in
    All-cons (λ (u : TensorValue). u.shape ≡ s) t us first (subst (λ x. All (λ (u : TensorValue). u.shape ≡ x) us) first (same_all t.shape us all))

-- all tensors are of the shape that is common to them
pub have_common : (ts : List TensorValue) (s : List ℕ) → common_shape (map (λ u. u.shape) ts) ≡ Some s → All (λ (u : TensorValue). u.shape ≡ s) ts
have_common [] s h = absurd (cc)
have_common (t ∷ us) s h = common_if t us s (list_all (pointwise nat_eq t.shape) (map (λ u. u.shape) us)) refl h

-- ---- their cells at an index

at_numbered : (s : List ℕ) (k : ℕ) (t : TensorValue) → t.shape ≡ s → k < cell_count s → get_or t.cells k Undef ≡ at t (unflat_of s k)
unfolding at
at_numbered s k t e l = ap (λ n. get_or t.cells n Undef) (sym (ap (λ x. flat_of x (unflat_of s k)) e ∙ flat_of-unflat_of s k l))

all_numbered : (s : List ℕ) (k : ℕ) (ts : List TensorValue) → All (λ (u : TensorValue). u.shape ≡ s) ts → k < cell_count s → numbered k ts ≡ map (λ (u : TensorValue). at u (unflat_of s k)) ts
all_numbered s k [] all l = refl
all_numbered s k (t ∷ ts) all l =
    ap₂ (λ x xs. x ∷ xs) (at_numbered s k t (All-head (λ (u : TensorValue). u.shape ≡ s) t ts all) l) (all_numbered s k ts (All-tail (λ (u : TensorValue). u.shape ≡ s) t ts all) l)

combined_here : (kind : Kind) (w : Width) (s : List ℕ) (k : ℕ) (ts : List TensorValue) → All (λ (u : TensorValue). u.shape ≡ s) ts → All (λ (u : TensorValue). u.width ≡ w) ts → k < cell_count s
    → combined kind w (numbered k ts) ≡ combined_at kind ts (unflat_of s k)
combined_here kind w s k [] all widths l = refl
combined_here kind w s k (t ∷ ts) all widths l =
    ap₂ (combined kind) (sym (All-head (λ (u : TensorValue). u.width ≡ w) t ts widths)) (all_numbered s k (t ∷ ts) all l)

-- all cells
pub combined_cells_are : (kind : Kind) (w : Width) (s : List ℕ) (ts : List TensorValue) (n : ℕ) (cells : List Cell) → common_shape (map (λ u. u.shape) ts) ≡ Some s → All (λ (u : TensorValue). u.width ≡ w) ts
    → n ≡ cell_count s → cells ≡ map (λ k. combined kind w (numbered k ts)) (range_with_len 0 n) → cells ≡ cells_of s (combined_at kind ts)
unfolding cells_of
combined_cells_are kind w s ts n cells common widths en e =
    let f : ℕ → Cell = λ k. combined kind w (numbered k ts) in
    let whole : cells ≡ map f (range_with_len 0 (cell_count s)) = e ∙ ap (λ m. map f (range_with_len 0 m)) en in
    whole
    ∙ fill_by_all (λ k. combined_at kind ts (unflat_of s k)) (map f (range_with_len 0 (cell_count s))) (cell_count s) Undef (length-map-range_with_len f 0 (cell_count s))
    (λ k l. get_or-map-range_with_len f 0 (cell_count s) k k Undef l (omega arith) ∙ combined_here kind w s k ts (have_common ts s common) widths l)

-- ---- one tensor of a slice

-- the cell with a number of one tensor
pub numbered_at : (k : ℕ) (ts : List TensorValue) (i : ℕ) (t : TensorValue) (c : Cell) → i < length ts → get_or ts i t ≡ t → c ≡ get_or t.cells k Undef → c ≡ get_or (numbered k ts) i Undef
numbered_at k ts i t c l e h =
    h ∙ ap (λ (u : TensorValue). get_or u.cells k Undef) (sym e) ∙ sym (get_or-map (λ (u : TensorValue). get_or u.cells k Undef) ts i t Undef l)

pub width_at : (w : Width) (ts : List TensorValue) (i : ℕ) (t : TensorValue) → All (λ (u : TensorValue). u.width ≡ w) ts → i < length ts → get_or ts i t ≡ t → t.width ≡ w
width_at w ts i t all l e = ap (λ (u : TensorValue). u.width) (sym e) ∙ all i t l
