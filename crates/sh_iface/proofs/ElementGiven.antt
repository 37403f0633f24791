-- What an element operation gives: the formula's cells on operands of one shape, where none is stuck.
use Rattle.std.proofs.Common.{◌≡◌, ℕ, zero, suc, ◌+◌, ◌<◌, Bool, true, false, List, map, Option, Some, None, refl, ap, sym, ◌∙◌, arith, subst}
use Rattle.std.proofs.lemmas.Option.{same_Some}
use Rattle.std.specs.List.{list_any, range_with_len}
use Rattle.std.specs.Prelude.{◌||◌, is_none, unwrap_or, if◌then◌else◌, option_and_then}
use Rattle.sh_base.specs.declared.numbers.Cell.{Cell}
use Rattle.sh_base.specs.declared.numbers.Cell.TheVariants.{Undef}
use Rattle.sh_base.specs.declared.numbers.Width.{Width}
use Rattle.sh_base.specs.Shape.{cell_count, IsIndexOf, flat_of, unflat_of}
use Rattle.sh_base.proofs.ShapeLaws.{flat_of-below, unflat_of-flat_of, unflat_of-within}
use Rattle.sh_ir.specs.declared.operations.Op.{Op}
use Rattle.sh_ir.specs.Agreement.{dims_of}
use Rattle.sh_ir.specs.Typing.{typing_of}
use Rattle.sh_sem.specs.Given.{Giving, Seat, given, giving, shape_given, shape_by, cell_given, built_of, of_dims, gives_cells, have_all_extents}
use Rattle.sh_sem.specs.Pieces.{common_shape}
use Rattle.sh_sem.specs.Scalars.{Formula, formula_cell, width_of}
use Rattle.sh_sem.specs.Types.{have_extents}
use Rattle.sh_tensor.specs.Tensor.{TensorValue, at, build}

-- ---- tests of a range

neither : (b c : Bool) → (b || c) ≡ false → (b ≡ false) × (c ≡ false)
neither true c e = absurd (cc)
neither false c e = (refl, e)

none_passes : (f : ℕ → Bool) (a n k : ℕ) → list_any f (range_with_len a n) ≡ false → k < n → f (a + k) ≡ false
none_passes f a zero k none lt = absurd (omega arith)
none_passes f a (suc n) zero none lt = let e : a + 0 ≡ a = omega arith in rw e (neither (f a) (list_any f (range_with_len (a + 1) n)) none).0
none_passes f a (suc n) (suc k) none lt =
    let more = (neither (f a) (list_any f (range_with_len (a + 1) n)) none).1 in
    let step : a + 1 + k ≡ a + suc k = omega arith in
    rw (← step) (none_passes f (a + 1) n k more (omega arith))

all_fail : (f : ℕ → Bool) (a n : ℕ) → ((k : ℕ) → k < n → f (a + k) ≡ false) → list_any f (range_with_len a n) ≡ false
all_fail f a zero h = refl
all_fail f a (suc n) h =
    let first : f a ≡ false = let e : a + 0 ≡ a = omega arith in rw e at (h 0 (omega arith)) in
    let others = all_fail f (a + 1) n (λ k lt. let e : a + 1 + k ≡ a + suc k = omega arith in rw e (h (suc k) (omega arith))) in
    rw first others

-- ---- tensors of cells, none of which is stuck

-- the cell at each index, undefined where it is stuck
abbrev pub or_undefined : (List ℕ → Option Cell) → List ℕ → Cell
or_undefined cell i = unwrap_or (cell i) Undef

pub record IsBuilt (shape : List ℕ) (w : Width) (cell : List ℕ → Option Cell) (t : TensorValue) : Type 0 where
  pub calm : (i : List ℕ) → IsIndexOf shape i → is_none (cell i) ≡ false
  pub is : t ≡ build shape w (or_undefined cell)

pub built_is : (shape : List ℕ) (w : Width) (cell : List ℕ → Option Cell) (t : TensorValue) → built_of shape w cell ≡ Some t → IsBuilt shape w cell t
unfolding built_of
built_is shape w cell t e = go (list_any (λ k. is_none (cell (unflat_of shape k))) (range_with_len 0 (cell_count shape))) refl e
  where
    go : (b : Bool) → list_any (λ k. is_none (cell (unflat_of shape k))) (range_with_len 0 (cell_count shape)) ≡ b
        → (if b then None else Some (build shape w (λ i. unwrap_or (cell i) Undef))) ≡ Some t → IsBuilt shape w cell t
    go true any e = absurd (cc)
    go false any e = record {
      calm = λ i h.
          let test : ℕ → Bool = λ k. is_none (cell (unflat_of shape k)) in
          let first : 0 + flat_of shape i ≡ flat_of shape i = omega arith in
          let here : test (flat_of shape i) ≡ false = ap test (sym first) ∙ none_passes test 0 (cell_count shape) (flat_of shape i) any (flat_of-below shape i h) in
          ap (λ index. is_none (cell index)) (sym (unflat_of-flat_of shape i h)) ∙ here;
      is = sym (same_Some (build shape w (or_undefined cell)) t e);
    }

pub is_built : (shape : List ℕ) (w : Width) (cell : List ℕ → Option Cell) → ((i : List ℕ) → IsIndexOf shape i → is_none (cell i) ≡ false)
    → built_of shape w cell ≡ Some (build shape w (or_undefined cell))
unfolding built_of
is_built shape w cell calm =
    let test : ℕ → Bool = λ k. is_none (cell (unflat_of shape k)) in
    let none = all_fail test 0 (cell_count shape) (λ k lt. let first : 0 + k ≡ k = omega arith in ap test first ∙ calm (unflat_of shape k) (unflat_of-within shape k lt)) in
    ap (λ (b : Bool). if b then None else Some (build shape w (or_undefined cell))) none

-- ---- an operation that is done cell by cell

-- the formula's cell at an index of the operands
abbrev pub cell_by : Formula → List TensorValue → List ℕ → Option Cell
cell_by f ts i = formula_cell f (map (λ t. at t i) ts)

-- it has a shape, which is that of the operands
pub record IsCellwise (f : Formula) (w : Width) (ts : List TensorValue) (t : TensorValue) : Type 0 where
  pub shape : List ℕ
  pub common : common_shape (map (λ t. t.shape) ts) ≡ Some shape
  pub built : IsBuilt shape w (cell_by f ts) t

cell_is : (op : Op) (seat : Seat) (f : Formula) (ts : List TensorValue) (shape : List ℕ) → giving op.kind op.operands op.result seat ≡ Some (gives_cells f)
    → cell_given op seat ts shape ≡ cell_by f ts
unfolding cell_given gives_cells
cell_is op seat f ts shape gives = λ j i. ap (λ (x : Option Giving). option_and_then (λ g. g.cell ts shape i) x) gives j

shape_is : (op : Op) (seat : Seat) (f : Formula) (shapes : List (List ℕ)) → giving op.kind op.operands op.result seat ≡ Some (gives_cells f)
    → shape_by op seat shapes ≡ common_shape shapes
unfolding gives_cells
shape_is op seat f shapes gives = ap (λ (x : Option Giving). option_and_then (λ g. g.shape shapes) x) gives

-- where it has a value, this is what it is
pub given_is : (op : Op) (seat : Seat) (f : Formula) (ts : List TensorValue) (t : TensorValue) → giving op.kind op.operands op.result seat ≡ Some (gives_cells f)
    → given op seat ts ≡ Some t → IsCellwise f (width_of op.result) ts t
unfolding given shape_given
given_is op seat f ts t gives e =
    start (have_all_extents (typing_of op.kind op.result) (map (λ t. t.shape) ts)) (common_shape (map (λ t. t.shape) ts)) refl
    (subst (λ (s : Option (List ℕ)). option_and_then (λ shape. built_of shape (width_of op.result) (cell_given op seat ts shape))
    (if have_all_extents (typing_of op.kind op.result) (map (λ t. t.shape) ts) then option_and_then (of_dims (dims_of op.result)) s else None) ≡ Some t) (shape_is op seat f (map (λ t. t.shape) ts) gives) e)
  where
    last : (shape : List ℕ) (b : Bool) → common_shape (map (λ t. t.shape) ts) ≡ Some shape
        → option_and_then (λ shape. built_of shape (width_of op.result) (cell_given op seat ts shape)) (if b then Some shape else None) ≡ Some t
        → IsCellwise f (width_of op.result) ts t
    last shape true common e = record {
      shape = shape;
      common = common;
      built = built_is shape (width_of op.result) (cell_by f ts) t
          (subst (λ cell. built_of shape (width_of op.result) cell ≡ Some t) (cell_is op seat f ts shape gives) e);
    }
    last shape false common e = absurd (cc)

    start : (b : Bool) (o : Option (List ℕ)) → common_shape (map (λ t. t.shape) ts) ≡ o
        → option_and_then (λ shape. built_of shape (width_of op.result) (cell_given op seat ts shape)) (if b then option_and_then (of_dims (dims_of op.result)) o else None) ≡ Some t
        → IsCellwise f (width_of op.result) ts t
    start true (Some shape) common e = last shape (have_extents (dims_of op.result) shape) common e
    start true None common e = absurd (cc)
    start false o common e = absurd (cc)

-- and it has one wherever the shapes fit and no cell is stuck
pub is_given : (op : Op) (seat : Seat) (f : Formula) (ts : List TensorValue) (shape : List ℕ) → giving op.kind op.operands op.result seat ≡ Some (gives_cells f)
    → have_all_extents (typing_of op.kind op.result) (map (λ t. t.shape) ts) ≡ true → common_shape (map (λ t. t.shape) ts) ≡ Some shape → have_extents (dims_of op.result) shape ≡ true
    → ((i : List ℕ) → IsIndexOf shape i → is_none (cell_by f ts i) ≡ false)
    → given op seat ts ≡ Some (build shape (width_of op.result) (or_undefined (cell_by f ts)))
unfolding given shape_given
is_given op seat f ts shape gives all common extents calm =
    let there : shape_given op seat (map (λ t. t.shape) ts) ≡ Some shape = shape_there in
    ap (option_and_then (λ (s : List ℕ). built_of s (width_of op.result) (cell_given op seat ts s))) there
    ∙ ap (built_of shape (width_of op.result)) (cell_is op seat f ts shape gives)
    ∙ is_built shape (width_of op.result) (cell_by f ts) calm
  where
    shape_there : (if have_all_extents (typing_of op.kind op.result) (map (λ t. t.shape) ts) then option_and_then (of_dims (dims_of op.result)) (shape_by op seat (map (λ t. t.shape) ts)) else None) ≡ Some shape
    shape_there =
        ap (λ (b : Bool). if b then option_and_then (of_dims (dims_of op.result)) (shape_by op seat (map (λ t. t.shape) ts)) else None) all
        ∙ ap (option_and_then (of_dims (dims_of op.result))) (shape_is op seat f (map (λ t. t.shape) ts) gives ∙ common)
        ∙ ap (λ (b : Bool). if b then Some shape else None) extents
