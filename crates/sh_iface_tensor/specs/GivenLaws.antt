-- SliceKind an operation gives, whatever its kind: a shape, and the cells where none is stuck.
use Rattle.std.proofs.Common.{◌≡◌, ℕ, Bool, true, false, List, map, Option, Some, None, refl, ap, ◌∙◌, subst}
use Rattle.std.specs.Prelude.{is_none, if◌then◌else◌, option_and_then}
use Rattle.sh_base.specs.Shape.{IsIndexOf}
use Rattle.sh_ir.specs.declared.operations.Op.{Op}
use Rattle.sh_ir.specs.Agreement.{dims_of}
use Rattle.sh_ir.specs.Typing.{typing_of}
use Rattle.sh_sem.specs.Given.{Giving, Seat, given, giving, shape_given, shape_by, cell_given, built_of, of_dims, have_all_extents}
use Rattle.sh_sem.specs.Scalars.{width_of}
use Rattle.sh_sem.specs.Types.{have_extents}
use Rattle.sh_tensor.specs.Tensor.{TensorValue, build}
use Rattle.sh_iface.proofs.ElementGiven.{or_undefined, IsBuilt, built_is, is_built}

-- it has a shape, and is built of the cells
pub record IsGiven (x : Giving) (op : Op) (ts : List TensorValue) (t : TensorValue) : Type 0 where
  pub shape : List ℕ
  pub shaped : x.shape (map (λ t. t.shape) ts) ≡ Some shape
  pub extents : have_extents (dims_of op.result) shape ≡ true
  pub built : IsBuilt shape (width_of op.result) (x.cell ts shape) t

cell_is : (op : Op) (seat : Seat) (x : Giving) (ts : List TensorValue) (shape : List ℕ) → giving op.kind op.operands op.result seat ≡ Some x
    → cell_given op seat ts shape ≡ x.cell ts shape
unfolding cell_given
cell_is op seat x ts shape gives = λ j i. ap (λ (o : Option Giving). option_and_then (λ g. g.cell ts shape i) o) gives j

shape_is : (op : Op) (seat : Seat) (x : Giving) (shapes : List (List ℕ)) → giving op.kind op.operands op.result seat ≡ Some x
    → shape_by op seat shapes ≡ x.shape shapes
shape_is op seat x shapes gives = ap (λ (o : Option Giving). option_and_then (λ g. g.shape shapes) o) gives

-- where it has a value, this is what it is
pub given_is : (op : Op) (seat : Seat) (x : Giving) (ts : List TensorValue) (t : TensorValue) → giving op.kind op.operands op.result seat ≡ Some x
    → given op seat ts ≡ Some t → IsGiven x op ts t
unfolding given shape_given
given_is op seat x ts t gives e =
    start (have_all_extents (typing_of op.kind op.result) (map (λ t. t.shape) ts)) (x.shape (map (λ t. t.shape) ts)) refl
    (subst (λ (s : Option (List ℕ)). option_and_then (λ shape. built_of shape (width_of op.result) (cell_given op seat ts shape))
    (if have_all_extents (typing_of op.kind op.result) (map (λ t. t.shape) ts) then option_and_then (of_dims (dims_of op.result)) s else None) ≡ Some t) (shape_is op seat x (map (λ t. t.shape) ts) gives) e)
  where
    last : (shape : List ℕ) (b : Bool) → have_extents (dims_of op.result) shape ≡ b → x.shape (map (λ t. t.shape) ts) ≡ Some shape
        → option_and_then (λ shape. built_of shape (width_of op.result) (cell_given op seat ts shape)) (if b then Some shape else None) ≡ Some t
        → IsGiven x op ts t
    last shape true extents shaped e = record {
      shape = shape;
      shaped = shaped;
      extents = extents;
      built = built_is shape (width_of op.result) (x.cell ts shape) t
          (subst (λ cell. built_of shape (width_of op.result) cell ≡ Some t) (cell_is op seat x ts shape gives) e);
    }
    last shape false extents shaped e = absurd (cc)

    start : (b : Bool) (o : Option (List ℕ)) → x.shape (map (λ t. t.shape) ts) ≡ o
        → option_and_then (λ shape. built_of shape (width_of op.result) (cell_given op seat ts shape)) (if b then option_and_then (of_dims (dims_of op.result)) o else None) ≡ Some t
        → IsGiven x op ts t
    start true (Some shape) shaped e = last shape (have_extents (dims_of op.result) shape) refl shaped e
    start true None shaped e = absurd (cc)
    start false o shaped e = absurd (cc)

-- and it has one wherever the shapes fit and no cell is stuck
pub is_given : (op : Op) (seat : Seat) (x : Giving) (ts : List TensorValue) (shape : List ℕ) → giving op.kind op.operands op.result seat ≡ Some x
    → have_all_extents (typing_of op.kind op.result) (map (λ t. t.shape) ts) ≡ true → x.shape (map (λ t. t.shape) ts) ≡ Some shape → have_extents (dims_of op.result) shape ≡ true
    → ((i : List ℕ) → IsIndexOf shape i → is_none (x.cell ts shape i) ≡ false)
    → given op seat ts ≡ Some (build shape (width_of op.result) (or_undefined (x.cell ts shape)))
unfolding given shape_given
is_given op seat x ts shape gives all shaped extents calm =
    let there : shape_given op seat (map (λ t. t.shape) ts) ≡ Some shape = shape_there in
    ap (option_and_then (λ (s : List ℕ). built_of s (width_of op.result) (cell_given op seat ts s))) there
    ∙ ap (built_of shape (width_of op.result)) (cell_is op seat x ts shape gives)
    ∙ is_built shape (width_of op.result) (x.cell ts shape) calm
  where
    shape_there : (if have_all_extents (typing_of op.kind op.result) (map (λ t. t.shape) ts) then option_and_then (of_dims (dims_of op.result)) (shape_by op seat (map (λ t. t.shape) ts)) else None) ≡ Some shape
    shape_there =
        ap (λ (b : Bool). if b then option_and_then (of_dims (dims_of op.result)) (shape_by op seat (map (λ t. t.shape) ts)) else None) all
        ∙ ap (option_and_then (of_dims (dims_of op.result))) (shape_is op seat x (map (λ t. t.shape) ts) gives ∙ shaped)
        ∙ ap (λ (b : Bool). if b then Some shape else None) extents
