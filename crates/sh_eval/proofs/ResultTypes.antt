-- What an operation of a verified function gives is of the type of its value.
use Rattle.std.proofs.Common.{◌≡◌, ℕ, Bool, true, false, List, [], ◌∷◌, map, drop, Option, Some, None, refl, ap, sym, ◌∙◌, arith, subst}
use Rattle.std.proofs.lemmas.Option.{none-some, same_Some}
use Rattle.std.specs.List.{AllByRecursion}
use Rattle.std.specs.Prelude.{◌-◌, ◌<◌, ◌^◌, ◌+◌, IfSome, get_or, set, if◌then◌else◌, nat_lt, option_and_then, option_map}
use Rattle.sh_base.specs.Cells.{IsCellOf}
use Rattle.sh_base.specs.Shape.{flat_of}
use Rattle.sh_base.specs.declared.numbers.Cell.{Cell}
use Rattle.sh_base.specs.declared.numbers.Cell.TheVariants.{Undef}
use Rattle.sh_base.specs.declared.numbers.Width.{Width}
use Rattle.sh_base.specs.declared.operations.BinOp.{BinOp}
use Rattle.sh_base.specs.declared.places.Place.{Place}
use Rattle.sh_ir.specs.declared.arith_ops.Cast as declared_cast
use Rattle.sh_ir.specs.declared.arith_ops.Compare as declared_compare
use Rattle.sh_ir.specs.declared.arith_ops.Constant as declared_constant
use Rattle.sh_ir.specs.declared.arith_ops.Select as declared_select
use Rattle.sh_ir.specs.declared.operations.Op.{Op}
use Rattle.sh_ir.specs.declared.operations.OpKind.{OpKind}
use Rattle.sh_ir.specs.declared.operations.OpKind.TheVariants.{Constant, Binary, Compare, Select, Cast, Empty, ExtractSlice, InsertSlice, CollapseShape, ExpandShape, Fill, Matmul, BatchMatmul, Matvec, Vecmat, Dot, Conv1d, Conv2d, Transpose, Broadcast, Reduce, Generic, Sharding, Shard, AllGather, AllSlice, AllReduce, ReduceScatter, AllToAll, Shift, UpdateHalo, Take, Pad, Join, Call, Return}
use Rattle.sh_ir.specs.declared.shard_ops.AllSlice as declared_all_slice
use Rattle.sh_ir.specs.declared.shard_ops.Join as declared_join
use Rattle.sh_ir.specs.declared.shard_ops.Pad as declared_pad
use Rattle.sh_ir.specs.declared.shard_ops.Take as declared_take
use Rattle.sh_ir.specs.declared.tensor_ops.CollapseShape as declared_collapse_shape
use Rattle.sh_ir.specs.declared.tensor_ops.ExpandShape as declared_expand_shape
use Rattle.sh_ir.specs.declared.tensor_ops.ExtractSlice as declared_extract_slice
use Rattle.sh_ir.specs.declared.tensor_ops.InsertSlice as declared_insert_slice
use Rattle.sh_ir.specs.declared.types.ValueType.{ValueType}
use Rattle.sh_ir.specs.declared.types.ValueType.TheVariants as value_type
use Rattle.sh_ir.specs.Agreement.{dims_of, has_differing}
use Rattle.sh_ir.specs.Classes.{class_of}
use Rattle.sh_ir.specs.Formed.{is_spelled_type}
use Rattle.sh_ir.specs.Loops.{Structure, structure_of}
use Rattle.sh_ir.specs.Numbers.{as_naturals}
use Rattle.sh_ir.specs.Scope.{Scope}
use Rattle.sh_ir.specs.Typing.{typing_of}
use Rattle.sh_loops.specs.Structured.{CanNest, widths_of}
use Rattle.sh_loops.proofs.CellLaws.{constant_fits, undefined_fits}
use Rattle.sh_sem.proofs.TensorCells.{cells_fit}
use Rattle.sh_loops.proofs.StructuredLaws.{got_within}
use Rattle.sh_sem.specs.Given.{Giving, Seat, alone, built_of, cell_given, given, gives_cells, gives_collapse, gives_constant, gives_expansion, gives_insertion, gives_join, gives_nest, gives_padding, gives_piece, gives_slice, gives_undefined, giving, have_all_extents, of_dims, of_one, of_two, shape_by, shape_given}
use Rattle.sh_sem.specs.Pieces.{Piece, equal_piece, is_own, listed_piece, padded_cell, piece_cell}
use Rattle.sh_sem.specs.Reshapes.{reshaped_cell}
use Rattle.sh_sem.specs.Scalars.{formula_cell, width_of}
use Rattle.sh_sem.specs.Slices.{extracted_cell, index_in, inserted_cell, ranges_of}
use Rattle.sh_sem.specs.Types.{have_extents}
use Rattle.sh_tensor.specs.Tensor.{IsTensor, TensorValue, at, extent, joined_at}
use Rattle.sh_eval.specs.Evaluations.{FitsKind}
use Rattle.sh_eval.specs.Sources.{AreOfValueTypes, IsOfSourceType, IsOfValueType}
use Rattle.sh_eval.specs.Values.{IsFew}
use Rattle.sh_collectives.specs.VerifiedOps.{IsOfVerifiedOp}
use Rattle.sh_eval.specs.VerifiedOps.{GivesTensor}
use Rattle.sh_eval.proofs.CellFits.{IsBuilt, Small, all_at, at_within, binary_within, built_typed, cast_within, compare_within, nest_within, select_within}
use Rattle.sh_eval.proofs.Evaluable.{can_evaluate, collective_gives, extents_are, few_given, op_by}
use Rattle.sh_eval.proofs.LayoutLaws.{few_first, few_rest}
use Rattle.sh_eval.proofs.EvaluationLaws.{IsNest, convolution_nest, structured_nest}
use Rattle.sh_eval.proofs.OperandLaws.{all_types}
use Rattle.sh_eval.proofs.RuleFacts.{known_result, sound_result}
use Rattle.sh_eval.proofs.TypeLaws.{all_whole}

-- ---- widths

widths_all : (w : Width) (ts : List TensorValue) (ws : List Width) → widths_of ts ≡ ws → AllByRecursion (λ v. v ≡ w) ws
    → AllByRecursion (λ (t : TensorValue). t.width ≡ w) ts
widths_all w ts ws e h = mapped ts (subst (AllByRecursion (λ v. v ≡ w)) (sym e) h)
  where
    mapped : (ts : List TensorValue) → AllByRecursion (λ v. v ≡ w) (widths_of ts) → AllByRecursion (λ (t : TensorValue). t.width ≡ w) ts
    mapped [] h = tt
    mapped (t ∷ ts) h = (h.0, mapped ts h.1)

-- behind the first
behind_at : (w : Width) (ts : List TensorValue) (v : Width) (ws : List Width) (i : List ℕ) → AllByRecursion IsTensor ts
    → widths_of ts ≡ v ∷ ws → AllByRecursion (λ u. u ≡ w) ws
    → AllByRecursion (IsCellOf w) (drop 1 (map (λ t. at t i) ts))
behind_at w [] v ws i whole e h = tt
behind_at w (t ∷ ts) v ws i whole e h = all_at w ts i whole.1 (widths_all w ts ws (ap (drop 1) e) h)

-- ---- one tensor's cells, and two tensors'

one_cell : (w : Width) (ts : List TensorValue) (f : TensorValue → Cell) (c : Cell)
    → ((t : TensorValue) → IsTensor t → IsCellOf t.width (f t)) → AllByRecursion IsTensor ts
    → AllByRecursion (λ (t : TensorValue). t.width ≡ w) ts → of_one (λ t. Some (f t)) ts ≡ Some c → IsCellOf w c
one_cell w [] f c within whole same e = absurd (none-some c e)
one_cell w (t ∷ []) f c within whole same e =
    subst (IsCellOf w) (same_Some (f t) c e) (subst (λ v. IsCellOf v (f t)) same.0 (within t whole.0))
one_cell w (t ∷ u ∷ ts) f c within whole same e = absurd (none-some c e)

two_cells : (w : Width) (ts : List TensorValue) (f : TensorValue → TensorValue → Cell) (c : Cell)
    → ((t u : TensorValue) → IsTensor t → IsTensor u → t.width ≡ w → u.width ≡ w → IsCellOf w (f t u)) → AllByRecursion IsTensor ts
    → AllByRecursion (λ (t : TensorValue). t.width ≡ w) ts → of_two (λ t u. Some (f t u)) ts ≡ Some c → IsCellOf w c
two_cells w [] f c within whole same e = absurd (none-some c e)
two_cells w (t ∷ []) f c within whole same e = absurd (none-some c e)
two_cells w (t ∷ u ∷ []) f c within whole same e = subst (IsCellOf w) (same_Some (f t u) c e) (within t u whole.0 whole.1.0 same.0 same.1.0)
two_cells w (t ∷ u ∷ v ∷ ts) f c within whole same e = absurd (none-some c e)

inserted_within : (w : Width) (t u : TensorValue) (o : Option (List ℕ)) (j : List ℕ) → IsTensor t → IsTensor u → t.width ≡ w → u.width ≡ w
    → IsCellOf w (elim o [ None ↦ at u j | Some i ↦ at t i ])
inserted_within w t u None j a b f g = subst (λ v. IsCellOf v (at u j)) g (at_within u j b)
inserted_within w t u (Some i) j a b f g = subst (λ v. IsCellOf v (at t i)) f (at_within t i a)

reshaped_within : (t : TensorValue) (shape i : List ℕ) → IsTensor t → IsCellOf t.width (reshaped_cell t shape i)
reshaped_within t shape i is = got_within t.width t.cells (flat_of shape i) (cells_fit t t.width is refl)

-- ---- pieces, paddings and joins

piece_within : (w : Width) (ts : List TensorValue) (axis : ℕ) (i : List ℕ) (piece : ℕ → Option Piece) (c : Cell) → AllByRecursion IsTensor ts
    → AllByRecursion (λ (t : TensorValue). t.width ≡ w) ts → of_one (λ t. piece_cell axis t i (piece (get_or t.shape axis 0))) ts ≡ Some c
    → IsCellOf w c
piece_within w [] axis i piece c whole same e = absurd (none-some c e)
piece_within w (t ∷ u ∷ ts) axis i piece c whole same e = absurd (none-some c e)
piece_within w (t ∷ []) axis i piece c whole same e = go (piece (get_or t.shape axis 0)) e
  where
    go : (o : Option Piece) → piece_cell axis t i o ≡ Some c → IsCellOf w c
    go None f = absurd (none-some c f)
    go (Some x) f =
        subst (IsCellOf w) (same_Some (at t (set i axis (x.start + get_or i axis 0))) c f)
        (subst (λ v. IsCellOf v (at t (set i axis (x.start + get_or i axis 0)))) same.0 (at_within t (set i axis (x.start + get_or i axis 0)) whole.0))

one_of_both : (w : Width) (b : Bool) (c d : Cell) → IsCellOf w c → IsCellOf w d → IsCellOf w (if b then c else d)
one_of_both w true c d h k = h
one_of_both w false c d h k = k

pub joined_within : (w : Width) (axis : ℕ) (ts : List TensorValue) (i : List ℕ) → AllByRecursion IsTensor ts
    → AllByRecursion (λ (t : TensorValue). t.width ≡ w) ts → IsCellOf w (joined_at axis ts i)
joined_within w axis [] i whole same = tt
joined_within w axis (t ∷ ts) i whole same =
    one_of_both w (nat_lt (get_or i axis 0) (extent t axis)) (at t i) (joined_at axis ts (set i axis (get_or i axis 0 - extent t axis)))
    (subst (λ v. IsCellOf v (at t i)) same.0 (at_within t i whole.0))
    (joined_within w axis ts (set i axis (get_or i axis 0 - extent t axis)) whole.1 same.1)

-- ---- kind by kind

module _ (operands : List ℕ) (defines : Option ℕ) (result : ValueType) (place : Place) (seat : Seat) (ts : List TensorValue)
    (whole : AllByRecursion IsTensor ts) where
  constant_cells : (x : declared_constant.Constant) → FitsKind (Constant x) operands result ts → (shape i : List ℕ) (c : Cell)
      → cell_given (op_by (Constant x) operands defines result place) seat ts shape i ≡ Some c → IsCellOf (width_of result) c
  unfolding FitsKind cell_given giving gives_constant
  constant_cells x fits shape i c e = constant_fits (width_of result) x.contents (flat_of shape i) c fits e

  empty_cells : FitsKind (Empty) operands result ts → (shape i : List ℕ) (c : Cell)
      → cell_given (op_by (Empty) operands defines result place) seat ts shape i ≡ Some c → IsCellOf (width_of result) c
  unfolding FitsKind cell_given giving gives_undefined
  empty_cells fits shape i c e = undefined_fits (width_of result) c e

  binary_cells : (x : BinOp) → FitsKind (Binary x) operands result ts → (shape i : List ℕ) (c : Cell)
      → cell_given (op_by (Binary x) operands defines result place) seat ts shape i ≡ Some c → IsCellOf (width_of result) c
  unfolding FitsKind cell_given giving gives_cells formula_cell typing_of
  binary_cells x fits shape i c e =
      binary_within x (width_of result) (map (λ t. at t i) ts) c
      (all_at (width_of result) ts i whole (widths_all (width_of result) ts (width_of result ∷ width_of result ∷ []) fits
      (refl, (refl, tt)))) e

  compare_cells : (x : declared_compare.Compare) → FitsKind (Compare x) operands result ts → (shape i : List ℕ) (c : Cell)
      → cell_given (op_by (Compare x) operands defines result place) seat ts shape i ≡ Some c → IsCellOf (width_of result) c
  unfolding FitsKind cell_given giving gives_cells formula_cell typing_of
  compare_cells x fits shape i c e =
      subst (λ w. IsCellOf w c) (sym fits.1) (compare_within x.predicate (width_of x.operand_type) (map (λ t. at t i) ts) c e)

  select_cells : (x : declared_select.Select) → FitsKind (Select x) operands result ts → (shape i : List ℕ) (c : Cell)
      → cell_given (op_by (Select x) operands defines result place) seat ts shape i ≡ Some c → IsCellOf (width_of result) c
  unfolding FitsKind cell_given giving gives_cells formula_cell typing_of
  select_cells x fits shape i c e =
      select_within (width_of result) (map (λ t. at t i) ts) c
      (behind_at (width_of result) ts (width_of x.condition_type) (width_of result ∷ width_of result ∷ []) i whole fits
      (refl, (refl, tt))) e

  cast_cells : (x : declared_cast.Cast) → FitsKind (Cast x) operands result ts → (shape i : List ℕ) (c : Cell)
      → cell_given (op_by (Cast x) operands defines result place) seat ts shape i ≡ Some c → IsCellOf (width_of result) c
  unfolding FitsKind cell_given giving gives_cells formula_cell typing_of
  cast_cells x fits shape i c e =
      cast_within x.op (width_of x.operand_type) (width_of result) (map (λ t. at t i) ts) c fits.1
      (all_at (width_of x.operand_type) ts i whole
      (widths_all (width_of x.operand_type) ts (width_of x.operand_type ∷ []) fits.0 (refl, tt))) e

  extract_cells : (x : declared_extract_slice.ExtractSlice) → FitsKind (ExtractSlice x) operands result ts → (shape i : List ℕ) (c : Cell)
      → cell_given (op_by (ExtractSlice x) operands defines result place) seat ts shape i ≡ Some c → IsCellOf (width_of result) c
  unfolding FitsKind cell_given giving gives_slice
  extract_cells x fits shape i c e =
      one_cell (width_of result) ts (λ t. extracted_cell (ranges_of x.slice (dims_of x.source_type) t.shape) t i) c
      (λ t is. at_within t _ is) whole fits e

  insert_cells : (x : declared_insert_slice.InsertSlice) → FitsKind (InsertSlice x) operands result ts → (shape i : List ℕ) (c : Cell)
      → cell_given (op_by (InsertSlice x) operands defines result place) seat ts shape i ≡ Some c → IsCellOf (width_of result) c
  unfolding FitsKind cell_given giving gives_insertion
  insert_cells x fits shape i c e =
      two_cells (width_of result) ts (λ t u. inserted_cell (ranges_of x.slice (dims_of result) u.shape) t u i) c
      (λ t u a b f g. inserted_within (width_of result) t u
      (index_in (ranges_of x.slice (dims_of result) u.shape) i) i a b f g) whole fits e

  collapse_cells : (x : declared_collapse_shape.CollapseShape) → FitsKind (CollapseShape x) operands result ts
      → (shape i : List ℕ) (c : Cell) → cell_given (op_by (CollapseShape x) operands defines result place) seat ts shape i ≡ Some c
      → IsCellOf (width_of result) c
  unfolding FitsKind cell_given giving gives_collapse
  collapse_cells x fits shape i c e =
      one_cell (width_of result) ts (λ t. reshaped_cell t shape i) c (λ t is. reshaped_within t shape i is) whole fits e

  expand_cells : (x : declared_expand_shape.ExpandShape) → FitsKind (ExpandShape x) operands result ts → (shape i : List ℕ) (c : Cell)
      → cell_given (op_by (ExpandShape x) operands defines result place) seat ts shape i ≡ Some c → IsCellOf (width_of result) c
  unfolding FitsKind cell_given giving gives_expansion
  expand_cells x fits shape i c e =
      one_cell (width_of result) ts (λ t. reshaped_cell t shape i) c (λ t is. reshaped_within t shape i is) whole fits e

  taken_cells : (axis : ℕ) (i : List ℕ) (piece : ℕ → Option Piece) (c : Cell) → AllByRecursion (λ (t : TensorValue). t.width ≡ width_of result) ts
      → of_one (λ t. piece_cell axis t i (piece (get_or t.shape axis 0))) ts ≡ Some c → IsCellOf (width_of result) c
  taken_cells axis i piece c same e = piece_within (width_of result) ts axis i piece c whole same e

  all_slice_cells : (x : declared_all_slice.AllSlice) → FitsKind (AllSlice x) operands result ts → (shape i : List ℕ) (c : Cell)
      → cell_given (op_by (AllSlice x) operands defines result place) seat ts shape i ≡ Some c → IsCellOf (width_of result) c
  unfolding FitsKind cell_given giving gives_piece
  all_slice_cells x fits shape i c e = taken_cells x.slice_axis i (equal_piece seat.size seat.place) c fits e

  take_cells : (x : declared_take.Take) → FitsKind (Take x) operands result ts → (shape i : List ℕ) (c : Cell)
      → cell_given (op_by (Take x) operands defines result place) seat ts shape i ≡ Some c → IsCellOf (width_of result) c
  unfolding FitsKind cell_given giving gives_piece
  take_cells x fits shape i c e = taken_cells x.axis i (listed_piece (as_naturals x.starts) (as_naturals x.sizes) seat.place) c fits e

  pad_cells : (x : declared_pad.Pad) → FitsKind (Pad x) operands result ts → (shape i : List ℕ) (c : Cell)
      → cell_given (op_by (Pad x) operands defines result place) seat ts shape i ≡ Some c → IsCellOf (width_of result) c
  unfolding FitsKind cell_given giving gives_padding
  pad_cells x fits shape i c e =
      one_cell (width_of result) ts (λ t. padded_cell (as_naturals x.low) t i) c
      (λ t is. one_of_both t.width (is_own (as_naturals x.low) t.shape i) _ Undef (at_within t _ is) tt) whole fits e

  join_cells : (x : declared_join.Join) → FitsKind (Join x) operands result ts → (shape i : List ℕ) (c : Cell)
      → cell_given (op_by (Join x) operands defines result place) seat ts shape i ≡ Some c → IsCellOf (width_of result) c
  unfolding FitsKind cell_given giving gives_join
  join_cells x fits shape i c e = subst (IsCellOf (width_of result)) (same_Some (joined_at x.axis ts i) c e) (joined_within (width_of result) x.axis ts i whole fits)

  collective_cells : (kind : OpKind) → giving kind operands result seat ≡ None → (shape i : List ℕ) (c : Cell)
      → cell_given (op_by kind operands defines result place) seat ts shape i ≡ Some c → IsCellOf (width_of result) c
  unfolding cell_given
  collective_cells kind none shape i c e = absurd (none-some c (sym (ap (option_and_then (λ (x : Giving). x.cell ts shape i)) none) ∙ e))

  nest_cell_of : (kind : OpKind) (o : Option Structure) → IfSome o (λ s. CanNest s operands (width_of result) ts)
      → AllByRecursion Small (map (λ t. t.shape) ts) → (shape i : List ℕ) (c : Cell)
      → option_and_then (λ (x : Giving). x.cell ts shape i) (option_map (gives_nest operands) o) ≡ Some c → IsCellOf (width_of result) c
  unfolding gives_nest
  nest_cell_of kind None can small shape i c e = absurd (none-some c e)
  nest_cell_of kind (Some s) can small shape i c e = nest_within s operands (width_of result) ts i c can whole small e

  nest_cells : (kind : OpKind) → IsNest kind operands result ts → AllByRecursion Small (map (λ t. t.shape) ts)
      → (shape i : List ℕ) (c : Cell)
      → cell_given (op_by kind operands defines result place) seat ts shape i ≡ Some c → IsCellOf (width_of result) c
  unfolding cell_given
  nest_cells kind is small shape i c e =
      nest_cell_of kind (structure_of kind) is.fits.fits small shape i c
      (ap (option_and_then (λ (x : Giving). x.cell ts shape i)) (sym (is.gives seat)) ∙ e)

  kind_cells : (kind : OpKind) → GivesTensor (class_of kind) → FitsKind kind operands result ts → AllByRecursion Small (map (λ t. t.shape) ts)
      → (shape i : List ℕ) (c : Cell)
      → cell_given (op_by kind operands defines result place) seat ts shape i ≡ Some c → IsCellOf (width_of result) c
  kind_cells (Constant x) has fits small shape i c e = constant_cells x fits shape i c e
  kind_cells (Binary x) has fits small shape i c e = binary_cells x fits shape i c e
  kind_cells (Compare x) has fits small shape i c e = compare_cells x fits shape i c e
  kind_cells (Select x) has fits small shape i c e = select_cells x fits shape i c e
  kind_cells (Cast x) has fits small shape i c e = cast_cells x fits shape i c e
  kind_cells Empty has fits small shape i c e = empty_cells fits shape i c e
  kind_cells (ExtractSlice x) has fits small shape i c e = extract_cells x fits shape i c e
  kind_cells (InsertSlice x) has fits small shape i c e = insert_cells x fits shape i c e
  kind_cells (CollapseShape x) has fits small shape i c e = collapse_cells x fits shape i c e
  kind_cells (ExpandShape x) has fits small shape i c e = expand_cells x fits shape i c e
  kind_cells (Fill x) has fits small shape i c e =
      nest_cells (Fill x) (structured_nest (Fill x) operands result ts refl fits) small shape i c e
  kind_cells (Matmul x) has fits small shape i c e =
      nest_cells (Matmul x) (structured_nest (Matmul x) operands result ts refl fits) small shape i c e
  kind_cells (BatchMatmul x) has fits small shape i c e =
      nest_cells (BatchMatmul x) (structured_nest (BatchMatmul x) operands result ts refl fits) small shape i c e
  kind_cells (Matvec x) has fits small shape i c e =
      nest_cells (Matvec x) (structured_nest (Matvec x) operands result ts refl fits) small shape i c e
  kind_cells (Vecmat x) has fits small shape i c e =
      nest_cells (Vecmat x) (structured_nest (Vecmat x) operands result ts refl fits) small shape i c e
  kind_cells (Dot x) has fits small shape i c e =
      nest_cells (Dot x) (structured_nest (Dot x) operands result ts refl fits) small shape i c e
  kind_cells (Conv1d x) has fits small shape i c e =
      nest_cells (Conv1d x) (convolution_nest (Conv1d x) operands result ts refl fits) small shape i c e
  kind_cells (Conv2d x) has fits small shape i c e =
      nest_cells (Conv2d x) (convolution_nest (Conv2d x) operands result ts refl fits) small shape i c e
  kind_cells (Transpose x) has fits small shape i c e =
      nest_cells (Transpose x) (structured_nest (Transpose x) operands result ts refl fits) small shape i c e
  kind_cells (Broadcast x) has fits small shape i c e =
      nest_cells (Broadcast x) (structured_nest (Broadcast x) operands result ts refl fits) small shape i c e
  kind_cells (Reduce x) has fits small shape i c e =
      nest_cells (Reduce x) (structured_nest (Reduce x) operands result ts refl fits) small shape i c e
  kind_cells (Generic x) has fits small shape i c e =
      nest_cells (Generic x) (structured_nest (Generic x) operands result ts refl fits) small shape i c e
  kind_cells (Sharding x) has fits small shape i c e = absurd has
  kind_cells (Shard x) has fits small shape i c e = absurd has
  kind_cells (AllGather x) has fits small shape i c e = collective_cells (AllGather x) (collective_gives (AllGather x) operands result seat tt) shape i c e
  kind_cells (AllSlice x) has fits small shape i c e = all_slice_cells x fits shape i c e
  kind_cells (AllReduce x) has fits small shape i c e = collective_cells (AllReduce x) (collective_gives (AllReduce x) operands result seat tt) shape i c e
  kind_cells (ReduceScatter x) has fits small shape i c e = collective_cells (ReduceScatter x) (collective_gives (ReduceScatter x) operands result seat tt) shape i c e
  kind_cells (AllToAll x) has fits small shape i c e = collective_cells (AllToAll x) (collective_gives (AllToAll x) operands result seat tt) shape i c e
  kind_cells (Shift x) has fits small shape i c e = collective_cells (Shift x) (collective_gives (Shift x) operands result seat tt) shape i c e
  kind_cells (UpdateHalo x) has fits small shape i c e = collective_cells (UpdateHalo x) (collective_gives (UpdateHalo x) operands result seat tt) shape i c e
  kind_cells (Take x) has fits small shape i c e = take_cells x fits shape i c e
  kind_cells (Pad x) has fits small shape i c e = pad_cells x fits shape i c e
  kind_cells (Join x) has fits small shape i c e = join_cells x fits shape i c e
  kind_cells (Call x) has fits small shape i c e = absurd has
  kind_cells (Return x) has fits small shape i c e = absurd has

-- ---- extents are words

few_small : (shape : List ℕ) → IsFew shape → Small shape
few_small [] few = tt
few_small (n ∷ shape) few =
    let first = few_first n shape few in
    let small : n < 2 ^ 64 = omega (arith, first) in
    (small, few_small shape (few_rest n shape few))

type_small : (type : ValueType) (t : TensorValue) → IsOfValueType type t → Small t.shape
type_small (value_type.Tensor type) t h = few_small t.shape h.few
type_small (value_type.Scalar w) t h = subst Small (sym h.shape) tt
type_small value_type.Nothing t h = absurd h
type_small value_type.Sharding t h = absurd h
type_small value_type.Index t h = absurd h

-- the extents of all operands
all_small : (types : List ValueType) (ts : List TensorValue) → AreOfValueTypes types ts → AllByRecursion Small (map (λ t. t.shape) ts)
all_small [] [] h = tt
all_small [] (t ∷ ts) h = absurd h
all_small (type ∷ types) [] h = absurd h
all_small (type ∷ types) (t ∷ ts) h = (type_small type t h.0, all_small types ts h.1)

-- ---- the type of the result

no_extents : (shape : List ℕ) → have_extents [] shape ≡ true → shape ≡ []
no_extents [] h = refl
no_extents (n ∷ shape) h = absurd (cc)

-- a tensor of the extents and the width of a type is of the type
pub of_type : (result : ValueType) (shape : List ℕ) (t : TensorValue) → is_spelled_type result ≡ true → have_extents (dims_of result) shape ≡ true
    → IsFew shape → IsBuilt shape (width_of result) t → IsOfValueType result t
of_type (value_type.Tensor type) shape t spelled h few is =
    record {
      extents = subst (λ s. have_extents type.dims s ≡ true) (sym is.shape_is) h;
      width = is.width_is;
      whole = is.whole;
      few = subst IsFew (sym is.shape_is) few;
    }
of_type (value_type.Scalar w) shape t spelled h few is =
    record { shape = is.shape_is ∙ no_extents shape h; width = is.width_is; whole = is.whole }
of_type value_type.Nothing shape t spelled h few is = let none : false ≡ true = spelled in absurd (cc)
of_type value_type.Sharding shape t spelled h few is = let none : false ≡ true = spelled in absurd (cc)
of_type value_type.Index shape t spelled h few is = let none : false ≡ true = spelled in absurd (cc)

-- of a type that knows all extents it has these
pub source_type : (type : ValueType) (t : TensorValue) → has_differing type ≡ false → IsOfValueType type t → IsOfSourceType type t
source_type (value_type.Tensor type) t known h =
    record { extents = extents_are type.dims t.shape known h.extents; width = h.width; whole = h.whole }
source_type (value_type.Scalar w) t known h = h
source_type value_type.Nothing t known h = absurd h
source_type value_type.Sharding t known h = absurd h
source_type value_type.Index t known h = absurd h

-- the shape that is given has the extents of the result's type
shape_has : (op : Op) (seat : Seat) (ts : List TensorValue) (shape : List ℕ) → shape_given op seat (map (λ t. t.shape) ts) ≡ Some shape
    → have_extents (dims_of op.result) shape ≡ true
unfolding shape_given
shape_has op seat ts shape h = first (have_all_extents (typing_of op.kind op.result) (map (λ t. t.shape) ts)) h
  where
    third : (s : List ℕ) (b : Bool) → b ≡ have_extents (dims_of op.result) s → (if b then Some s else None) ≡ Some shape
        → have_extents (dims_of op.result) shape ≡ true
    third s true is e = subst (λ z. have_extents (dims_of op.result) z ≡ true) (same_Some s shape e) (sym is)
    third s false is e = absurd (none-some shape e)

    second : (o : Option (List ℕ)) → option_and_then (of_dims (dims_of op.result)) o ≡ Some shape
        → have_extents (dims_of op.result) shape ≡ true
    second None e = absurd (none-some shape e)
    second (Some s) e = third s (have_extents (dims_of op.result) s) refl e

    first : (b : Bool)
        → (if b then option_and_then (of_dims (dims_of op.result)) (shape_by op seat (map (λ t. t.shape) ts)) else None) ≡ Some shape
        → have_extents (dims_of op.result) shape ≡ true
    first true e = second (shape_by op seat (map (λ t. t.shape) ts)) e
    first false e = absurd (none-some shape e)

-- What is given on operands of the types that are written for them is of the result's type, where it
-- has few cells.
pub result_typed : (scope : Scope) (op : Op) (seat : Seat) (ts : List TensorValue) → IsOfVerifiedOp scope op → GivesTensor (class_of op.kind)
    → AreOfValueTypes (all_types scope op) ts → IfSome (shape_given op seat (map (λ t. t.shape) ts)) IsFew
    → (t : TensorValue) → given op seat ts ≡ Some t → IsOfValueType op.result t
unfolding given
result_typed scope op seat ts v has typed few t e = go (shape_given op seat (map (λ t. t.shape) ts)) refl few e
  where
    go : (o : Option (List ℕ)) → shape_given op seat (map (λ t. t.shape) ts) ≡ o → IfSome o IsFew
        → option_and_then (λ shape. built_of shape (width_of op.result) (cell_given op seat ts shape)) o ≡ Some t
        → IsOfValueType op.result t
    go None is small f = absurd (none-some t f)
    go (Some shape) is small f =
        let whole = all_whole (all_types scope op) ts typed in
        let words = all_small (all_types scope op) ts typed in
        let fits = (can_evaluate scope op seat ts v has typed few).fits in
        of_type op.result shape t (sound_result scope op v has).spelled (shape_has op seat ts shape is) small
        (built_typed shape (width_of op.result) (cell_given op seat ts shape)
        (λ i c found. kind_cells op.operands op.defines op.result op.place seat ts whole op.kind has fits words shape i c found) t f)

-- in source form
pub result_typed_alone : (scope : Scope) (op : Op) (ts : List TensorValue) → scope.device ≡ None → IsOfVerifiedOp scope op
    → GivesTensor (class_of op.kind) → AreOfValueTypes (all_types scope op) ts → (t : TensorValue) → given op alone ts ≡ Some t
    → IsOfValueType op.result t
result_typed_alone scope op ts none v has typed t e =
    result_typed scope op alone ts v has typed (few_given op alone ts (known_result scope op none v has) (sound_result scope op v has).small) t e
