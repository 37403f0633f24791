-- Creators, element operations, slices and reshapes of verified functions have operands of the widths at which they work.
use Rattle.std.proofs.Common.{◌≡◌, ℕ, zero, suc, ◌<◌, true, List, [], ◌∷◌, length, get_or, refl, ap, sym, ◌∙◌, arith, subst}
use Rattle.std.proofs.lemmas.Bool.Decides.{nat_tests}
use Rattle.std.specs.List.{All, AllByRecursion, list_all}
use Rattle.std.specs.Prelude.{◌^◌, nat_eq}
use Rattle.sh_base.specs.Cells.{IsCellOf, bits_of}
use Rattle.sh_base.specs.declared.numbers.Cell.{Cell}
use Rattle.sh_base.specs.declared.numbers.Cell.TheVariants.{Undef, Val}
use Rattle.sh_base.specs.declared.numbers.Width.{Width}
use Rattle.sh_base.specs.declared.numbers.Width.TheVariants.{I1}
use Rattle.sh_base.specs.declared.operations.BinOp.{BinOp}
use Rattle.sh_base.specs.declared.operations.CastOp.{CastOp}
use Rattle.sh_base.specs.declared.operations.CastOp.TheVariants.{Extsi, Extui, Trunci}
use Rattle.sh_int.specs.Elements.{CanCast}
use Rattle.sh_ir.specs.declared.arith_ops.Cast as declared_cast
use Rattle.sh_ir.specs.declared.arith_ops.Compare as declared_compare
use Rattle.sh_ir.specs.declared.arith_ops.Constant as declared_constant
use Rattle.sh_ir.specs.declared.arith_ops.Contents.{Contents}
use Rattle.sh_ir.specs.declared.arith_ops.Contents.TheVariants.{Held, Broken}
use Rattle.sh_ir.specs.declared.arith_ops.Select as declared_select
use Rattle.sh_ir.specs.declared.operations.OpKind.TheVariants.{Constant, Binary, Compare, Select, Cast, Empty, ExtractSlice, InsertSlice, CollapseShape, ExpandShape, AllSlice, Take, Pad, Join}
use Rattle.sh_ir.specs.declared.shard_ops.AllSlice as declared_all_slice
use Rattle.sh_ir.specs.declared.shard_ops.Join as declared_join
use Rattle.sh_ir.specs.declared.shard_ops.Pad as declared_pad
use Rattle.sh_ir.specs.declared.shard_ops.Take as declared_take
use Rattle.sh_ir.specs.declared.tensor_ops.CollapseShape as declared_collapse_shape
use Rattle.sh_ir.specs.declared.tensor_ops.ExpandShape as declared_expand_shape
use Rattle.sh_ir.specs.declared.tensor_ops.ExtractSlice as declared_extract_slice
use Rattle.sh_ir.specs.declared.tensor_ops.InsertSlice as declared_insert_slice
use Rattle.sh_ir.specs.declared.types.ValueType.{ValueType}
use Rattle.sh_ir.specs.declared.types.ValueType.TheVariants as value_type
use Rattle.sh_ir.specs.Agreement.{cell_bits, same_bits, same_rank_and_bits}
use Rattle.sh_ir.specs.Literals.{are_held, fills, is_held, is_literal_cell}
use Rattle.sh_ir.specs.Operands.{can_join, is_part_of, operands_fit}
use Rattle.sh_ir.specs.Results.{changes_bits, is_cast, is_slice, result_fits}
use Rattle.sh_ir.specs.Scope.{Scope}
use Rattle.sh_ir.specs.Typing.{typing_of}
use Rattle.sh_ir.specs.Written.{first_type, test_type}
use Rattle.sh_loops.proofs.InsideLaws.{below_by, both_left, both_right}
use Rattle.sh_loops.specs.Cells.{HoldsCellsOf}
use Rattle.sh_sem.specs.Scalars.{width_of}
use Rattle.sh_tensor.specs.Tensor.{TensorValue}
use Rattle.sh_eval.specs.Evaluations.{FitsKind, HaveWidth}
use Rattle.sh_eval.specs.Sources.{AreOfValueTypes, has_value}
use Rattle.sh_eval.proofs.TypeLaws.{bits_are, typed_width, typed_widths, width_by_bits}

-- ---- widths

-- tensors of types of one width
pub all_of_width : (w : Width) (types : List ValueType) (ts : List TensorValue) → AreOfValueTypes types ts
    → AllByRecursion (λ t. width_of t ≡ w) types → AllByRecursion (λ (t : TensorValue). t.width ≡ w) ts
all_of_width w [] [] h same = tt
all_of_width w [] (t ∷ ts) h same = absurd h
all_of_width w (type ∷ types) [] h same = absurd h
all_of_width w (type ∷ types) (t ∷ ts) h same = (typed_width type t h.0 ∙ same.0, all_of_width w types ts h.1 same.1)

pub test_width : (t : ValueType) → has_value t ≡ true → width_of (test_type t) ≡ I1
test_width (value_type.Tensor t) h = refl
test_width (value_type.Scalar w) h = refl
test_width value_type.Nothing h = refl
test_width value_type.Sharding h = refl
test_width value_type.Index h = refl

can_by_bits : (op : CastOp) (m n : ℕ) (v w : Width) → m ≡ bits_of v → n ≡ bits_of w → changes_bits op m n ≡ true → CanCast op v w
can_by_bits Extsi m n v w from to h = let l = below_by m n h in omega (arith, from, to, l)
can_by_bits Extui m n v w from to h = let l = below_by m n h in omega (arith, from, to, l)
can_by_bits Trunci m n v w from to h = let l = below_by n m h in omega (arith, from, to, l)

-- a cast between types that goes the way that its name says goes so between their widths
pub can_cast : (op : CastOp) (t u : ValueType) → has_value t ≡ true → has_value u ≡ true
    → changes_bits op (cell_bits t) (cell_bits u) ≡ true → CanCast op (width_of t) (width_of u)
can_cast op t u a b h = can_by_bits op (cell_bits t) (cell_bits u) (width_of t) (width_of u) (bits_are t a) (bits_are u b) h

-- ---- literals

cell_held : (w : Width) (c : Cell) → is_literal_cell w c ≡ true → IsCellOf w c
cell_held w Undef h = tt
cell_held w (Val v) h = below_by v (2 ^ bits_of w) h

pub cells_held : (w : Width) (cells : List Cell) → list_all (is_literal_cell w) cells ≡ true → All (IsCellOf w) cells
cells_held w [] h = λ k d l. absurd (omega (arith, l))
cells_held w (c ∷ cells) h = go (cells_held w cells (both_right (is_literal_cell w c) (list_all (is_literal_cell w) cells) h))
  where
    go : All (IsCellOf w) cells → (k : ℕ) (d : Cell) → k < length (c ∷ cells) → IsCellOf w (get_or (c ∷ cells) k d)
    go rest zero d l = cell_held w c (both_left (is_literal_cell w c) (list_all (is_literal_cell w) cells) h)
    go rest (suc k) d l = rest k d (omega (arith, l))

type_held : (t : ValueType) (cells : List Cell) → are_held t cells ≡ true → All (IsCellOf (width_of t)) cells
type_held (value_type.Scalar w) cells h = cells_held w cells (both_right (nat_eq (length cells) 1) (list_all (is_literal_cell w) cells) h)
type_held (value_type.Tensor t) cells h =
    cells_held t.width cells (both_right (fills t.dims cells) (list_all (is_literal_cell t.width) cells) h)
type_held value_type.Nothing cells h = absurd (cc)
type_held value_type.Sharding cells h = absurd (cc)
type_held value_type.Index cells h = absurd (cc)

contents_held : (t : ValueType) (contents : Contents) → is_held (record { value_type = t; contents = contents }) ≡ true
    → HoldsCellsOf (width_of t) contents
contents_held t Broken h = tt
contents_held t (Held cells) h = type_held t cells h

-- the cells of a literal that is held are of the width of its type
pub constant_held : (x : declared_constant.Constant) → is_held x ≡ true → HoldsCellsOf (width_of x.value_type) x.contents
constant_held x h = contents_held x.value_type x.contents h

-- ---- creators

pub constant_fits : (x : declared_constant.Constant) (operands : List ℕ) (result : ValueType) (ts : List TensorValue) → is_held x ≡ true
    → result ≡ x.value_type → FitsKind (Constant x) operands result ts
unfolding FitsKind
constant_fits x operands result ts held is = subst (λ t. HoldsCellsOf (width_of t) x.contents) (sym is) (constant_held x held)

pub empty_fits : (operands : List ℕ) (result : ValueType) (ts : List TensorValue) → FitsKind Empty operands result ts
unfolding FitsKind
empty_fits operands result ts = tt

-- ---- element operations

pub binary_fits : (x : BinOp) (operands : List ℕ) (result : ValueType) (ts : List TensorValue)
    → AreOfValueTypes (typing_of (Binary x) result) ts → FitsKind (Binary x) operands result ts
unfolding FitsKind
binary_fits x operands result ts typed = typed_widths (typing_of (Binary x) result) ts typed

pub compare_fits : (x : declared_compare.Compare) (operands : List ℕ) (result : ValueType) (ts : List TensorValue)
    → AreOfValueTypes (typing_of (Compare x) result) ts → has_value x.operand_type ≡ true
    → result ≡ test_type x.operand_type → FitsKind (Compare x) operands result ts
unfolding FitsKind
compare_fits x operands result ts typed value is =
    (typed_widths (typing_of (Compare x) result) ts typed, ap width_of is ∙ test_width x.operand_type value)

pub select_fits : (x : declared_select.Select) (operands : List ℕ) (result : ValueType) (ts : List TensorValue)
    → AreOfValueTypes (typing_of (Select x) result) ts → FitsKind (Select x) operands result ts
unfolding FitsKind
select_fits x operands result ts typed = typed_widths (typing_of (Select x) result) ts typed

pub cast_fits : (scope : Scope) (x : declared_cast.Cast) (operands : List ℕ) (result : ValueType) (ts : List TensorValue)
    → AreOfValueTypes (typing_of (Cast x) result) ts → has_value x.operand_type ≡ true
    → has_value result ≡ true → result_fits scope (Cast x) result ≡ true → FitsKind (Cast x) operands result ts
unfolding FitsKind result_fits is_cast
cast_fits scope x operands result ts typed from to fits =
    (typed_widths (typing_of (Cast x) result) ts typed, can_cast x.op x.operand_type result from to (both_left _ _ fits))

-- ---- slices and reshapes

one_source : (source result : ValueType) (ts : List TensorValue) → AreOfValueTypes (source ∷ []) ts → has_value source ≡ true
    → has_value result ≡ true → same_bits source result ≡ true → HaveWidth result ts
one_source source result ts typed a b same =
    all_of_width (width_of result) (source ∷ []) ts typed (width_by_bits source result a b same, tt)

pub extract_fits : (scope : Scope) (x : declared_extract_slice.ExtractSlice) (operands : List ℕ) (result : ValueType)
    (ts : List TensorValue) → AreOfValueTypes (typing_of (ExtractSlice x) result) ts
    → has_value x.source_type ≡ true → has_value result ≡ true → result_fits scope (ExtractSlice x) result ≡ true
    → FitsKind (ExtractSlice x) operands result ts
unfolding FitsKind result_fits is_slice typing_of
extract_fits scope x operands result ts typed from to fits =
    one_source x.source_type result ts typed from to (both_left _ _ (both_left _ _ fits))

pub insert_fits : (scope : Scope) (x : declared_insert_slice.InsertSlice) (operands : List ℕ) (result : ValueType) (ts : List TensorValue)
    → AreOfValueTypes (typing_of (InsertSlice x) result) ts
    → has_value x.source_type ≡ true → has_value result ≡ true → operands_fit scope (InsertSlice x) result ≡ true
    → FitsKind (InsertSlice x) operands result ts
unfolding FitsKind operands_fit is_part_of typing_of
insert_fits scope x operands result ts typed from to fits =
    all_of_width (width_of result) (x.source_type ∷ result ∷ []) ts typed
    (width_by_bits x.source_type result from to (both_left _ _ (both_left _ _ fits)), (refl, tt))

pub collapse_fits : (scope : Scope) (x : declared_collapse_shape.CollapseShape) (operands : List ℕ) (result : ValueType)
    (ts : List TensorValue) → AreOfValueTypes (typing_of (CollapseShape x) result) ts
    → has_value x.source_type ≡ true → has_value result ≡ true → result_fits scope (CollapseShape x) result ≡ true
    → FitsKind (CollapseShape x) operands result ts
unfolding FitsKind result_fits typing_of
collapse_fits scope x operands result ts typed from to fits = one_source x.source_type result ts typed from to (both_left _ _ fits)

pub expand_fits : (scope : Scope) (x : declared_expand_shape.ExpandShape) (operands : List ℕ) (result : ValueType) (ts : List TensorValue)
    → AreOfValueTypes (typing_of (ExpandShape x) result) ts
    → has_value x.source_type ≡ true → has_value result ≡ true → result_fits scope (ExpandShape x) result ≡ true
    → FitsKind (ExpandShape x) operands result ts
unfolding FitsKind result_fits typing_of
expand_fits scope x operands result ts typed from to fits = one_source x.source_type result ts typed from to (both_left _ _ fits)

-- ---- layouts of devices

pub all_slice_fits : (scope : Scope) (x : declared_all_slice.AllSlice) (operands : List ℕ) (result : ValueType) (ts : List TensorValue)
    → AreOfValueTypes (typing_of (AllSlice x) result) ts
    → has_value x.operand_type ≡ true → has_value result ≡ true → result_fits scope (AllSlice x) result ≡ true
    → FitsKind (AllSlice x) operands result ts
unfolding FitsKind result_fits typing_of
all_slice_fits scope x operands result ts typed from to fits =
    one_source x.operand_type result ts typed from to (both_left _ _ (both_left _ _ fits))

pub take_fits : (scope : Scope) (x : declared_take.Take) (operands : List ℕ) (result : ValueType) (ts : List TensorValue)
    → AreOfValueTypes (typing_of (Take x) result) ts
    → has_value x.operand_type ≡ true → has_value result ≡ true → result_fits scope (Take x) result ≡ true
    → FitsKind (Take x) operands result ts
unfolding FitsKind result_fits typing_of
take_fits scope x operands result ts typed from to fits = one_source x.operand_type result ts typed from to (both_left _ _ (both_left _ _ fits))

pub pad_fits : (scope : Scope) (x : declared_pad.Pad) (operands : List ℕ) (result : ValueType) (ts : List TensorValue)
    → AreOfValueTypes (typing_of (Pad x) result) ts
    → has_value x.operand_type ≡ true → has_value result ≡ true → result_fits scope (Pad x) result ≡ true
    → FitsKind (Pad x) operands result ts
unfolding FitsKind result_fits typing_of
pad_fits scope x operands result ts typed from to fits = one_source x.operand_type result ts typed from to (both_left _ _ (both_left _ _ fits))

-- types of the width of the first have that of the result
widths_by_first : (first result : ValueType) (types : List ValueType) → list_all has_value types ≡ true → has_value result ≡ true
    → list_all (same_rank_and_bits first) types ≡ true → same_bits first result ≡ true
    → AllByRecursion (λ t. width_of t ≡ width_of result) types
widths_by_first first result [] values value all one = tt
widths_by_first first result (t ∷ types) values value all one =
    let here = both_left _ _ (both_left (same_rank_and_bits first t) (list_all (same_rank_and_bits first) types) all) in
    let same : same_bits t result ≡ true = bits_by_first (cell_bits first) (cell_bits t) (cell_bits result) here one in (
      width_by_bits t result (both_left (has_value t) (list_all has_value types) values) value same,
      widths_by_first first result types (both_right (has_value t) (list_all has_value types) values) value
          (both_right (same_rank_and_bits first t) (list_all (same_rank_and_bits first) types) all) one,
    )
  where
    bits_by_first : (a b c : ℕ) → nat_eq a b ≡ true → nat_eq a c ≡ true → nat_eq b c ≡ true
    bits_by_first a b c h k = grind (arith, nat_tests)

pub join_fits : (scope : Scope) (x : declared_join.Join) (operands : List ℕ) (result : ValueType) (ts : List TensorValue)
    → AreOfValueTypes (typing_of (Join x) result) ts
    → list_all has_value x.operand_types ≡ true → has_value result ≡ true → operands_fit scope (Join x) result ≡ true
    → result_fits scope (Join x) result ≡ true → FitsKind (Join x) operands result ts
unfolding FitsKind operands_fit result_fits typing_of can_join
join_fits scope x operands result ts typed values value fits gives =
    all_of_width (width_of result) x.operand_types ts typed
    (widths_by_first (first_type x.operand_types) result x.operand_types values value (both_left _ _ fits) (both_left _ _ (both_left _ _ gives)))
