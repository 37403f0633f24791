-- The right side of each kind of operation that has no region.
use Rattle.std.proofs.Common.{◌≡◌, ◌+◌, ℕ, Bool, true, false, List, [], ◌∷◌, ◌++◌, length, get_or, refl, sym, subst, arith}
use Rattle.std.specs.Prelude.{pos, IsTrue}
use Rattle.std.specs.List.{list_all}
use Rattle.sh_build.specs.Meaning.{made, side, structured_kind}
use Rattle.sh_build.specs.declared.parts.StructuredName as declared_name
use Rattle.sh_build.specs.declared.parts.StructuredName.TheVariants as structured
use Rattle.sh_ir.specs.declared.linalg_ops.InsOuts.{InsOuts}
use Rattle.sh_grammar.specs.Lexemes.{Lexeme}
use Rattle.sh_grammar.specs.declared.forms.Form.TheVariants as forms
use Rattle.sh_ir.specs.Formed.{is_spelled, is_spelled_type}
use Rattle.sh_ir.specs.Literals.{is_held}
use Rattle.sh_ir.specs.Written.{all_numbers}
use Rattle.sh_ir.specs.declared.operations.OpKind.{OpKind}
use Rattle.sh_ir.specs.declared.operations.OpKind.TheVariants as op_kind
use Rattle.sh_ir.specs.declared.types.ValueType.{ValueType}
use Rattle.sh_print.specs.Layout.{Piece}
use Rattle.sh_print.specs.Tokens.{kind_pieces, operand, structured_pieces}
use Rattle.sh_print.specs.Values.{Scope}
use Rattle.sh_print_laws.specs.ReadsBack.{IsWritten, is_simple, is_whole}
use Rattle.sh_print_laws.proofs.ArithForms.{binary_spelled, cast_spelled, compare_spelled, select_spelled}
use Rattle.sh_print_laws.proofs.DenseForms.{literal_spelled, not_broken}
use Rattle.sh_print_laws.proofs.LinalgForms.{broadcast_spelled, structured_spelled, structured_word, transpose_spelled}
use Rattle.sh_print_laws.proofs.ShardForms.{all_gather_spelled, all_reduce_spelled, all_slice_spelled, all_to_all_spelled, call_spelled, join_spelled, pad_spelled, reduce_scatter_spelled, sharding_spelled, shard_spelled, shift_spelled, take_spelled, update_halo_spelled}
use Rattle.sh_print_laws.proofs.TensorForms.{collapse_spelled, empty_spelled, expand_spelled, extract_spelled, insert_spelled}
use Rattle.sh_print_laws.proofs.Rows.{Gives, Naming, by_row, last_is}
use Rattle.sh_print_laws.proofs.Tests.{all_parts, and_parts}
use Rattle.sh_print_laws.proofs.ValueForms.{ids_in}
use Rattle.sh_print_laws.proofs.Walks.{State}

-- ## Operands by their places

pub none_of : (xs : List ℕ) → length xs ≡ 0 + 0 → xs ≡ []
none_of [] h = refl
none_of (x ∷ xs) h = absurd (omega arith)

pub one_of : (xs : List ℕ) → length xs ≡ 1 + 0 → xs ≡ get_or xs 0 0 ∷ []
one_of [] h = absurd (omega arith)
one_of (x ∷ []) h = refl
one_of (x ∷ y ∷ xs) h = absurd (omega arith)

pub two_of : (xs : List ℕ) → length xs ≡ 2 + 0 → xs ≡ get_or xs 0 0 ∷ get_or xs 1 0 ∷ []
two_of [] h = absurd (omega arith)
two_of (x ∷ []) h = absurd (omega arith)
two_of (x ∷ y ∷ []) h = refl
two_of (x ∷ y ∷ z ∷ xs) h = absurd (omega arith)

pub three_of : (xs : List ℕ) → length xs ≡ 3 + 0 → xs ≡ get_or xs 0 0 ∷ get_or xs 1 0 ∷ get_or xs 2 0 ∷ []
three_of [] h = absurd (omega arith)
three_of (x ∷ []) h = absurd (omega arith)
three_of (x ∷ y ∷ []) h = absurd (omega arith)
three_of (x ∷ y ∷ z ∷ []) h = refl
three_of (x ∷ y ∷ z ∷ w ∷ xs) h = absurd (omega arith)

all_of : (n m : ℕ) (xs : List ℕ) → length xs ≡ n + m + 0 → length xs ≡ n + m
all_of n m xs h = omega arith

-- ## Tests of short lists

module _ {X : Type 0} (p : X → Bool) where
  pub first : (x : X) (xs : List X) → IsTrue (list_all p (x ∷ xs)) → IsTrue (p x)
  first x xs h = (and_parts (p x) (list_all p xs) h).0

  pub second : (x y : X) (xs : List X) → IsTrue (list_all p (x ∷ y ∷ xs)) → IsTrue (p y)
  second x y xs h = first y xs (and_parts (p x) (list_all p (y ∷ xs)) h).1

module _ {numbered : State → Lexeme → ℕ} (N : Naming numbered) (scope : Scope) where
  -- the operands of an operation whose numbers are those of these
  given : {ps : List Piece} (k : OpKind) (xs ys : List ℕ) (t : ValueType) → xs ≡ ys → Gives N forms.RightSide ps (side k (ids_in N scope ys) t)
      → Gives N forms.RightSide ps (side k (ids_in N scope xs) t)
  given {ps = ps} k xs ys t same f = subst (λ zs. Gives N forms.RightSide ps (side k (ids_in N scope zs) t)) (sym same) f

  typed : {ps : List Piece} (k : OpKind) (ids : List ℕ) (t its : ValueType) → t ≡ its → Gives N forms.RightSide ps (side k ids its)
      → Gives N forms.RightSide ps (side k ids t)
  typed {ps = ps} k ids t its same f = subst (λ u. Gives N forms.RightSide ps (side k ids u)) (sym same) f

  -- the types of `ins` and `outs` where the type of the value isn't written
  untyped : (ts : List ValueType) → IsTrue (list_all is_spelled_type (ts ++ [])) → IsTrue (list_all is_spelled_type ts)
  untyped ts h = (all_parts is_spelled_type ts [] h).0

  structured_case : (n : declared_name.StructuredName) (x : InsOuts) (xs : List ℕ) (t : ValueType) → length xs ≡ x.ins_count + x.outs_count + 0
      → IsTrue (list_all is_spelled_type (x.ins_types ++ x.outs_types ++ t ∷ []))
      → Gives N forms.RightSide (structured_pieces (structured_word n) scope x xs t) (side (structured_kind n x) (ids_in N scope xs) t)
  structured_case n x xs t count types = let both = all_parts is_spelled_type (x.ins_types ++ x.outs_types) (t ∷ []) types in
      structured_spelled N n scope x xs t (all_of x.ins_count x.outs_count xs count) both.0 (first is_spelled_type t [] both.1)

  pub kind_spelled : (k : OpKind) (xs : List ℕ) (t : ValueType) → is_simple k ≡ true → IsWritten k xs t
      → Gives N forms.RightSide (kind_pieces scope k xs t) (side k (ids_in N scope xs) t)
  unfolding kind_pieces made
  kind_spelled (op_kind.Constant x) xs t simple w = typed (op_kind.Constant x) (ids_in N scope xs) t _ w.result (given (op_kind.Constant x) xs [] _ (none_of xs w.operands)
      (by_row N 0 refl refl (last_is N (literal_spelled N x (first is_held x [] w.held) (not_broken x (first is_whole x [] w.whole)) (first is_spelled_type x.value_type [] w.types)) refl)))
  kind_spelled (op_kind.Binary x) xs t simple w = given (op_kind.Binary x) xs _ t (two_of xs w.operands)
      (by_row N 0 refl refl (last_is N (binary_spelled N x (operand scope xs 0) (operand scope xs 1) t (first is_spelled_type t [] w.types)) refl))
  kind_spelled (op_kind.Compare x) xs t simple w = typed (op_kind.Compare x) (ids_in N scope xs) t _ w.result (given (op_kind.Compare x) xs _ _ (two_of xs w.operands)
      (by_row N 0 refl refl (last_is N (compare_spelled N x (operand scope xs 0) (operand scope xs 1) (first is_spelled_type x.operand_type [] w.types)) refl)))
  kind_spelled (op_kind.Select x) xs t simple w = given (op_kind.Select x) xs _ t (three_of xs w.operands)
      (by_row N 0 refl refl (last_is N (select_spelled N x.condition_type (operand scope xs 0) (operand scope xs 1) (operand scope xs 2) t
      (first is_spelled_type x.condition_type (t ∷ []) w.types) (second is_spelled_type x.condition_type t [] w.types)) refl))
  kind_spelled (op_kind.Cast x) xs t simple w = given (op_kind.Cast x) xs _ t (one_of xs w.operands)
      (by_row N 0 refl refl (last_is N (cast_spelled N x (operand scope xs 0) t (first is_spelled_type x.operand_type (t ∷ []) w.types) (second is_spelled_type x.operand_type t [] w.types)) refl))
  kind_spelled op_kind.Empty xs t simple w = given op_kind.Empty xs [] t (none_of xs w.operands) (empty_spelled N t (first is_spelled_type t [] w.types))
  kind_spelled (op_kind.ExtractSlice x) xs t simple w = given (op_kind.ExtractSlice x) xs _ t (one_of xs w.operands)
      (extract_spelled N x (operand scope xs 0) t w.numbers (first is_spelled_type x.source_type (t ∷ []) w.types) (second is_spelled_type x.source_type t [] w.types))
  kind_spelled (op_kind.InsertSlice x) xs t simple w = given (op_kind.InsertSlice x) xs _ t (two_of xs w.operands)
      (insert_spelled N x (operand scope xs 0) (operand scope xs 1) t w.numbers (first is_spelled_type x.source_type (t ∷ []) w.types) (second is_spelled_type x.source_type t [] w.types))
  kind_spelled (op_kind.CollapseShape x) xs t simple w = given (op_kind.CollapseShape x) xs _ t (one_of xs w.operands)
      (collapse_spelled N x (operand scope xs 0) t w.numbers (first is_spelled_type x.source_type (t ∷ []) w.types) (second is_spelled_type x.source_type t [] w.types))
  kind_spelled (op_kind.ExpandShape x) xs t simple w = let numbers = all_parts is_spelled (all_numbers x.reassociation) x.output_shape w.numbers in
      given (op_kind.ExpandShape x) xs _ t (one_of xs w.operands)
      (expand_spelled N x (operand scope xs 0) t numbers.0 numbers.1 (first is_spelled_type x.source_type (t ∷ []) w.types) (second is_spelled_type x.source_type t [] w.types))
  kind_spelled (op_kind.Fill x) xs t simple w = structured_case structured.Fill x xs t w.operands w.types
  kind_spelled (op_kind.Matmul x) xs t simple w = structured_case structured.Matmul x xs t w.operands w.types
  kind_spelled (op_kind.BatchMatmul x) xs t simple w = structured_case structured.BatchMatmul x xs t w.operands w.types
  kind_spelled (op_kind.Matvec x) xs t simple w = structured_case structured.Matvec x xs t w.operands w.types
  kind_spelled (op_kind.Vecmat x) xs t simple w = structured_case structured.Vecmat x xs t w.operands w.types
  kind_spelled (op_kind.Dot x) xs t simple w = structured_case structured.Dot x xs t w.operands w.types
  kind_spelled (op_kind.Conv1d x) xs t simple w = structured_case structured.Conv1d x xs t w.operands w.types
  kind_spelled (op_kind.Conv2d x) xs t simple w = structured_case structured.Conv2d x xs t w.operands w.types
  kind_spelled (op_kind.Transpose x) xs t simple w = typed (op_kind.Transpose x) (ids_in N scope xs) t _ w.result
      (transpose_spelled N scope x xs (all_of x.ins_outs.ins_count x.ins_outs.outs_count xs w.operands) (untyped (x.ins_outs.ins_types ++ x.ins_outs.outs_types) w.types) w.numbers)
  kind_spelled (op_kind.Broadcast x) xs t simple w = typed (op_kind.Broadcast x) (ids_in N scope xs) t _ w.result
      (broadcast_spelled N scope x xs (all_of x.ins_outs.ins_count x.ins_outs.outs_count xs w.operands) (untyped (x.ins_outs.ins_types ++ x.ins_outs.outs_types) w.types) w.numbers)
  kind_spelled (op_kind.Reduce x) xs t simple w = absurd (let e : false ≡ true = simple in cc)
  kind_spelled (op_kind.Generic x) xs t simple w = absurd (let e : false ≡ true = simple in cc)
  kind_spelled (op_kind.Sharding x) xs t simple w = typed (op_kind.Sharding x) (ids_in N scope xs) t _ w.result
      (given (op_kind.Sharding x) xs [] _ (none_of xs w.operands) (sharding_spelled N x w.numbers))
  kind_spelled (op_kind.Shard x) xs t simple w = given (op_kind.Shard x) xs _ t (two_of xs w.operands)
      (shard_spelled N x (operand scope xs 0) (operand scope xs 1) t (first is_spelled_type t [] w.types))
  kind_spelled (op_kind.AllGather x) xs t simple w = let numbers = all_parts is_spelled x.on.grid_axes (pos x.gather_axis ∷ []) w.numbers in
      given (op_kind.AllGather x) xs _ t (one_of xs w.operands)
      (all_gather_spelled N x (operand scope xs 0) t numbers.0 (first is_spelled (pos x.gather_axis) [] numbers.1) (first is_spelled_type x.operand_type (t ∷ []) w.types) (second is_spelled_type x.operand_type t [] w.types))
  kind_spelled (op_kind.AllSlice x) xs t simple w = let numbers = all_parts is_spelled x.on.grid_axes (pos x.slice_axis ∷ []) w.numbers in
      given (op_kind.AllSlice x) xs _ t (one_of xs w.operands)
      (all_slice_spelled N x (operand scope xs 0) t numbers.0 (first is_spelled (pos x.slice_axis) [] numbers.1) (first is_spelled_type x.operand_type (t ∷ []) w.types) (second is_spelled_type x.operand_type t [] w.types))
  kind_spelled (op_kind.ReduceScatter x) xs t simple w = let numbers = all_parts is_spelled x.on.grid_axes (pos x.scatter_axis ∷ []) w.numbers in
      given (op_kind.ReduceScatter x) xs _ t (one_of xs w.operands)
      (reduce_scatter_spelled N x (operand scope xs 0) t numbers.0 (first is_spelled (pos x.scatter_axis) [] numbers.1) (first is_spelled_type x.operand_type (t ∷ []) w.types) (second is_spelled_type x.operand_type t [] w.types))
  kind_spelled (op_kind.AllReduce x) xs t simple w = let numbers = all_parts is_spelled x.on.grid_axes [] w.numbers in
      given (op_kind.AllReduce x) xs _ t (one_of xs w.operands)
      (all_reduce_spelled N x (operand scope xs 0) t numbers.0 (first is_spelled_type x.operand_type (t ∷ []) w.types) (second is_spelled_type x.operand_type t [] w.types))
  kind_spelled (op_kind.AllToAll x) xs t simple w = let numbers = all_parts is_spelled x.on.grid_axes (pos x.split_axis ∷ pos x.concat_axis ∷ []) w.numbers in
      given (op_kind.AllToAll x) xs _ t (one_of xs w.operands)
      (all_to_all_spelled N x (operand scope xs 0) t numbers.0 (first is_spelled (pos x.split_axis) (pos x.concat_axis ∷ []) numbers.1)
      (second is_spelled (pos x.split_axis) (pos x.concat_axis) [] numbers.1) (first is_spelled_type x.operand_type (t ∷ []) w.types) (second is_spelled_type x.operand_type t [] w.types))
  kind_spelled (op_kind.Shift x) xs t simple w = let numbers = all_parts is_spelled x.on.grid_axes (pos x.shift_axis ∷ x.offset ∷ []) w.numbers in
      given (op_kind.Shift x) xs _ t (one_of xs w.operands)
      (shift_spelled N x (operand scope xs 0) t numbers.0 (first is_spelled (pos x.shift_axis) (x.offset ∷ []) numbers.1)
      (second is_spelled (pos x.shift_axis) x.offset [] numbers.1) (first is_spelled_type x.operand_type (t ∷ []) w.types) (second is_spelled_type x.operand_type t [] w.types))
  kind_spelled (op_kind.UpdateHalo x) xs t simple w = let numbers = all_parts is_spelled (all_numbers x.split_axes) x.halo_sizes w.numbers in
      given (op_kind.UpdateHalo x) xs _ t (one_of xs w.operands)
      (update_halo_spelled N x (operand scope xs 0) t numbers.0 numbers.1 (first is_spelled_type t [] w.types))
  kind_spelled (op_kind.Take x) xs t simple w =
      let numbers = all_parts is_spelled x.on.grid_axes ((pos x.axis ∷ x.starts) ++ x.sizes) w.numbers in
      let both = all_parts is_spelled (pos x.axis ∷ x.starts) x.sizes numbers.1 in
      let front = and_parts (is_spelled (pos x.axis)) (list_all is_spelled x.starts) both.0 in
      given (op_kind.Take x) xs _ t (one_of xs w.operands)
      (take_spelled N x (operand scope xs 0) t numbers.0 front.0 front.1 both.1 (first is_spelled_type x.operand_type (t ∷ []) w.types) (second is_spelled_type x.operand_type t [] w.types))
  kind_spelled (op_kind.Pad x) xs t simple w = let numbers = all_parts is_spelled x.low x.high w.numbers in
      given (op_kind.Pad x) xs _ t (one_of xs w.operands)
      (pad_spelled N x (operand scope xs 0) t numbers.0 numbers.1 (first is_spelled_type x.operand_type (t ∷ []) w.types) (second is_spelled_type x.operand_type t [] w.types))
  kind_spelled (op_kind.Join x) xs t simple w = let both = all_parts is_spelled_type x.operand_types (t ∷ []) w.types in
      join_spelled N scope x xs t (first is_spelled (pos x.axis) [] w.numbers) both.0 (first is_spelled_type t [] both.1)
  kind_spelled (op_kind.Call x) xs t simple w = let both = all_parts is_spelled_type x.operand_types (t ∷ []) w.types in
      call_spelled N scope x xs t both.0 (first is_spelled_type t [] both.1)
  kind_spelled (op_kind.Return x) xs t simple w = absurd (let e : false ≡ true = simple in cc)
