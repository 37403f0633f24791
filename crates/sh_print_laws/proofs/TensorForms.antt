-- Operations of the tensor dialect.
use Rattle.std.proofs.Common.{ℕ, [], ◌∷◌, ◌++◌, refl}
use Rattle.std.specs.Prelude.{IsTrue}
use Rattle.std.specs.List.{list_all}
use Rattle.sh_build.specs.Meaning.{made, side}
use Rattle.sh_grammar.specs.declared.forms.Form.TheVariants as forms
use Rattle.sh_ir.specs.Formed.{is_spelled, is_spelled_type}
use Rattle.sh_ir.specs.Written.{all_numbers, slice_numbers}
use Rattle.sh_ir.specs.declared.operations.OpKind.TheVariants as op_kind
use Rattle.sh_ir.specs.declared.types.ValueType.{ValueType}
use Rattle.sh_grammar.specs.Lexemes.{Lexeme}
use Rattle.sh_print.specs.declared.names.Name.{Name}
use Rattle.sh_print_laws.proofs.Keywords as keyword
use Rattle.sh_print_laws.proofs.PlainForms.{lists_spelled, nums_spelled, type_spelled}
use Rattle.sh_print_laws.proofs.Walks.{State}
use Rattle.sh_print_laws.proofs.Rows.{Gives, Naming, by_row, last_is, then_in_2, then_in_3, then_in_4, then_is, then_token, then_value}
use Rattle.sh_print_laws.proofs.Tests.{all_parts}
use Rattle.sh_print_laws.proofs.ValueForms.{id_of}
use Rattle.sh_ir.specs.declared.tensor_ops.CollapseShape.{CollapseShape}
use Rattle.sh_ir.specs.declared.tensor_ops.ExpandShape.{ExpandShape}
use Rattle.sh_ir.specs.declared.tensor_ops.ExtractSlice.{ExtractSlice}
use Rattle.sh_ir.specs.declared.tensor_ops.InsertSlice.{InsertSlice}
use Rattle.sh_ir.specs.declared.tensor_ops.Slice.{Slice}
use Rattle.sh_print.specs.Tokens.{collapse_pieces, empty_pieces, expand_pieces, extract_pieces, insert_pieces, into_pieces, of_type, slice_pieces}

-- the numbers of a slice, list by list
record SliceSpelled (x : Slice) : Type 0 where
  pub offsets : IsTrue (list_all is_spelled x.offsets)
  pub sizes : IsTrue (list_all is_spelled x.sizes)
  pub strides : IsTrue (list_all is_spelled x.strides)

slice_parts : (x : Slice) → IsTrue (list_all is_spelled (slice_numbers x)) → SliceSpelled x
slice_parts x h =
    let front = all_parts is_spelled (x.offsets ++ x.sizes) x.strides h in
    let both = all_parts is_spelled x.offsets x.sizes front.0 in
    record { offsets = both.0; sizes = both.1; strides = front.1 }

module _ {numbered : State → Lexeme → ℕ} (N : Naming numbered) where
  empty_form : (t : ValueType) → IsTrue (is_spelled_type t) → Gives N forms.EmptyTensor (empty_pieces t) (side op_kind.Empty [] t)
  unfolding made empty_pieces of_type
  empty_form t h = by_row N 0 refl refl (then_token N keyword.the-tensor_empty (λ p i. then_token N keyword.the-open (λ p i. then_token N keyword.the-close (λ p i.
      then_token N keyword.the-colon (λ p i. last_is N (type_spelled N t h) refl)))))

  pub empty_spelled : (t : ValueType) → IsTrue (is_spelled_type t) → Gives N forms.RightSide (empty_pieces t) (side op_kind.Empty [] t)
  unfolding made
  empty_spelled t h = by_row N 1 refl refl (last_is N (empty_form t h) refl)

  extract_form : (x : ExtractSlice) (a : Name) (t : ValueType) → IsTrue (list_all is_spelled (slice_numbers x.slice)) → IsTrue (is_spelled_type x.source_type)
      → IsTrue (is_spelled_type t) → Gives N forms.ExtractSlice (extract_pieces x a t) (side (op_kind.ExtractSlice x) (id_of N a ∷ []) t)
  unfolding made extract_pieces slice_pieces of_type
  extract_form x a t numbers k h = let s = slice_parts x.slice numbers in
      by_row N 0 refl refl (then_token N keyword.the-tensor_extract_slice (λ p i. then_value N (λ p.
      then_in_4 N (nums_spelled N x.slice.offsets s.offsets) _ _ _ _ (then_is N (nums_spelled N x.slice.sizes s.sizes) (then_is N (nums_spelled N x.slice.strides s.strides) (
      then_token N keyword.the-colon (λ p i. then_is N (type_spelled N x.source_type k) (then_token N keyword.the-to (λ p i. last_is N (type_spelled N t h) refl)))))))))

  pub extract_spelled : (x : ExtractSlice) (a : Name) (t : ValueType) → IsTrue (list_all is_spelled (slice_numbers x.slice)) → IsTrue (is_spelled_type x.source_type)
      → IsTrue (is_spelled_type t) → Gives N forms.RightSide (extract_pieces x a t) (side (op_kind.ExtractSlice x) (id_of N a ∷ []) t)
  unfolding made
  extract_spelled x a t numbers k h = by_row N 2 refl refl (last_is N (extract_form x a t numbers k h) refl)

  insert_form : (x : InsertSlice) (a b : Name) (t : ValueType) → IsTrue (list_all is_spelled (slice_numbers x.slice)) → IsTrue (is_spelled_type x.source_type)
      → IsTrue (is_spelled_type t) → Gives N forms.InsertSlice (insert_pieces x a b t) (side (op_kind.InsertSlice x) (id_of N a ∷ id_of N b ∷ []) t)
  unfolding made insert_pieces slice_pieces into_pieces of_type
  insert_form x a b t numbers k h = let s = slice_parts x.slice numbers in
      by_row N 0 refl refl (then_token N keyword.the-tensor_insert_slice (λ p i. then_value N (λ p. then_token N keyword.the-into (λ p i. then_value N (λ p.
      then_in_3 N (nums_spelled N x.slice.offsets s.offsets) _ _ _ (then_is N (nums_spelled N x.slice.sizes s.sizes) (then_is N (nums_spelled N x.slice.strides s.strides) (
      then_token N keyword.the-colon (λ p i. then_is N (type_spelled N x.source_type k) (then_token N keyword.the-into (λ p i. last_is N (type_spelled N t h) refl)))))))))))

  pub insert_spelled : (x : InsertSlice) (a b : Name) (t : ValueType) → IsTrue (list_all is_spelled (slice_numbers x.slice)) → IsTrue (is_spelled_type x.source_type)
      → IsTrue (is_spelled_type t) → Gives N forms.RightSide (insert_pieces x a b t) (side (op_kind.InsertSlice x) (id_of N a ∷ id_of N b ∷ []) t)
  unfolding made
  insert_spelled x a b t numbers k h = by_row N 3 refl refl (last_is N (insert_form x a b t numbers k h) refl)

  collapse_form : (x : CollapseShape) (a : Name) (t : ValueType) → IsTrue (list_all is_spelled (all_numbers x.reassociation)) → IsTrue (is_spelled_type x.source_type)
      → IsTrue (is_spelled_type t) → Gives N forms.CollapseShape (collapse_pieces x a t) (side (op_kind.CollapseShape x) (id_of N a ∷ []) t)
  unfolding made collapse_pieces into_pieces of_type
  collapse_form x a t numbers k h = by_row N 0 refl refl (then_token N keyword.the-tensor_collapse_shape (λ p i. then_value N (λ p.
      then_is N (lists_spelled N x.reassociation numbers) (then_token N keyword.the-colon (λ p i.
      then_is N (type_spelled N x.source_type k) (then_token N keyword.the-into (λ p i. last_is N (type_spelled N t h) refl)))))))

  pub collapse_spelled : (x : CollapseShape) (a : Name) (t : ValueType) → IsTrue (list_all is_spelled (all_numbers x.reassociation)) → IsTrue (is_spelled_type x.source_type)
      → IsTrue (is_spelled_type t) → Gives N forms.RightSide (collapse_pieces x a t) (side (op_kind.CollapseShape x) (id_of N a ∷ []) t)
  unfolding made
  collapse_spelled x a t numbers k h = by_row N 4 refl refl (last_is N (collapse_form x a t numbers k h) refl)

  expand_form : (x : ExpandShape) (a : Name) (t : ValueType) → IsTrue (list_all is_spelled (all_numbers x.reassociation)) → IsTrue (list_all is_spelled x.output_shape)
      → IsTrue (is_spelled_type x.source_type) → IsTrue (is_spelled_type t)
      → Gives N forms.ExpandShape (expand_pieces x a t) (side (op_kind.ExpandShape x) (id_of N a ∷ []) t)
  unfolding made expand_pieces into_pieces of_type
  expand_form x a t groups shape k h = by_row N 0 refl refl (then_token N keyword.the-tensor_expand_shape (λ p i. then_value N (λ p.
      then_in_2 N (lists_spelled N x.reassociation groups) _ _ (then_token N keyword.the-output_shape (λ p i.
      then_is N (nums_spelled N x.output_shape shape) (then_token N keyword.the-colon (λ p i.
      then_is N (type_spelled N x.source_type k) (then_token N keyword.the-into (λ p i. last_is N (type_spelled N t h) refl)))))))))

  pub expand_spelled : (x : ExpandShape) (a : Name) (t : ValueType) → IsTrue (list_all is_spelled (all_numbers x.reassociation)) → IsTrue (list_all is_spelled x.output_shape)
      → IsTrue (is_spelled_type x.source_type) → IsTrue (is_spelled_type t)
      → Gives N forms.RightSide (expand_pieces x a t) (side (op_kind.ExpandShape x) (id_of N a ∷ []) t)
  unfolding made
  expand_spelled x a t groups shape k h = by_row N 5 refl refl (last_is N (expand_form x a t groups shape k h) refl)
