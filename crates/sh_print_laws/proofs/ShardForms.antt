-- Operations of the shard dialect and its instructions.
use Rattle.std.proofs.Common.{◌^◌, ℕ, Bool, true, false, List, [], ◌∷◌, ◌++◌, refl, codes}
use Rattle.std.specs.Prelude.{ℤ, pos, IsTrue}
use Rattle.std.specs.List.{list_all}
use Rattle.std.proofs.lemmas.Bool.{ltb-true}
use Rattle.sh_build.specs.Meaning.{made, side}
use Rattle.sh_build.specs.declared.parts.Part.{Part}
use Rattle.sh_build.specs.declared.parts.Part.TheVariants as part
use Rattle.sh_grammar.specs.declared.forms.Form.TheVariants as forms
use Rattle.sh_grammar.specs.declared.symbols.Symbol.{Symbol}
use Rattle.sh_grammar.specs.declared.symbols.Symbol.TheVariants as symbol
use Rattle.sh_ir.specs.Formed.{is_spelled, is_spelled_type}
use Rattle.sh_ir.specs.Written.{all_numbers, sharding_numbers}
use Rattle.sh_ir.specs.declared.operations.OpKind.TheVariants as op_kind
use Rattle.sh_ir.specs.declared.types.ValueType.{ValueType}
use Rattle.sh_ir.specs.declared.types.ValueType.TheVariants as type
use Rattle.sh_lex.specs.declared.tokens.TokenKind.TheVariants as kind
use Rattle.sh_grammar.specs.Lexemes.{Lexeme}
use Rattle.sh_print.specs.Layout.{Piece}
use Rattle.sh_print.specs.Layout.Piece.{apart as piece_apart, token as piece_token}
use Rattle.sh_print.specs.Spellings.{sign, type_pieces, word}
use Rattle.sh_print.specs.Values.{Scope}
use Rattle.sh_print.specs.declared.names.Name.{Name}
use Rattle.sh_print_laws.proofs.Keywords as keyword
use Rattle.sh_print_laws.proofs.PlainForms.{lists_spelled, num_spelled, nums_spelled, then_number, type_spelled, types_spelled}
use Rattle.sh_print_laws.proofs.Walks.{State}
use Rattle.sh_print_laws.proofs.Rows.{Gives, IsForm, Naming, Row, by_row, end_row, last_is, then_in_2, then_in_3, then_in_4, then_in_5, then_form, then_is, then_token, then_value}
use Rattle.sh_print_laws.proofs.Tests.{all_parts}
use Rattle.sh_print_laws.proofs.ValueForms.{id_of, ids_in, values_spelled}
use Rattle.sh_ir.specs.declared.shard_ops.AllGather.{AllGather}
use Rattle.sh_ir.specs.declared.shard_ops.AllReduce.{AllReduce}
use Rattle.sh_ir.specs.declared.shard_ops.AllSlice.{AllSlice}
use Rattle.sh_ir.specs.declared.shard_ops.AllToAll.{AllToAll}
use Rattle.sh_ir.specs.declared.shard_ops.GridAxes.{GridAxes}
use Rattle.sh_ir.specs.declared.shard_ops.Join.{Join}
use Rattle.sh_ir.specs.declared.shard_ops.Pad.{Pad}
use Rattle.sh_ir.specs.declared.shard_ops.ReduceScatter.{ReduceScatter}
use Rattle.sh_ir.specs.declared.shard_ops.Shard.{Shard}
use Rattle.sh_ir.specs.declared.shard_ops.Shift.{Shift}
use Rattle.sh_ir.specs.declared.shard_ops.Take.{Take}
use Rattle.sh_ir.specs.declared.shard_ops.UpdateHalo.{UpdateHalo}
use Rattle.sh_base.specs.declared.operations.Kind.{Kind}
use Rattle.sh_base.specs.declared.operations.Kind.TheVariants.{And, Max, Min, Or, Product, Sum, Xor}
use Rattle.sh_grammar.specs.Language.{the}
use Rattle.sh_grammar.specs.Lexemes.{class_of}
use Rattle.sh_ir.specs.declared.calls.Call.{Call}
use Rattle.sh_ir.specs.declared.types.RawSharding.{RawSharding}
use Rattle.sh_print.specs.Tokens.{all_gather_pieces, all_reduce_pieces, all_slice_pieces, all_to_all_pieces, attribute, axis_pieces, call_op_pieces, call_types, flag, from_to, join_pieces, listed, numbers_pieces, of_type, on_pieces, over, pad_pieces, reduce_scatter_pieces, reduction_pieces, sharding_op_pieces, sharding_pieces, shard_pieces, shift_pieces, splits, symbol as symbol_piece, take_pieces, to_type, update_halo_pieces}
use Rattle.sh_print.specs.Words.{kind_word}
use Rattle.sh_print_laws.proofs.Rows.{then_apart}

module _ {numbered : State → Lexeme → ℕ} (N : Naming numbered) where
  -- `@name`
  pub then_symbol : {name : List ℕ} {α : List Symbol} {ps : List Piece} {V : List Part → Type 0}
      → Row N α ps (λ row. V (part.Symbol name ∷ row)) → Row N (symbol.Class 2 ∷ α) (symbol_piece name ∷ ps) V
  unfolding class_of
  then_symbol rest = then_token N (λ p. refl) (λ p i. rest)

  -- ## Attributes

  axes_form : (zs : List ℤ) → IsTrue (list_all is_spelled zs) → Gives N forms.MaybeAxes (numbers_pieces (codes "grid_axes") zs) (part.Numbers zs)
  unfolding made numbers_pieces attribute
  axes_form zs h = by_row N 1 refl refl (then_token N keyword.the-grid_axes (λ p i. then_token N keyword.the-equals (λ p i. last_is N (nums_spelled N zs h) refl)))

  on_form : (x : GridAxes) → IsTrue (list_all is_spelled x.grid_axes) → Gives N forms.On (on_pieces x) (part.On x)
  unfolding made
  on_form x h = by_row N 0 refl refl (then_token N keyword.the-on (λ p i. then_symbol (last_is N (axes_form x.grid_axes h) refl)))

  kind_name : (k : Kind) → Gives N forms.KindName (piece_token kind.Word (kind_word k) ∷ []) (part.Kind k)
  unfolding made
  kind_name Sum = by_row N 0 refl refl (then_token N keyword.the-sum (λ p i. end_row N refl))
  kind_name Product = by_row N 1 refl refl (then_token N keyword.the-product (λ p i. end_row N refl))
  kind_name Max = by_row N 2 refl refl (then_token N keyword.the-max (λ p i. end_row N refl))
  kind_name Min = by_row N 3 refl refl (then_token N keyword.the-min (λ p i. end_row N refl))
  kind_name And = by_row N 4 refl refl (then_token N keyword.the-bitwise_and (λ p i. end_row N refl))
  kind_name Or = by_row N 5 refl refl (then_token N keyword.the-bitwise_or (λ p i. end_row N refl))
  kind_name Xor = by_row N 6 refl refl (then_token N keyword.the-bitwise_xor (λ p i. end_row N refl))

  kind_form : (k : Kind) → Gives N forms.ReductionKind (piece_apart ∷ piece_token kind.Word (kind_word k) ∷ sign ">" ∷ []) (part.Kind k)
  unfolding made
  kind_form k = by_row N 1 refl refl (then_apart N (λ p i. then_is N {ps = piece_token kind.Word (kind_word k) ∷ []} (kind_name k) (
      then_token N keyword.the-greater (λ p i. end_row N refl))))

  reduction_form : (k : Kind) → Gives N forms.MaybeReduction (reduction_pieces k) (part.Kind k)
  unfolding made reduction_pieces attribute
  reduction_form k = by_row N 1 refl refl (then_token N keyword.the-reduction (λ p i. then_token N keyword.the-equals (λ p i. last_is N (kind_form k) refl)))

  rotate_form : (b : Bool) → Gives N forms.MaybeRotate (flag (codes "rotate") b) (part.Flag b)
  unfolding made flag
  rotate_form true = by_row N 1 refl refl (then_token N keyword.the-rotate (λ p i. end_row N refl))
  rotate_form false = by_row N 0 refl refl (end_row N refl)

  for_users_form : (b : Bool) → Gives N forms.MaybeForUsers (flag (codes "annotate_for_users") b) (part.Flag b)
  unfolding made flag
  for_users_form true = by_row N 1 refl refl (then_token N keyword.the-annotate_for_users (λ p i. end_row N refl))
  for_users_form false = by_row N 0 refl refl (end_row N refl)

  halo_form : (zs : List ℤ) → IsTrue (list_all is_spelled zs) → Gives N forms.Halo (numbers_pieces (codes "halo_sizes") zs) (part.Numbers zs)
  unfolding made numbers_pieces attribute
  halo_form zs h = by_row N 0 refl refl (then_token N keyword.the-halo_sizes (λ p i. then_token N keyword.the-equals (λ p i. last_is N (nums_spelled N zs h) refl)))

  pub maybe_halo_form : (zs : List ℤ) → IsTrue (list_all is_spelled zs) → Gives N forms.MaybeHalo (listed (codes "halo_sizes") zs) (part.Numbers zs)
  unfolding made listed
  maybe_halo_form [] h = by_row N 0 refl refl (end_row N refl)
  maybe_halo_form (z ∷ zs) h = by_row N 1 refl refl (last_is N (halo_form (z ∷ zs) h) refl)

  offsets_form : (zs : List ℤ) → IsTrue (list_all is_spelled zs) → Gives N forms.Offsets (numbers_pieces (codes "sharded_dims_offsets") zs) (part.Numbers zs)
  unfolding made numbers_pieces attribute
  offsets_form zs h = by_row N 0 refl refl (then_token N keyword.the-sharded_dims_offsets (λ p i. then_token N keyword.the-equals (λ p i. last_is N (nums_spelled N zs h) refl)))

  pub maybe_offsets_form : (zs : List ℤ) → IsTrue (list_all is_spelled zs) → Gives N forms.MaybeOffsets (listed (codes "sharded_dims_offsets") zs) (part.Numbers zs)
  unfolding made listed
  maybe_offsets_form [] h = by_row N 0 refl refl (end_row N refl)
  maybe_offsets_form (z ∷ zs) h = by_row N 1 refl refl (last_is N (offsets_form (z ∷ zs) h) refl)

  -- ## Collectives

  -- ':' type '->' type, the end of a row
  from_to_row : (s t : ValueType) {V : List Part → Type 0} → IsTrue (is_spelled_type s) → IsTrue (is_spelled_type t)
      → ((colon arrow : Part) → V (colon ∷ part.Type s ∷ arrow ∷ part.Type t ∷ []))
      → Row N (the ":" ∷ symbol.Part forms.ValueType ∷ the "->" ∷ symbol.Part forms.ValueType ∷ []) (from_to s t) V
  unfolding from_to of_type to_type
  from_to_row s t k h v = then_token N keyword.the-colon (λ p i. then_is N (type_spelled N s k) (then_token N keyword.the-arrow (λ q j. last_is N (type_spelled N t h) (v _ _))))

  all_gather_form : (x : AllGather) (a : Name) (t : ValueType) → IsTrue (list_all is_spelled x.on.grid_axes) → IsTrue (is_spelled (pos x.gather_axis))
      → IsTrue (is_spelled_type x.operand_type) → IsTrue (is_spelled_type t) → Gives N forms.AllGather (all_gather_pieces x a t) (side (op_kind.AllGather x) (id_of N a ∷ []) t)
  unfolding made all_gather_pieces over axis_pieces attribute
  all_gather_form x a t axes axis k h = by_row N 0 refl refl (then_token N keyword.the-shard_all_gather (λ p i. then_value N (λ p.
      then_in_2 N (on_form x.on axes) _ _ (then_token N keyword.the-gather_axis (λ p i. then_token N keyword.the-equals (λ p i.
      then_number N (ltb-true x.gather_axis (2 ^ 64) axis) (from_to_row x.operand_type t k h (λ c d. refl))))))))

  pub all_gather_spelled : (x : AllGather) (a : Name) (t : ValueType) → IsTrue (list_all is_spelled x.on.grid_axes) → IsTrue (is_spelled (pos x.gather_axis))
      → IsTrue (is_spelled_type x.operand_type) → IsTrue (is_spelled_type t) → Gives N forms.RightSide (all_gather_pieces x a t) (side (op_kind.AllGather x) (id_of N a ∷ []) t)
  unfolding made
  all_gather_spelled x a t axes axis k h = by_row N 13 refl refl (last_is N (all_gather_form x a t axes axis k h) refl)

  all_slice_form : (x : AllSlice) (a : Name) (t : ValueType) → IsTrue (list_all is_spelled x.on.grid_axes) → IsTrue (is_spelled (pos x.slice_axis))
      → IsTrue (is_spelled_type x.operand_type) → IsTrue (is_spelled_type t) → Gives N forms.AllSlice (all_slice_pieces x a t) (side (op_kind.AllSlice x) (id_of N a ∷ []) t)
  unfolding made all_slice_pieces over axis_pieces attribute
  all_slice_form x a t axes axis k h = by_row N 0 refl refl (then_token N keyword.the-shard_all_slice (λ p i. then_value N (λ p.
      then_in_2 N (on_form x.on axes) _ _ (then_token N keyword.the-slice_axis (λ p i. then_token N keyword.the-equals (λ p i.
      then_number N (ltb-true x.slice_axis (2 ^ 64) axis) (from_to_row x.operand_type t k h (λ c d. refl))))))))

  pub all_slice_spelled : (x : AllSlice) (a : Name) (t : ValueType) → IsTrue (list_all is_spelled x.on.grid_axes) → IsTrue (is_spelled (pos x.slice_axis))
      → IsTrue (is_spelled_type x.operand_type) → IsTrue (is_spelled_type t) → Gives N forms.RightSide (all_slice_pieces x a t) (side (op_kind.AllSlice x) (id_of N a ∷ []) t)
  unfolding made
  all_slice_spelled x a t axes axis k h = by_row N 14 refl refl (last_is N (all_slice_form x a t axes axis k h) refl)

  all_reduce_form : (x : AllReduce) (a : Name) (t : ValueType) → IsTrue (list_all is_spelled x.on.grid_axes)
      → IsTrue (is_spelled_type x.operand_type) → IsTrue (is_spelled_type t) → Gives N forms.AllReduce (all_reduce_pieces x a t) (side (op_kind.AllReduce x) (id_of N a ∷ []) t)
  unfolding made all_reduce_pieces over
  all_reduce_form x a t axes k h = by_row N 0 refl refl (then_token N keyword.the-shard_all_reduce (λ p i. then_value N (λ p.
      then_in_2 N (on_form x.on axes) _ _ (then_is N (reduction_form x.reduction) (from_to_row x.operand_type t k h (λ c d. refl))))))

  pub all_reduce_spelled : (x : AllReduce) (a : Name) (t : ValueType) → IsTrue (list_all is_spelled x.on.grid_axes)
      → IsTrue (is_spelled_type x.operand_type) → IsTrue (is_spelled_type t) → Gives N forms.RightSide (all_reduce_pieces x a t) (side (op_kind.AllReduce x) (id_of N a ∷ []) t)
  unfolding made
  all_reduce_spelled x a t axes k h = by_row N 15 refl refl (last_is N (all_reduce_form x a t axes k h) refl)

  reduce_scatter_form : (x : ReduceScatter) (a : Name) (t : ValueType) → IsTrue (list_all is_spelled x.on.grid_axes) → IsTrue (is_spelled (pos x.scatter_axis))
      → IsTrue (is_spelled_type x.operand_type) → IsTrue (is_spelled_type t) → Gives N forms.ReduceScatter (reduce_scatter_pieces x a t) (side (op_kind.ReduceScatter x) (id_of N a ∷ []) t)
  unfolding made reduce_scatter_pieces over axis_pieces attribute
  reduce_scatter_form x a t axes axis k h = by_row N 0 refl refl (then_token N keyword.the-shard_reduce_scatter (λ p i. then_value N (λ p.
      then_in_3 N (on_form x.on axes) _ _ _ (then_is N (reduction_form x.reduction) (then_token N keyword.the-scatter_axis (λ p i. then_token N keyword.the-equals (λ p i.
      then_number N (ltb-true x.scatter_axis (2 ^ 64) axis) (from_to_row x.operand_type t k h (λ c d. refl)))))))))

  pub reduce_scatter_spelled : (x : ReduceScatter) (a : Name) (t : ValueType) → IsTrue (list_all is_spelled x.on.grid_axes) → IsTrue (is_spelled (pos x.scatter_axis))
      → IsTrue (is_spelled_type x.operand_type) → IsTrue (is_spelled_type t) → Gives N forms.RightSide (reduce_scatter_pieces x a t) (side (op_kind.ReduceScatter x) (id_of N a ∷ []) t)
  unfolding made
  reduce_scatter_spelled x a t axes axis k h = by_row N 16 refl refl (last_is N (reduce_scatter_form x a t axes axis k h) refl)

  all_to_all_form : (x : AllToAll) (a : Name) (t : ValueType) → IsTrue (list_all is_spelled x.on.grid_axes) → IsTrue (is_spelled (pos x.split_axis)) → IsTrue (is_spelled (pos x.concat_axis))
      → IsTrue (is_spelled_type x.operand_type) → IsTrue (is_spelled_type t) → Gives N forms.AllToAll (all_to_all_pieces x a t) (side (op_kind.AllToAll x) (id_of N a ∷ []) t)
  unfolding made all_to_all_pieces over axis_pieces attribute
  all_to_all_form x a t axes split concat k h = by_row N 0 refl refl (then_token N keyword.the-shard_all_to_all (λ p i. then_value N (λ p.
      then_in_3 N (on_form x.on axes) _ _ _ (then_token N keyword.the-split_axis (λ p i. then_token N keyword.the-equals (λ p i. then_number N (ltb-true x.split_axis (2 ^ 64) split) (
      then_token N keyword.the-concat_axis (λ p i. then_token N keyword.the-equals (λ p i.
      then_number N (ltb-true x.concat_axis (2 ^ 64) concat) (from_to_row x.operand_type t k h (λ c d. refl)))))))))))

  pub all_to_all_spelled : (x : AllToAll) (a : Name) (t : ValueType) → IsTrue (list_all is_spelled x.on.grid_axes) → IsTrue (is_spelled (pos x.split_axis)) → IsTrue (is_spelled (pos x.concat_axis))
      → IsTrue (is_spelled_type x.operand_type) → IsTrue (is_spelled_type t) → Gives N forms.RightSide (all_to_all_pieces x a t) (side (op_kind.AllToAll x) (id_of N a ∷ []) t)
  unfolding made
  all_to_all_spelled x a t axes split concat k h = by_row N 17 refl refl (last_is N (all_to_all_form x a t axes split concat k h) refl)

  pad_form : (x : Pad) (a : Name) (t : ValueType) → IsTrue (list_all is_spelled x.low) → IsTrue (list_all is_spelled x.high)
      → IsTrue (is_spelled_type x.operand_type) → IsTrue (is_spelled_type t) → Gives N forms.Pad (pad_pieces x a t) (side (op_kind.Pad x) (id_of N a ∷ []) t)
  unfolding made pad_pieces numbers_pieces attribute
  pad_form x a t low high k h = by_row N 0 refl refl (then_token N keyword.the-shardrun_pad (λ p i. then_value N (λ p.
      then_token N keyword.the-low (λ p i. then_token N keyword.the-equals (λ p i. then_in_2 N (nums_spelled N x.low low) _ _ (
      then_token N keyword.the-high (λ p i. then_token N keyword.the-equals (λ p i. then_is N (nums_spelled N x.high high) (from_to_row x.operand_type t k h (λ c d. refl))))))))))

  pub pad_spelled : (x : Pad) (a : Name) (t : ValueType) → IsTrue (list_all is_spelled x.low) → IsTrue (list_all is_spelled x.high)
      → IsTrue (is_spelled_type x.operand_type) → IsTrue (is_spelled_type t) → Gives N forms.RightSide (pad_pieces x a t) (side (op_kind.Pad x) (id_of N a ∷ []) t)
  unfolding made
  pad_spelled x a t low high k h = by_row N 21 refl refl (last_is N (pad_form x a t low high k h) refl)

  shard_form : (x : Shard) (a b : Name) (t : ValueType) → IsTrue (is_spelled_type t) → Gives N forms.Shard (shard_pieces x a b t) (side (op_kind.Shard x) (id_of N a ∷ id_of N b ∷ []) t)
  unfolding made shard_pieces of_type
  shard_form x a b t h = by_row N 0 refl refl (then_token N keyword.the-shard_shard (λ p i. then_value N (λ p. then_token N keyword.the-to (λ p i. then_value N (λ p.
      then_is N (for_users_form x.annotate_for_users) (then_token N keyword.the-colon (λ p i. last_is N (type_spelled N t h) refl)))))))

  pub shard_spelled : (x : Shard) (a b : Name) (t : ValueType) → IsTrue (is_spelled_type t) → Gives N forms.RightSide (shard_pieces x a b t) (side (op_kind.Shard x) (id_of N a ∷ id_of N b ∷ []) t)
  unfolding made
  shard_spelled x a b t h = by_row N 12 refl refl (last_is N (shard_form x a b t h) refl)

  -- ## Any number of operands

  join_form : (scope : Scope) (x : Join) (ids : List ℕ) (t : ValueType) → IsTrue (is_spelled (pos x.axis)) → IsTrue (list_all is_spelled_type x.operand_types) → IsTrue (is_spelled_type t)
      → Gives N forms.Join (join_pieces scope x ids t) (side (op_kind.Join x) (ids_in N scope ids) t)
  unfolding made join_pieces axis_pieces attribute to_type
  join_form scope x ids t axis k h = by_row N 0 refl refl (then_token N keyword.the-shardrun_join (λ p i.
      then_in_3 N (values_spelled N scope ids) _ _ _ (then_token N keyword.the-axis (λ p i. then_token N keyword.the-equals (λ p i.
      then_number N (ltb-true x.axis (2 ^ 64) axis) (then_token N keyword.the-colon (λ p i. then_is N (types_spelled N x.operand_types k) (
      then_token N keyword.the-arrow (λ p i. last_is N (type_spelled N t h) refl)))))))))

  pub join_spelled : (scope : Scope) (x : Join) (ids : List ℕ) (t : ValueType) → IsTrue (is_spelled (pos x.axis)) → IsTrue (list_all is_spelled_type x.operand_types) → IsTrue (is_spelled_type t)
      → Gives N forms.RightSide (join_pieces scope x ids t) (side (op_kind.Join x) (ids_in N scope ids) t)
  unfolding made
  join_spelled scope x ids t axis k h = by_row N 22 refl refl (last_is N (join_form scope x ids t axis k h) refl)

  call_name : IsForm N forms.CallName (word "call" ∷ []) (λ p. Unit {0})
  call_name = by_row N 0 refl refl (then_token N keyword.the-call (λ p i. end_row N tt))

  call_form : (scope : Scope) (x : Call) (ids : List ℕ) (t : ValueType) → IsTrue (list_all is_spelled_type x.operand_types) → IsTrue (is_spelled_type t)
      → Gives N forms.Call (call_op_pieces scope x ids t) (side (op_kind.Call x) (ids_in N scope ids) t)
  unfolding made call_op_pieces call_types to_type
  call_form scope x ids t k h = by_row N 0 refl refl (then_form N {P = λ p. Unit {0}} {ps = word "call" ∷ []} call_name (λ p _. then_symbol (then_token N keyword.the-open (λ p i.
      then_in_2 N (values_spelled N scope ids) _ _ (then_token N keyword.the-close (λ p i. then_token N keyword.the-colon (λ p i. then_token N keyword.the-open (λ p i.
      then_in_2 N (types_spelled N x.operand_types k) _ _ (then_token N keyword.the-close (λ p i. then_token N keyword.the-arrow (λ p i. last_is N (type_spelled N t h) refl)))))))))))

  pub call_spelled : (scope : Scope) (x : Call) (ids : List ℕ) (t : ValueType) → IsTrue (list_all is_spelled_type x.operand_types) → IsTrue (is_spelled_type t)
      → Gives N forms.RightSide (call_op_pieces scope x ids t) (side (op_kind.Call x) (ids_in N scope ids) t)
  unfolding made
  call_spelled scope x ids t k h = by_row N 23 refl refl (last_is N (call_form scope x ids t k h) refl)

  -- ## Shardings

  sharding_form : (x : RawSharding) → IsTrue (list_all is_spelled (sharding_numbers x)) → Gives N forms.Sharding (sharding_op_pieces x) (side (op_kind.Sharding x) [] type.Sharding)
  unfolding made sharding_op_pieces sharding_pieces splits attribute of_type type_pieces
  sharding_form x h =
      let front = all_parts is_spelled (all_numbers x.split ++ x.halos) x.offsets h in
      let both = all_parts is_spelled (all_numbers x.split) x.halos front.0 in
      by_row N 0 refl refl (then_token N keyword.the-shard_sharding (λ p i. then_symbol (then_token N keyword.the-split_axes (λ p i. then_token N keyword.the-equals (λ p i.
      then_in_3 N (lists_spelled N x.split both.0) _ _ _ (then_is N (maybe_halo_form x.halos both.1) (then_is N (maybe_offsets_form x.offsets front.1) (
      then_token N keyword.the-colon (λ p i. then_token N keyword.the-sharding_type (λ p i. end_row N refl))))))))))

  pub sharding_spelled : (x : RawSharding) → IsTrue (list_all is_spelled (sharding_numbers x)) → Gives N forms.RightSide (sharding_op_pieces x) (side (op_kind.Sharding x) [] type.Sharding)
  unfolding made
  sharding_spelled x h = by_row N 11 refl refl (last_is N (sharding_form x h) refl)

  update_halo_form : (x : UpdateHalo) (a : Name) (t : ValueType) → IsTrue (list_all is_spelled (all_numbers x.split_axes)) → IsTrue (list_all is_spelled x.halo_sizes) → IsTrue (is_spelled_type t)
      → Gives N forms.UpdateHalo (update_halo_pieces x a t) (side (op_kind.UpdateHalo x) (id_of N a ∷ []) t)
  unfolding made update_halo_pieces splits attribute of_type
  update_halo_form x a t split halo h = by_row N 0 refl refl (then_token N keyword.the-shard_update_halo (λ p i. then_value N (λ p. then_token N keyword.the-on (λ p i. then_symbol (
      then_token N keyword.the-split_axes (λ p i. then_token N keyword.the-equals (λ p i. then_in_2 N (lists_spelled N x.split_axes split) _ _ (then_is N (halo_form x.halo_sizes halo) (
      then_token N keyword.the-colon (λ p i. last_is N (type_spelled N t h) refl))))))))))

  pub update_halo_spelled : (x : UpdateHalo) (a : Name) (t : ValueType) → IsTrue (list_all is_spelled (all_numbers x.split_axes)) → IsTrue (list_all is_spelled x.halo_sizes) → IsTrue (is_spelled_type t)
      → Gives N forms.RightSide (update_halo_pieces x a t) (side (op_kind.UpdateHalo x) (id_of N a ∷ []) t)
  unfolding made
  update_halo_spelled x a t split halo h = by_row N 19 refl refl (last_is N (update_halo_form x a t split halo h) refl)

  -- ## Shifts and takes

  shift_form : (x : Shift) (a : Name) (t : ValueType) → IsTrue (list_all is_spelled x.on.grid_axes) → IsTrue (is_spelled (pos x.shift_axis)) → IsTrue (is_spelled x.offset)
      → IsTrue (is_spelled_type x.operand_type) → IsTrue (is_spelled_type t) → Gives N forms.Shift (shift_pieces x a t) (side (op_kind.Shift x) (id_of N a ∷ []) t)
  unfolding made shift_pieces over axis_pieces attribute
  shift_form x a t axes axis offset k h = by_row N 0 refl refl (then_token N keyword.the-shard_shift (λ p i. then_value N (λ p.
      then_in_5 N (on_form x.on axes) _ _ _ _ _ (then_token N keyword.the-shift_axis (λ p i. then_token N keyword.the-equals (λ p i.
      then_number N (ltb-true x.shift_axis (2 ^ 64) axis) (then_token N keyword.the-offset (λ p i. then_token N keyword.the-equals (λ p i.
      then_is N (num_spelled N x.offset offset) (then_is N (rotate_form x.rotate) (from_to_row x.operand_type t k h (λ c d. refl))))))))))))

  pub shift_spelled : (x : Shift) (a : Name) (t : ValueType) → IsTrue (list_all is_spelled x.on.grid_axes) → IsTrue (is_spelled (pos x.shift_axis)) → IsTrue (is_spelled x.offset)
      → IsTrue (is_spelled_type x.operand_type) → IsTrue (is_spelled_type t) → Gives N forms.RightSide (shift_pieces x a t) (side (op_kind.Shift x) (id_of N a ∷ []) t)
  unfolding made
  shift_spelled x a t axes axis offset k h = by_row N 18 refl refl (last_is N (shift_form x a t axes axis offset k h) refl)

  take_form : (x : Take) (a : Name) (t : ValueType) → IsTrue (list_all is_spelled x.on.grid_axes) → IsTrue (is_spelled (pos x.axis))
      → IsTrue (list_all is_spelled x.starts) → IsTrue (list_all is_spelled x.sizes)
      → IsTrue (is_spelled_type x.operand_type) → IsTrue (is_spelled_type t) → Gives N forms.Take (take_pieces x a t) (side (op_kind.Take x) (id_of N a ∷ []) t)
  unfolding made take_pieces over axis_pieces numbers_pieces attribute
  take_form x a t axes axis starts sizes k h = by_row N 0 refl refl (then_token N keyword.the-shardrun_take (λ p i. then_value N (λ p.
      then_in_4 N (on_form x.on axes) _ _ _ _ (then_token N keyword.the-axis (λ p i. then_token N keyword.the-equals (λ p i. then_number N (ltb-true x.axis (2 ^ 64) axis) (
      then_token N keyword.the-starts (λ p i. then_token N keyword.the-equals (λ p i. then_is N (nums_spelled N x.starts starts) (
      then_token N keyword.the-sizes (λ p i. then_token N keyword.the-equals (λ p i. then_is N (nums_spelled N x.sizes sizes) (from_to_row x.operand_type t k h (λ c d. refl))))))))))))))

  pub take_spelled : (x : Take) (a : Name) (t : ValueType) → IsTrue (list_all is_spelled x.on.grid_axes) → IsTrue (is_spelled (pos x.axis))
      → IsTrue (list_all is_spelled x.starts) → IsTrue (list_all is_spelled x.sizes)
      → IsTrue (is_spelled_type x.operand_type) → IsTrue (is_spelled_type t) → Gives N forms.RightSide (take_pieces x a t) (side (op_kind.Take x) (id_of N a ∷ []) t)
  unfolding made
  take_spelled x a t axes axis starts sizes k h = by_row N 20 refl refl (last_is N (take_form x a t axes axis starts sizes k h) refl)
