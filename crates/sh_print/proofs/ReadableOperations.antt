-- An operation is readable where what its text writes is spelled.
use Rattle.std.proofs.Common.{◌≡◌, ℕ, zero, suc, ◌+◌, ◌*◌, ◌-◌, ◌/◌, ◌^◌, ◌<◌, ◌≤◌, Bool, true, false, ◌&&◌, ℤ, pos, negsuc, nat_eq, nat_lt, if◌then◌else◌, List, [], ◌∷◌, ◌++◌, Option, Some, None, length, take, drop, flat_map, map, replicate, reverse, codes, refl, sym, ap, ◌∙◌, subst, arith, ltb-true, lt-ltb}
use Rattle.std.specs.Prelude.{◌-ℤ◌, MatchOption, ⊤}
use Rattle.std.specs.List.{AllByRecursion, list_all}
use Rattle.sh_base.specs.declared.numbers.Width.{Width}
use Rattle.sh_base.specs.declared.numbers.Width.TheVariants.{I1, I8, I16, I32, I64}
use Rattle.sh_base.specs.declared.operations.BinOp.{BinOp}
use Rattle.sh_lex.specs.declared.tokens.TokenKind.TheVariants.{Word, Sign}
use Rattle.sh_ir.specs.Formed.{is_name, is_spelled, is_spelled_type, types_in}
use Rattle.sh_ir.specs.Literals.{is_held}
use Rattle.sh_ir.specs.Written.{Written, all_numbers, in_groups, sharding_numbers, slice_numbers, written_by, written_in_body}
use Rattle.sh_ir.specs.declared.arith_ops.Constant as declared_constant
use Rattle.sh_ir.specs.declared.arith_ops.Cast.{Cast}
use Rattle.sh_ir.specs.declared.arith_ops.Compare.{Compare}
use Rattle.sh_ir.specs.declared.bodies.Body.{Body}
use Rattle.sh_ir.specs.declared.bodies.BodyKind.{BodyKind}
use Rattle.sh_ir.specs.declared.bodies.BodyKind.TheVariants as body_kind
use Rattle.sh_ir.specs.declared.bodies.BodyOp.{BodyOp}
use Rattle.sh_ir.specs.declared.linalg_ops.AffineMap.{AffineMap}
use Rattle.sh_ir.specs.declared.linalg_ops.Generic as declared_generic
use Rattle.sh_ir.specs.declared.linalg_ops.InsOuts.{InsOuts}
use Rattle.sh_ir.specs.declared.linalg_ops.IteratorType.{IteratorType}
use Rattle.sh_ir.specs.declared.linalg_ops.Reduce as declared_reduce
use Rattle.sh_ir.specs.declared.operations.Op.{Op}
use Rattle.sh_ir.specs.declared.operations.OpKind.{OpKind}
use Rattle.sh_ir.specs.declared.operations.OpKind.TheVariants.{Constant as ConstantOp, Binary, Compare as CompareOp, Select, Cast as CastOp, Empty, ExtractSlice, InsertSlice, CollapseShape, ExpandShape, Fill, Matmul, BatchMatmul, Matvec, Vecmat, Dot, Conv1d, Conv2d, Transpose, Broadcast, Reduce, Generic, Sharding, Shard, AllGather, AllSlice, AllReduce, ReduceScatter, AllToAll, Shift, UpdateHalo, Take, Pad, Join, Call, Return}
use Rattle.sh_ir.specs.declared.calls.Call as declared_call
use Rattle.sh_ir.specs.declared.operations.Return as declared_return
use Rattle.sh_ir.specs.declared.shard_ops.AllGather as declared_all_gather
use Rattle.sh_ir.specs.declared.shard_ops.AllReduce as declared_all_reduce
use Rattle.sh_ir.specs.declared.shard_ops.AllSlice as declared_all_slice
use Rattle.sh_ir.specs.declared.shard_ops.AllToAll as declared_all_to_all
use Rattle.sh_ir.specs.declared.shard_ops.Join as declared_join
use Rattle.sh_ir.specs.declared.shard_ops.Pad as declared_pad
use Rattle.sh_ir.specs.declared.shard_ops.ReduceScatter as declared_reduce_scatter
use Rattle.sh_ir.specs.declared.shard_ops.Shard as declared_shard
use Rattle.sh_ir.specs.declared.shard_ops.Shift as declared_shift
use Rattle.sh_ir.specs.declared.shard_ops.Take as declared_take
use Rattle.sh_ir.specs.declared.shard_ops.UpdateHalo as declared_update_halo
use Rattle.sh_ir.specs.declared.shard_ops.GridAxes.{GridAxes}
use Rattle.sh_ir.specs.declared.types.RawSharding.{RawSharding}
use Rattle.sh_ir.specs.declared.tensor_ops.CollapseShape as declared_collapse
use Rattle.sh_ir.specs.declared.tensor_ops.ExpandShape as declared_expand
use Rattle.sh_ir.specs.declared.tensor_ops.ExtractSlice as declared_extract
use Rattle.sh_ir.specs.declared.tensor_ops.InsertSlice as declared_insert
use Rattle.sh_ir.specs.declared.types.ValueType.{ValueType}
use Rattle.sh_ir.specs.declared.types.ValueType.TheVariants as type
use Rattle.sh_print.specs.Layout.{Piece}
use Rattle.sh_print.specs.Layout.Piece.{apart, closing, line_end, opening, token}
use Rattle.sh_print.specs.Spellings.{comma_before, in_brackets, list_of, nums, sign, type_pieces, width, word}
use Rattle.sh_print.specs.Tokens.{all_gather_pieces, all_reduce_pieces, all_slice_pieces, all_to_all_pieces, along_pieces, are_none, attribute, axis_pieces, binary_pieces, block_argument, block_arguments, body_kind_pieces, body_op_pieces, body_pieces, call_op_pieces, call_types, cast_pieces, collapse_pieces, compare_pieces, condition_pieces, constant_pieces, defined, empty_pieces, expand_pieces, extract_pieces, first_cell, from_to, generic_attributes, generic_pieces, header_pieces, index_cast_pieces, index_pieces, inner, ins, ins_outs, ins_values, insert_pieces, is_truth, iterator_pieces, iterators_pieces, join_pieces, kind_pieces, literal_pieces, loop_word, loops_pieces, map_pieces, maps_pieces, maybe_ins, more_block_arguments, of_type, op_pieces, operand, operands_pieces, outs, outs_values, over, pad_pieces, reduce_pieces, reduce_scatter_pieces, return_pieces, scalar_cell, scalar_pieces, scope_of_body, select_pieces, shard_pieces, sharding_op_pieces, shift_pieces, structured_pieces, take_pieces, typed_values, types_of_select, update_halo_pieces, yield_pieces}
use Rattle.sh_print.specs.Values.{Scope, name_in, name_inside, value}
use Rattle.sh_print.specs.declared.names.Name.{Name}
use Rattle.sh_print.specs.declared.names.Name.TheVariants.{BlockArgument}
use Rattle.sh_print.proofs.ReadablePieces.{Readable, nothing, joined, both_true, parts_true, is_word, is_other_sign, a_word, a_symbol, a_sharding_type, a_sign, an_opening, a_closing, a_line_end, a_number, a_value, a_block, a_loop, an_iterator, readable_each, readable_list, readable_brackets, all_by, all_are, all_with}
use Rattle.sh_print.proofs.ReadableLiterals.{a_constant}
use Rattle.sh_print.proofs.ReadableForms.{sign_alone, word_alone, binary_is_word, predicate_is_word, cast_is_word, a_width, a_num, numbers_in_brackets, lists_in_brackets, an_attribute, named_numbers, an_axis, a_flag, a_type, some_types, with_type, into_type, from_type_to, source_into, some_values, two_values, a_split, a_sharding, a_slice, over_groups, a_reduction}

-- what the text writes is spelled, with the type of the value where it is written
pub record IsWritten (x : Written) (t : ValueType) : Type 0 where
  pub names : list_all is_name (x.grids ++ x.callees) ≡ true
  pub numbers : list_all is_spelled x.numbers ≡ true
  pub types : list_all is_spelled_type (types_in x t) ≡ true
  pub literals : list_all is_held x.constants ≡ true

-- the same for each operation of a region
abbrev pub IsBodyWritten : Body → Type 0
IsBodyWritten body = AllByRecursion (λ op. IsWritten (written_in_body op.kind) op.result) body.ops

only : {X : Type 0} (p : X → Bool) (x : X) → list_all p (x ∷ []) ≡ true → p x ≡ true
only p x e = (both_true (p x) true e).0

two : {X : Type 0} (p : X → Bool) (x y : X) → list_all p (x ∷ (y ∷ [])) ≡ true → (p x ≡ true) × (p y ≡ true)
two p x y e = let both = both_true (p x) (list_all p (y ∷ [])) e in (both.0, only p y both.1)

-- ## arith

a_literal : (c : declared_constant.Constant) (t : ValueType) (held : list_all is_held (c ∷ []) ≡ true) → is_spelled_type c.value_type ≡ true → Readable (constant_pieces c)
a_literal c t held spelled = a_constant c (only is_held c held) spelled

a_binary : (op : BinOp) (a b : Name) (t : ValueType) → is_spelled_type t ≡ true → Readable (binary_pieces op a b t)
unfolding binary_pieces
a_binary op a b t e = a_word (binary_is_word op) (joined (two_values a b) (with_type t e))

a_comparison : (x : Compare) (a b : Name) → is_spelled_type x.operand_type ≡ true → Readable (compare_pieces x a b)
unfolding compare_pieces
a_comparison x a b e = a_word refl (a_word (predicate_is_word x.predicate) (a_sign refl (joined (two_values a b) (with_type x.operand_type e))))

maybe_condition : (v : Bool) (t : ValueType) → is_spelled_type t ≡ true → Readable (if v then [] else type_pieces t ++ sign "," ∷ [])
maybe_condition true t e = nothing
maybe_condition false t e = joined (a_type t e) (sign_alone (codes ",") refl)

a_condition : (t : ValueType) → is_spelled_type t ≡ true → Readable (condition_pieces t)
unfolding condition_pieces
a_condition t e = maybe_condition (is_truth t) t e

a_selection : (condition : ValueType) (c a b : Name) (t : ValueType) → is_spelled_type condition ≡ true → is_spelled_type t ≡ true → Readable (select_pieces condition c a b t)
unfolding select_pieces types_of_select
a_selection condition c a b t e f = a_word refl (a_value c (a_sign refl (joined (two_values a b) (a_sign refl (joined (a_condition condition e) (a_type t f))))))

a_cast : (x : Cast) (a : Name) (t : ValueType) → is_spelled_type x.operand_type ≡ true → is_spelled_type t ≡ true → Readable (cast_pieces x a t)
unfolding cast_pieces
a_cast x a t e f = a_word (cast_is_word x.op) (a_value a (joined (with_type x.operand_type e) (a_word refl (a_type t f))))

-- ## tensor

an_empty : (t : ValueType) → is_spelled_type t ≡ true → Readable (empty_pieces t)
unfolding empty_pieces
an_empty t e = a_word refl (a_sign refl (a_sign refl (with_type t e)))

an_extract : (x : declared_extract.ExtractSlice) (a : Name) (t : ValueType) → list_all is_spelled (slice_numbers x.slice) ≡ true → is_spelled_type x.source_type ≡ true → is_spelled_type t ≡ true
    → Readable (extract_pieces x a t)
unfolding extract_pieces
an_extract x a t n e f = a_word refl (a_value a (joined (joined (a_slice x.slice n) (with_type x.source_type e)) (a_word refl (a_type t f))))

an_insert : (x : declared_insert.InsertSlice) (a b : Name) (t : ValueType) → list_all is_spelled (slice_numbers x.slice) ≡ true → is_spelled_type x.source_type ≡ true → is_spelled_type t ≡ true
    → Readable (insert_pieces x a b t)
unfolding insert_pieces
an_insert x a b t n e f = a_word refl (a_value a (a_word refl (a_value b (joined (a_slice x.slice n) (source_into x.source_type t e f)))))

a_collapse : (x : declared_collapse.CollapseShape) (a : Name) (t : ValueType) → list_all is_spelled (all_numbers x.reassociation) ≡ true → is_spelled_type x.source_type ≡ true → is_spelled_type t ≡ true
    → Readable (collapse_pieces x a t)
unfolding collapse_pieces
a_collapse x a t n e f = a_word refl (a_value a (joined (lists_in_brackets x.reassociation n) (source_into x.source_type t e f)))

an_expand : (x : declared_expand.ExpandShape) (a : Name) (t : ValueType) → list_all is_spelled (all_numbers x.reassociation ++ x.output_shape) ≡ true → is_spelled_type x.source_type ≡ true → is_spelled_type t ≡ true
    → Readable (expand_pieces x a t)
unfolding expand_pieces
an_expand x a t n e f =
    let both = parts_true is_spelled (all_numbers x.reassociation) x.output_shape n in
    a_word refl (a_value a (joined (joined (lists_in_brackets x.reassociation both.0) (a_word refl (numbers_in_brackets x.output_shape both.1))) (source_into x.source_type t e f)))

-- ## linalg

values_with_types : (scope : Scope) (ids : List ℕ) (ts : List ValueType) → list_all is_spelled_type ts ≡ true → Readable (typed_values scope ids ts)
unfolding typed_values
values_with_types scope ids ts e = joined (some_values scope ids) (a_sign refl (some_types ts e))

some_operands : (name : List ℕ) (scope : Scope) (ids : List ℕ) (ts : List ValueType) → is_word name ≡ true → list_all is_spelled_type ts ≡ true → Readable (operands_pieces name scope ids ts)
unfolding operands_pieces
some_operands name scope ids ts is e = a_word is (a_sign refl (joined (values_with_types scope ids ts e) (sign_alone (codes ")") refl)))

some_ins : (scope : Scope) (x : InsOuts) (xs : List ℕ) → list_all is_spelled_type x.ins_types ≡ true → Readable (ins scope x xs)
unfolding ins
some_ins scope x xs e = some_operands (codes "ins") scope (ins_values x xs) x.ins_types refl e

some_outs : (scope : Scope) (x : InsOuts) (xs : List ℕ) → list_all is_spelled_type x.outs_types ≡ true → Readable (outs scope x xs)
unfolding outs
some_outs scope x xs e = some_operands (codes "outs") scope (outs_values x xs) x.outs_types refl e

both_operands : (scope : Scope) (x : InsOuts) (xs : List ℕ) → list_all is_spelled_type (x.ins_types ++ x.outs_types) ≡ true → Readable (ins_outs scope x xs)
unfolding ins_outs
both_operands scope x xs e =
    let both = parts_true is_spelled_type x.ins_types x.outs_types e in
    joined (some_ins scope x xs both.0) (some_outs scope x xs both.1)

ins_unless : (v : Bool) (scope : Scope) (x : InsOuts) (xs : List ℕ) → list_all is_spelled_type x.ins_types ≡ true → Readable (if v then [] else ins scope x xs)
ins_unless true scope x xs e = nothing
ins_unless false scope x xs e = some_ins scope x xs e

ins_where_there : (scope : Scope) (x : InsOuts) (xs : List ℕ) → list_all is_spelled_type x.ins_types ≡ true → Readable (maybe_ins scope x xs)
unfolding maybe_ins
ins_where_there scope x xs e = ins_unless (are_none (ins_values x xs) x.ins_types) scope x xs e

structured_readable : (name : List ℕ) (scope : Scope) (x : InsOuts) (xs : List ℕ) (t : ValueType) → is_word name ≡ true
    → list_all is_spelled_type ((x.ins_types ++ x.outs_types) ++ t ∷ []) ≡ true → Readable (structured_pieces name scope x xs t)
unfolding structured_pieces
structured_readable name scope x xs t is e =
    let both = parts_true is_spelled_type (x.ins_types ++ x.outs_types) (t ∷ []) e in
    a_word is (joined (both_operands scope x xs both.0) (into_type t (only is_spelled_type t both.1)))

along_readable : (name : List ℕ) (scope : Scope) (x : InsOuts) (xs : List ℕ) (along : List ℕ) (zs : List ℤ) → is_word name ≡ true → is_word along ≡ true
    → list_all is_spelled_type ((x.ins_types ++ x.outs_types) ++ []) ≡ true → list_all is_spelled zs ≡ true → Readable (along_pieces name scope x xs along zs)
unfolding along_pieces
along_readable name scope x xs along zs is too e n =
    a_word is (joined (both_operands scope x xs (parts_true is_spelled_type (x.ins_types ++ x.outs_types) [] e).0) (named_numbers along zs too n))

-- ## Regions

comma_unless : (v : Bool) → Readable (if v then [] else sign "," ∷ [])
comma_unless true = nothing
comma_unless false = sign_alone (codes ",") refl

one_block_argument : (at : ℕ) (w : Width) → Readable (block_argument at w)
unfolding block_argument
one_block_argument at w = joined (comma_unless (nat_eq at 0)) (a_value (BlockArgument at) (a_sign refl (a_width w nothing)))

block_arguments_from : (at : ℕ) (ws : List Width) → Readable (more_block_arguments at ws)
block_arguments_from at [] = nothing
block_arguments_from at (w ∷ ws) = joined (one_block_argument at w) (block_arguments_from (suc at) ws)

all_arguments : (ws : List Width) → Readable (block_arguments ws)
unfolding block_arguments
all_arguments ws = a_sign refl (joined (block_arguments_from 0 ws) (sign_alone (codes ")") refl))

an_index : (n : ℕ) → is_spelled (pos n) ≡ true → Readable (index_pieces n)
unfolding index_pieces
an_index n e = a_word refl (a_number n (ltb-true n (2 ^ 64) e) (a_sign refl (word_alone (codes "index") refl)))

an_index_cast : (a : Name) (t : ValueType) → is_spelled_type t ≡ true → Readable (index_cast_pieces a t)
unfolding index_cast_pieces
an_index_cast a t e = a_word refl (a_value a (a_sign refl (a_word refl (a_word refl (a_type t e)))))

a_body_kind : (kind : BodyKind) (s o : Scope) (xs : List ℕ) (t : ValueType) → IsWritten (written_in_body kind) t → Readable (body_kind_pieces kind s o xs t)
unfolding body_kind_pieces
a_body_kind (body_kind.Constant c) s o xs t is = a_literal c t is.literals (only is_spelled_type c.value_type is.types)
a_body_kind (body_kind.Binary op) s o xs t is = a_binary op (inner s o xs 0) (inner s o xs 1) t (only is_spelled_type t is.types)
a_body_kind (body_kind.Compare x) s o xs t is = a_comparison x (inner s o xs 0) (inner s o xs 1) (only is_spelled_type x.operand_type is.types)
a_body_kind (body_kind.Select x) s o xs t is =
    let both = two is_spelled_type x.condition_type t is.types in
    a_selection x.condition_type (inner s o xs 0) (inner s o xs 1) (inner s o xs 2) t both.0 both.1
a_body_kind (body_kind.Cast x) s o xs t is = let both = two is_spelled_type x.operand_type t is.types in a_cast x (inner s o xs 0) t both.0 both.1
a_body_kind (body_kind.Index x) s o xs t is = an_index x.dimension (only is_spelled (pos x.dimension) is.numbers)
a_body_kind body_kind.IndexCast s o xs t is = an_index_cast (inner s o xs 0) t (only is_spelled_type t is.types)

a_body_op : (own outer : Scope) (op : BodyOp) → IsWritten (written_in_body op.kind) op.result → Readable (body_op_pieces own outer op)
unfolding body_op_pieces
a_body_op own outer op is = a_value (name_inside own outer op.defines) (a_sign refl (joined (a_body_kind op.kind own outer op.operands op.result is) (a_line_end nothing)))

a_yield : (a : Name) (w : Width) → Readable (yield_pieces a w)
unfolding yield_pieces
a_yield a w = a_word refl (a_value a (a_sign refl (a_width w (a_line_end nothing))))

a_body : (outer : Scope) (body : Body) → IsBodyWritten body → Readable (body_pieces outer body)
unfolding body_pieces
a_body outer body is =
    let own = scope_of_body body in
    joined (joined (readable_each (body_op_pieces own outer) body.ops (all_with (body_op_pieces own outer) (λ op. IsWritten (written_in_body op.kind) op.result) body.ops (a_body_op own outer) is))
    (a_yield (name_inside own outer body.yields) body.width)) (a_closing nothing)

loop_alone : (n : ℕ) → Readable (loop_word n)
loop_alone n = a_loop n nothing

some_loops : (loops : List ℕ) → Readable (loops_pieces loops)
unfolding loops_pieces
some_loops loops = a_sign refl (joined (readable_list loop_word loops (all_are loop_word loops loop_alone)) (sign_alone (codes ")") refl))

a_map : (x : AffineMap) → Readable (map_pieces x)
unfolding map_pieces
a_map x = a_word refl (a_sign refl (joined (joined (some_loops x.loops) (a_sign refl (some_loops x.results))) (sign_alone (codes ">") refl)))

iterator_alone : (x : IteratorType) → Readable (iterator_pieces x)
iterator_alone x = an_iterator x nothing

some_attributes : (x : declared_generic.Generic) → Readable (generic_attributes x)
unfolding generic_attributes maps_pieces iterators_pieces
some_attributes x =
    let maps : Readable (attribute (codes "indexing_maps") ++ in_brackets map_pieces x.indexing_maps) =
    joined (an_attribute (codes "indexing_maps") refl) (readable_brackets map_pieces x.indexing_maps (all_are map_pieces x.indexing_maps a_map)) in
    let iterators : Readable (attribute (codes "iterator_types") ++ in_brackets iterator_pieces x.iterator_types) =
    joined (an_attribute (codes "iterator_types") refl) (readable_brackets iterator_pieces x.iterator_types (all_are iterator_pieces x.iterator_types iterator_alone)) in
    a_sign refl (joined (joined maps (a_sign refl iterators)) (sign_alone (codes "}") refl))

a_header : (x : declared_generic.Generic) → Readable (header_pieces x)
unfolding header_pieces
a_header x = an_opening (a_block (joined (all_arguments x.body.widths) (a_sign refl (a_line_end nothing))))

a_reduce : (scope : Scope) (x : declared_reduce.Reduce) (xs : List ℕ) (t : ValueType) → IsWritten (written_by (Reduce x)) t → IsBodyWritten x.body → Readable (reduce_pieces scope x xs)
unfolding reduce_pieces
a_reduce scope x xs t is body =
    joined (joined (along_readable (codes "linalg.reduce") scope x.ins_outs xs (codes "dimensions") x.dimensions refl refl is.types is.numbers) (all_arguments x.body.widths))
    (an_opening (a_body scope x.body body))

a_generic : (scope : Scope) (x : declared_generic.Generic) (xs : List ℕ) (t : ValueType) → IsWritten (written_by (Generic x)) t → IsBodyWritten x.body → Readable (generic_pieces scope x xs t)
unfolding generic_pieces
a_generic scope x xs t is body =
    let both = parts_true is_spelled_type (x.ins_outs.ins_types ++ x.ins_outs.outs_types) (t ∷ []) is.types in
    let types = parts_true is_spelled_type x.ins_outs.ins_types x.ins_outs.outs_types both.0 in
    a_word refl (joined (joined (joined (joined (joined (some_attributes x) (ins_where_there scope x.ins_outs xs types.0)) (some_outs scope x.ins_outs xs types.1)) (a_header x)) (a_body scope x.body body))
    (into_type t (only is_spelled_type t both.1)))

-- ## shard

a_sharding_op : (x : RawSharding) → is_name x.grid ≡ true → list_all is_spelled (sharding_numbers x) ≡ true → Readable (sharding_op_pieces x)
unfolding sharding_op_pieces of_type type_pieces
a_sharding_op x name e = a_word refl (a_symbol x.grid name (joined (a_sharding x e) (a_sign refl (a_sharding_type nothing))))

a_note : (x : declared_shard.Shard) (a b : Name) (t : ValueType) → is_spelled_type t ≡ true → Readable (shard_pieces x a b t)
unfolding shard_pieces
a_note x a b t e = a_word refl (a_value a (a_word refl (a_value b (joined (a_flag (codes "annotate_for_users") x.annotate_for_users refl) (with_type t e)))))

-- what is written of a collective with these numbers behind its axes
record InGroups (on : GridAxes) (numbers : List ℤ) (from to : ValueType) : Type 0 where
  name : is_name on.grid ≡ true
  axes : list_all is_spelled on.grid_axes ≡ true
  others : list_all is_spelled numbers ≡ true
  from_spelled : is_spelled_type from ≡ true
  to_spelled : is_spelled_type to ≡ true

groups_written : (on : GridAxes) (numbers : List ℤ) (from to : ValueType) → IsWritten (in_groups on numbers from) to → InGroups on numbers from to
groups_written on numbers from to is =
    let both = parts_true is_spelled on.grid_axes numbers is.numbers in
    let types = two is_spelled_type from to is.types in
    record { name = only is_name on.grid is.names; axes = both.0; others = both.1; from_spelled = types.0; to_spelled = types.1 }

gather_axis : (name axis : List ℕ) (n : ℕ) (a : Name) (on : GridAxes) (from to : ValueType) → is_word name ≡ true → is_word axis ≡ true → InGroups on (pos n ∷ []) from to
    → Readable ((over name a on ++ axis_pieces axis n) ++ from_to from to)
gather_axis name axis n a on from to is too g =
    joined (joined (over_groups name a on is g.name g.axes) (an_axis axis n too (only is_spelled (pos n) g.others))) (from_type_to from to g.from_spelled g.to_spelled)

an_all_gather : (x : declared_all_gather.AllGather) (a : Name) (t : ValueType) → IsWritten (written_by (AllGather x)) t → Readable (all_gather_pieces x a t)
unfolding all_gather_pieces
an_all_gather x a t is = gather_axis (codes "shard.all_gather") (codes "gather_axis") x.gather_axis a x.on x.operand_type t refl refl (groups_written x.on (pos x.gather_axis ∷ []) x.operand_type t is)

an_all_slice : (x : declared_all_slice.AllSlice) (a : Name) (t : ValueType) → IsWritten (written_by (AllSlice x)) t → Readable (all_slice_pieces x a t)
unfolding all_slice_pieces
an_all_slice x a t is = gather_axis (codes "shard.all_slice") (codes "slice_axis") x.slice_axis a x.on x.operand_type t refl refl (groups_written x.on (pos x.slice_axis ∷ []) x.operand_type t is)

an_all_reduce : (x : declared_all_reduce.AllReduce) (a : Name) (t : ValueType) → IsWritten (written_by (AllReduce x)) t → Readable (all_reduce_pieces x a t)
unfolding all_reduce_pieces
an_all_reduce x a t is =
    let g = groups_written x.on [] x.operand_type t is in
    joined (joined (over_groups (codes "shard.all_reduce") a x.on refl g.name g.axes) (a_reduction x.reduction)) (from_type_to x.operand_type t g.from_spelled g.to_spelled)

a_reduce_scatter : (x : declared_reduce_scatter.ReduceScatter) (a : Name) (t : ValueType) → IsWritten (written_by (ReduceScatter x)) t → Readable (reduce_scatter_pieces x a t)
unfolding reduce_scatter_pieces
a_reduce_scatter x a t is =
    let g = groups_written x.on (pos x.scatter_axis ∷ []) x.operand_type t is in
    joined (joined (joined (over_groups (codes "shard.reduce_scatter") a x.on refl g.name g.axes) (a_reduction x.reduction)) (an_axis (codes "scatter_axis") x.scatter_axis refl (only is_spelled (pos x.scatter_axis) g.others)))
    (from_type_to x.operand_type t g.from_spelled g.to_spelled)

an_all_to_all : (x : declared_all_to_all.AllToAll) (a : Name) (t : ValueType) → IsWritten (written_by (AllToAll x)) t → Readable (all_to_all_pieces x a t)
unfolding all_to_all_pieces
an_all_to_all x a t is =
    let g = groups_written x.on (pos x.split_axis ∷ (pos x.concat_axis ∷ [])) x.operand_type t is in
    let both = two is_spelled (pos x.split_axis) (pos x.concat_axis) g.others in
    joined (joined (joined (over_groups (codes "shard.all_to_all") a x.on refl g.name g.axes) (an_axis (codes "split_axis") x.split_axis refl both.0)) (an_axis (codes "concat_axis") x.concat_axis refl both.1))
    (from_type_to x.operand_type t g.from_spelled g.to_spelled)

a_shift : (x : declared_shift.Shift) (a : Name) (t : ValueType) → IsWritten (written_by (Shift x)) t → Readable (shift_pieces x a t)
unfolding shift_pieces
a_shift x a t is =
    let g = groups_written x.on (pos x.shift_axis ∷ (x.offset ∷ [])) x.operand_type t is in
    let both = two is_spelled (pos x.shift_axis) x.offset g.others in
    joined (joined (joined (joined (joined (over_groups (codes "shard.shift") a x.on refl g.name g.axes) (an_axis (codes "shift_axis") x.shift_axis refl both.0)) (an_attribute (codes "offset") refl)) (a_num x.offset both.1)) (a_flag (codes "rotate") x.rotate refl))
    (from_type_to x.operand_type t g.from_spelled g.to_spelled)

an_update_halo : (x : declared_update_halo.UpdateHalo) (a : Name) (t : ValueType) → IsWritten (written_by (UpdateHalo x)) t → Readable (update_halo_pieces x a t)
unfolding update_halo_pieces
an_update_halo x a t is =
    let both = parts_true is_spelled (all_numbers x.split_axes) x.halo_sizes is.numbers in
    a_word refl (a_value a (a_word refl (a_symbol x.grid (only is_name x.grid is.names)
    (joined (joined (a_split x.split_axes both.0) (named_numbers (codes "halo_sizes") x.halo_sizes refl both.1)) (with_type t (only is_spelled_type t is.types))))))

a_take : (x : declared_take.Take) (a : Name) (t : ValueType) → IsWritten (written_by (Take x)) t → Readable (take_pieces x a t)
unfolding take_pieces
a_take x a t is =
    let g = groups_written x.on ((pos x.axis ∷ x.starts) ++ x.sizes) x.operand_type t is in
    let both = parts_true is_spelled (pos x.axis ∷ x.starts) x.sizes g.others in
    let front = both_true (is_spelled (pos x.axis)) (list_all is_spelled x.starts) both.0 in
    joined (joined (joined (joined (over_groups (codes "shardrun.take") a x.on refl g.name g.axes) (an_axis (codes "axis") x.axis refl front.0)) (named_numbers (codes "starts") x.starts refl front.1)) (named_numbers (codes "sizes") x.sizes refl both.1))
    (from_type_to x.operand_type t g.from_spelled g.to_spelled)

a_pad : (x : declared_pad.Pad) (a : Name) (t : ValueType) → IsWritten (written_by (Pad x)) t → Readable (pad_pieces x a t)
unfolding pad_pieces
a_pad x a t is =
    let both = parts_true is_spelled x.low x.high is.numbers in
    let types = two is_spelled_type x.operand_type t is.types in
    a_word refl (a_value a (joined (joined (named_numbers (codes "low") x.low refl both.0) (named_numbers (codes "high") x.high refl both.1)) (from_type_to x.operand_type t types.0 types.1)))

a_join : (scope : Scope) (x : declared_join.Join) (xs : List ℕ) (t : ValueType) → IsWritten (written_by (Join x)) t → Readable (join_pieces scope x xs t)
unfolding join_pieces
a_join scope x xs t is =
    let types = parts_true is_spelled_type x.operand_types (t ∷ []) is.types in
    a_word refl (joined (joined (joined (some_values scope xs) (an_axis (codes "axis") x.axis refl (only is_spelled (pos x.axis) is.numbers))) (a_sign refl (some_types x.operand_types types.0))) (into_type t (only is_spelled_type t types.1)))

types_of_call : (x : declared_call.Call) → list_all is_spelled_type x.operand_types ≡ true → Readable (call_types x)
unfolding call_types
types_of_call x e = a_sign refl (joined (some_types x.operand_types e) (sign_alone (codes ")") refl))

a_call : (scope : Scope) (x : declared_call.Call) (xs : List ℕ) (t : ValueType) → IsWritten (written_by (Call x)) t → Readable (call_op_pieces scope x xs t)
unfolding call_op_pieces
a_call scope x xs t is =
    let types = parts_true is_spelled_type x.operand_types (t ∷ []) is.types in
    a_word refl (a_symbol x.callee (only is_name x.callee is.names) (a_sign refl
    (joined (joined (some_values scope xs) (a_sign refl (a_sign refl (types_of_call x types.0)))) (into_type t (only is_spelled_type t types.1)))))

typed_unless : (v : Bool) (scope : Scope) (xs : List ℕ) (ts : List ValueType) → list_all is_spelled_type ts ≡ true → Readable (if v then [] else typed_values scope xs ts)
typed_unless true scope xs ts e = nothing
typed_unless false scope xs ts e = values_with_types scope xs ts e

a_return : (scope : Scope) (x : declared_return.Return) (xs : List ℕ) (t : ValueType) → IsWritten (written_by (Return x)) t → Readable (return_pieces scope x xs)
unfolding return_pieces
a_return scope x xs t is = a_word refl (typed_unless (are_none xs x.operand_types) scope xs x.operand_types (parts_true is_spelled_type x.operand_types [] is.types).0)

-- ## All kinds

-- the operations of the region are written so, where there is a region
abbrev pub IsRegionWritten : Option Body → Type 0
IsRegionWritten body = MatchOption body ⊤ IsBodyWritten

a_kind : (s : Scope) (kind : OpKind) (xs : List ℕ) (t : ValueType) → IsWritten (written_by kind) t → IsRegionWritten (written_by kind).body → Readable (kind_pieces s kind xs t)
unfolding kind_pieces
a_kind s (ConstantOp c) xs t is body = a_literal c t is.literals (only is_spelled_type c.value_type is.types)
a_kind s (Binary op) xs t is body = a_binary op (operand s xs 0) (operand s xs 1) t (only is_spelled_type t is.types)
a_kind s (CompareOp x) xs t is body = a_comparison x (operand s xs 0) (operand s xs 1) (only is_spelled_type x.operand_type is.types)
a_kind s (Select x) xs t is body =
    let both = two is_spelled_type x.condition_type t is.types in
    a_selection x.condition_type (operand s xs 0) (operand s xs 1) (operand s xs 2) t both.0 both.1
a_kind s (CastOp x) xs t is body = let both = two is_spelled_type x.operand_type t is.types in a_cast x (operand s xs 0) t both.0 both.1
a_kind s Empty xs t is body = an_empty t (only is_spelled_type t is.types)
a_kind s (ExtractSlice x) xs t is body = let both = two is_spelled_type x.source_type t is.types in an_extract x (operand s xs 0) t is.numbers both.0 both.1
a_kind s (InsertSlice x) xs t is body = let both = two is_spelled_type x.source_type t is.types in an_insert x (operand s xs 0) (operand s xs 1) t is.numbers both.0 both.1
a_kind s (CollapseShape x) xs t is body = let both = two is_spelled_type x.source_type t is.types in a_collapse x (operand s xs 0) t is.numbers both.0 both.1
a_kind s (ExpandShape x) xs t is body = let both = two is_spelled_type x.source_type t is.types in an_expand x (operand s xs 0) t is.numbers both.0 both.1
a_kind s (Fill x) xs t is body = structured_readable (codes "linalg.fill") s x xs t refl is.types
a_kind s (Matmul x) xs t is body = structured_readable (codes "linalg.matmul") s x xs t refl is.types
a_kind s (BatchMatmul x) xs t is body = structured_readable (codes "linalg.batch_matmul") s x xs t refl is.types
a_kind s (Matvec x) xs t is body = structured_readable (codes "linalg.matvec") s x xs t refl is.types
a_kind s (Vecmat x) xs t is body = structured_readable (codes "linalg.vecmat") s x xs t refl is.types
a_kind s (Dot x) xs t is body = structured_readable (codes "linalg.dot") s x xs t refl is.types
a_kind s (Conv1d x) xs t is body = structured_readable (codes "linalg.conv_1d") s x xs t refl is.types
a_kind s (Conv2d x) xs t is body = structured_readable (codes "linalg.conv_2d") s x xs t refl is.types
a_kind s (Transpose x) xs t is body = along_readable (codes "linalg.transpose") s x.ins_outs xs (codes "permutation") x.permutation refl refl is.types is.numbers
a_kind s (Broadcast x) xs t is body = along_readable (codes "linalg.broadcast") s x.ins_outs xs (codes "dimensions") x.dimensions refl refl is.types is.numbers
a_kind s (Reduce x) xs t is body = a_reduce s x xs t is body
a_kind s (Generic x) xs t is body = a_generic s x xs t is body
a_kind s (Sharding x) xs t is body = a_sharding_op x (only is_name x.grid is.names) is.numbers
a_kind s (Shard x) xs t is body = a_note x (operand s xs 0) (operand s xs 1) t (only is_spelled_type t is.types)
a_kind s (AllGather x) xs t is body = an_all_gather x (operand s xs 0) t is
a_kind s (AllSlice x) xs t is body = an_all_slice x (operand s xs 0) t is
a_kind s (AllReduce x) xs t is body = an_all_reduce x (operand s xs 0) t is
a_kind s (ReduceScatter x) xs t is body = a_reduce_scatter x (operand s xs 0) t is
a_kind s (AllToAll x) xs t is body = an_all_to_all x (operand s xs 0) t is
a_kind s (Shift x) xs t is body = a_shift x (operand s xs 0) t is
a_kind s (UpdateHalo x) xs t is body = an_update_halo x (operand s xs 0) t is
a_kind s (Take x) xs t is body = a_take x (operand s xs 0) t is
a_kind s (Pad x) xs t is body = a_pad x (operand s xs 0) t is
a_kind s (Join x) xs t is body = a_join s x xs t is
a_kind s (Call x) xs t is body = a_call s x xs t is
a_kind s (Return x) xs t is body = a_return s x xs t is

a_definition : (scope : Scope) (id : Option ℕ) → Readable (defined scope id)
unfolding defined
a_definition scope None = nothing
a_definition scope (Some id) = a_value (name_in scope id) (sign_alone (codes "=") refl)

-- the text of the operation and of its region is spelled
abbrev pub IsOpWritten : Op → Type 0
IsOpWritten op = IsWritten (written_by op.kind) op.result × IsRegionWritten (written_by op.kind).body

pub an_op : (scope : Scope) (op : Op) → IsOpWritten op → Readable (op_pieces scope op)
unfolding op_pieces
an_op scope op is = joined (joined (a_definition scope op.defines) (a_kind scope op.kind op.operands op.result is.0 is.1)) (a_line_end nothing)
