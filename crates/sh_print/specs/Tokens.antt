-- The tokens of a module, form by form in the order of the grammar.
use Rattle.std.specs.Prelude.{ℕ, suc, ◌&&◌, Bool, true, false, ℤ, unsigned_abs, List, [], ◌∷◌, ◌++◌, Option, Some, None, if◌then◌else◌, map, flat_map, option_to_list, length, take, drop, get_or, codes, decimal}
use Rattle.sh_base.specs.declared.numbers.Cell.{Cell}
use Rattle.sh_base.specs.declared.numbers.Cell.TheVariants.{Undef}
use Rattle.sh_base.specs.declared.numbers.Width.{Width}
use Rattle.sh_base.specs.declared.numbers.Width.TheVariants.{I1, I8, I16, I32, I64}
use Rattle.sh_base.specs.declared.operations.BinOp.{BinOp}
use Rattle.sh_base.specs.declared.operations.Kind.{Kind}
use Rattle.sh_lex.specs.declared.tokens.TokenKind.TheVariants as kind
use Rattle.sh_ir.specs.Regions.{own_names}
use Rattle.sh_ir.specs.declared.arith_ops.Cast.{Cast}
use Rattle.sh_ir.specs.declared.arith_ops.Compare.{Compare}
use Rattle.sh_ir.specs.declared.arith_ops.Constant.{Constant}
use Rattle.sh_ir.specs.declared.arith_ops.Contents.{Contents}
use Rattle.sh_ir.specs.declared.bodies.Body.{Body}
use Rattle.sh_ir.specs.declared.bodies.BodyKind.{BodyKind}
use Rattle.sh_ir.specs.declared.bodies.BodyKind.TheVariants as body_kind
use Rattle.sh_ir.specs.declared.bodies.BodyOp.{BodyOp}
use Rattle.sh_ir.specs.declared.functions.Arg.{Arg}
use Rattle.sh_ir.specs.declared.functions.Carry.{Carry}
use Rattle.sh_ir.specs.declared.functions.Cut.{Cut}
use Rattle.sh_ir.specs.declared.functions.Func.{Func}
use Rattle.sh_ir.specs.declared.linalg_ops.AffineMap.{AffineMap}
use Rattle.sh_ir.specs.declared.linalg_ops.Generic as declared_generic
use Rattle.sh_ir.specs.declared.linalg_ops.InsOuts.{InsOuts}
use Rattle.sh_ir.specs.declared.linalg_ops.IteratorType.{IteratorType}
use Rattle.sh_ir.specs.declared.linalg_ops.Reduce as declared_reduce
use Rattle.sh_ir.specs.declared.modules.CallItem.{CallItem}
use Rattle.sh_ir.specs.declared.modules.GridItem.{GridItem}
use Rattle.sh_ir.specs.declared.modules.Module.{Module}
use Rattle.sh_ir.specs.declared.operations.Op.{Op}
use Rattle.sh_ir.specs.declared.operations.OpKind.{OpKind}
use Rattle.sh_ir.specs.declared.operations.OpKind.TheVariants.{Constant as ConstantOp, Binary, Compare as CompareOp, Select, Cast as CastOp, Empty, ExtractSlice, InsertSlice, CollapseShape, ExpandShape, Fill, Matmul, BatchMatmul, Matvec, Vecmat, Dot, Conv1d, Conv2d, Transpose, Broadcast, Reduce, Generic, Sharding, Shard, AllGather, AllSlice, AllReduce, ReduceScatter, AllToAll, Shift, UpdateHalo, Take, Pad, Join, Call, Return}
use Rattle.sh_ir.specs.declared.shard_ops.GridAxes.{GridAxes}
use Rattle.sh_ir.specs.declared.calls.Call as declared_call
use Rattle.sh_ir.specs.declared.operations.Return as declared_return
use Rattle.sh_ir.specs.declared.shard_ops.AllGather as declared_all_gather
use Rattle.sh_ir.specs.declared.shard_ops.AllReduce as declared_all_reduce
use Rattle.sh_ir.specs.declared.shard_ops.AllSlice as declared_all_slice
use Rattle.sh_ir.specs.declared.shard_ops.AllToAll as declared_all_to_all
use Rattle.sh_ir.specs.declared.shard_ops.Join as declared_join
use Rattle.sh_ir.specs.declared.shard_ops.Pad as declared_pad
use Rattle.sh_ir.specs.declared.shard_ops.ReduceScatter as declared_reduce_scatter
use Rattle.sh_ir.specs.declared.shard_ops.Shard as declared_shard
use Rattle.sh_ir.specs.declared.shard_ops.Shift as declared_shift
use Rattle.sh_ir.specs.declared.shard_ops.Take as declared_take
use Rattle.sh_ir.specs.declared.shard_ops.UpdateHalo as declared_update_halo
use Rattle.sh_ir.specs.declared.tensor_ops.CollapseShape as declared_collapse
use Rattle.sh_ir.specs.declared.tensor_ops.ExpandShape as declared_expand
use Rattle.sh_ir.specs.declared.tensor_ops.ExtractSlice as declared_extract
use Rattle.sh_ir.specs.declared.tensor_ops.InsertSlice as declared_insert
use Rattle.sh_ir.specs.declared.tensor_ops.Slice.{Slice}
use Rattle.sh_ir.specs.declared.types.RawSharding.{RawSharding}
use Rattle.sh_ir.specs.declared.types.ValueType.{ValueType}
use Rattle.sh_ir.specs.declared.types.ValueType.TheVariants as type
use Rattle.sh_print.specs.Layout.{Piece, layout}
use Rattle.sh_print.specs.Layout.Piece.{apart, closing, line_end, opening, token}
use Rattle.sh_print.specs.Spellings.{cell_pieces, cells_in, comma_before, dense_pieces, extent, in_brackets, list_of, lists, num, number, nums, sign, type_pieces, width, word}
use Rattle.sh_print.specs.Values.{Scope, each_once, name_in, name_inside, value}
use Rattle.sh_print.specs.Words.{binary_word, cast_word, iterator_word, kind_word, predicate_word}
use Rattle.sh_print.specs.declared.names.Name.{Name}
use Rattle.sh_print.specs.declared.names.Name.TheVariants.{BlockArgument}

abbrev pub symbol : List ℕ → Piece
symbol name = token kind.At (64 ∷ name)

unfoldable pub types : List ValueType → List Piece
types = list_of type_pieces

unfoldable pub value_in : Scope → ℕ → List Piece
value_in scope id = value (name_in scope id) ∷ []

unfoldable pub values : Scope → List ℕ → List Piece
values scope = list_of (value_in scope)

unfoldable pub pair : Name → Name → List Piece
pair a b = value a ∷ sign "," ∷ value b ∷ []

-- an operand by its place
abbrev pub operand : Scope → List ℕ → ℕ → Name
operand scope operands at = name_in scope (get_or operands at 0)

unfoldable pub of_type : ValueType → List Piece
of_type t = sign ":" ∷ type_pieces t

unfoldable pub attribute : List ℕ → List Piece
attribute name = token kind.Word name ∷ sign "=" ∷ []

unfoldable pub to_type : ValueType → List Piece
to_type t = sign "->" ∷ type_pieces t

-- ':' type '->' type
unfoldable pub from_to : ValueType → ValueType → List Piece
from_to t result = of_type t ++ to_type result

-- ---- items

-- 'shard.grid' AT '(' 'shape' '=' DIM* NUMBER ')'
unfoldable pub extents : List ℤ → List Piece
extents [] = []
extents (z ∷ []) = number (unsigned_abs z) ∷ []
extents (z ∷ next ∷ zs) = extent (unsigned_abs z) ∷ extents (next ∷ zs)

unfoldable pub grid_pieces : GridItem → List Piece
grid_pieces g =
    word "shard.grid" ∷ symbol g.name ∷ sign "(" ∷ attribute (codes "shape") ++ extents g.extents
    ++ sign ")" ∷ line_end ∷ []

-- 'split_axes' '=' lists halo? offs?
unfoldable pub numbers_pieces : List ℕ → List ℤ → List Piece
numbers_pieces name zs = attribute name ++ nums zs

-- nothing where the list is empty
unfoldable pub listed : List ℕ → List ℤ → List Piece
listed name [] = []
listed name (z ∷ zs) = numbers_pieces name (z ∷ zs)

unfoldable pub splits : List (List ℤ) → List Piece
splits axes = attribute (codes "split_axes") ++ lists axes

unfoldable pub sharding_pieces : RawSharding → List Piece
sharding_pieces x =
    splits x.split ++ listed (codes "halo_sizes") x.halos
    ++ listed (codes "sharded_dims_offsets") x.offsets

-- 'shardrun.device' AT 'on' AT '(' cut,* ')' '->' '(' cut,* ')'
unfoldable pub cut_pieces : Cut → List Piece
cut_pieces x = type_pieces x.whole ++ sharding_pieces x.sharding

unfoldable pub cuts : List Cut → List Piece
cuts xs = sign "(" ∷ list_of cut_pieces xs ++ sign ")" ∷ []

unfoldable pub carry_pieces : List ℕ → Carry → List Piece
carry_pieces name carry =
    word "shardrun.device" ∷ symbol name ∷ word "on" ∷ symbol carry.grid ∷ cuts carry.args
    ++ sign "->" ∷ cuts carry.results ++ line_end ∷ []

unfoldable pub device_pieces : List ℕ → Option Carry → List Piece
device_pieces name None = []
device_pieces name (Some carry) = carry_pieces name carry

-- 'shardrun.call' AT '(' (dense ':' type),* ')'
unfoldable pub call_pieces : CallItem → List Piece
call_pieces c =
    word "shardrun.call" ∷ symbol c.callee ∷ sign "(" ∷ list_of dense_pieces c.args
    ++ sign ")" ∷ line_end ∷ []

-- ---- arith

-- 'true' or 'false' or num ':' width or dense ':' type
abbrev pub first_cell : List Cell → Cell
first_cell [] = Undef
first_cell (cell ∷ cells) = cell

abbrev pub scalar_cell : Contents → Cell
scalar_cell contents = first_cell (cells_in contents)

-- whether the type is that of `true` and `false`
abbrev pub is_truth : ValueType → Bool
is_truth (type.Scalar I1) = true
is_truth (type.Scalar I8) = false
is_truth (type.Scalar I16) = false
is_truth (type.Scalar I32) = false
is_truth (type.Scalar I64) = false
is_truth (type.Tensor t) = false
is_truth type.Nothing = false
is_truth type.Sharding = false
is_truth type.Index = false

unfoldable pub scalar_pieces : Constant → Width → List Piece
scalar_pieces c w =
    cell_pieces w (scalar_cell c.contents)
    ++ (if is_truth c.value_type then [] else of_type c.value_type)

unfoldable pub literal_pieces : Constant → ValueType → List Piece
literal_pieces c (type.Scalar w) = scalar_pieces c w
literal_pieces c (type.Tensor t) = dense_pieces c
literal_pieces c type.Nothing = dense_pieces c
literal_pieces c type.Sharding = dense_pieces c
literal_pieces c type.Index = dense_pieces c

unfoldable pub constant_pieces : Constant → List Piece
constant_pieces c = word "arith.constant" ∷ literal_pieces c c.value_type

-- BIN VAL ',' VAL ':' type
unfoldable pub binary_pieces : BinOp → Name → Name → ValueType → List Piece
binary_pieces op a b t =
    token kind.Word (binary_word op) ∷ pair a b ++ of_type t

-- 'arith.cmpi' word ',' VAL ',' VAL ':' type
unfoldable pub compare_pieces : Compare → Name → Name → List Piece
compare_pieces x a b =
    word "arith.cmpi" ∷ token kind.Word (predicate_word x.predicate) ∷ sign "," ∷ pair a b
    ++ of_type x.operand_type

-- 'arith.select' VAL ',' VAL ',' VAL ':' (type ',')? type
unfoldable pub condition_pieces : ValueType → List Piece
condition_pieces t = if is_truth t then [] else type_pieces t ++ sign "," ∷ []

unfoldable pub types_of_select : ValueType → ValueType → List Piece
types_of_select condition t = sign ":" ∷ condition_pieces condition ++ type_pieces t

unfoldable pub select_pieces : ValueType → Name → Name → Name → ValueType → List Piece
select_pieces condition c a b t =
    word "arith.select" ∷ value c ∷ sign "," ∷ pair a b ++ types_of_select condition t

-- 'arith.extsi', 'arith.extui', 'arith.trunci': VAL ':' type 'to' type
unfoldable pub cast_pieces : Cast → Name → ValueType → List Piece
cast_pieces x a t =
    token kind.Word (cast_word x.op) ∷ value a ∷ of_type x.operand_type
    ++ word "to" ∷ type_pieces t

-- ---- tensor

unfoldable pub slice_pieces : Slice → List Piece
slice_pieces x = nums x.offsets ++ nums x.sizes ++ nums x.strides

-- 'tensor.empty' '(' ')' ':' type
unfoldable pub empty_pieces : ValueType → List Piece
empty_pieces t = word "tensor.empty" ∷ sign "(" ∷ sign ")" ∷ of_type t

-- ':' type 'into' type
unfoldable pub into_pieces : ValueType → ValueType → List Piece
into_pieces source t = of_type source ++ word "into" ∷ type_pieces t

-- 'tensor.extract_slice' VAL nums nums nums ':' type 'to' type
unfoldable pub extract_pieces : declared_extract.ExtractSlice → Name → ValueType → List Piece
extract_pieces x a t =
    word "tensor.extract_slice" ∷ value a ∷ slice_pieces x.slice ++ of_type x.source_type
    ++ word "to" ∷ type_pieces t

-- 'tensor.insert_slice' VAL 'into' VAL nums nums nums ':' type 'into' type
unfoldable pub insert_pieces : declared_insert.InsertSlice → Name → Name → ValueType → List Piece
insert_pieces x a b t =
    word "tensor.insert_slice" ∷ value a ∷ word "into" ∷ value b ∷ slice_pieces x.slice
    ++ into_pieces x.source_type t

-- 'tensor.collapse_shape' VAL lists ':' type 'into' type
unfoldable pub collapse_pieces : declared_collapse.CollapseShape → Name → ValueType → List Piece
collapse_pieces x a t =
    word "tensor.collapse_shape" ∷ value a ∷ lists x.reassociation ++ into_pieces x.source_type t

-- 'tensor.expand_shape' VAL lists 'output_shape' nums ':' type 'into' type
unfoldable pub expand_pieces : declared_expand.ExpandShape → Name → ValueType → List Piece
expand_pieces x a t =
    word "tensor.expand_shape" ∷ value a ∷ lists x.reassociation
    ++ word "output_shape" ∷ nums x.output_shape ++ into_pieces x.source_type t

-- ---- linalg

-- the operands that `ins` and `outs` name
abbrev pub ins_values : InsOuts → List ℕ → List ℕ
ins_values x operands = take x.ins_count operands

abbrev pub outs_values : InsOuts → List ℕ → List ℕ
outs_values x operands = take x.outs_count (drop x.ins_count operands)

-- VAL,* ':' type,*
unfoldable pub typed_values : Scope → List ℕ → List ValueType → List Piece
typed_values scope ids ts = values scope ids ++ sign ":" ∷ types ts

-- 'ins' '(' VAL,* ':' type,* ')'     outs likewise
unfoldable pub operands_pieces : List ℕ → Scope → List ℕ → List ValueType → List Piece
operands_pieces name scope ids ts =
    token kind.Word name ∷ sign "(" ∷ typed_values scope ids ts ++ sign ")" ∷ []

unfoldable pub ins : Scope → InsOuts → List ℕ → List Piece
ins scope x operands = operands_pieces (codes "ins") scope (ins_values x operands) x.ins_types

unfoldable pub outs : Scope → InsOuts → List ℕ → List Piece
outs scope x operands = operands_pieces (codes "outs") scope (outs_values x operands) x.outs_types

unfoldable pub ins_outs : Scope → InsOuts → List ℕ → List Piece
ins_outs scope x operands = ins scope x operands ++ outs scope x operands

-- whether there is neither a value nor a type
abbrev pub is_empty : {X : Type 0} → List X → Bool
is_empty [] = true
is_empty (x ∷ xs) = false

abbrev pub are_none : List ℕ → List ValueType → Bool
are_none ids ts = is_empty ids && is_empty ts

unfoldable pub maybe_ins : Scope → InsOuts → List ℕ → List Piece
maybe_ins scope x operands =
    if are_none (ins_values x operands) x.ins_types then [] else ins scope x operands

-- ins outs '->' type
unfoldable pub structured_pieces : List ℕ → Scope → InsOuts → List ℕ → ValueType → List Piece
structured_pieces name scope x operands t =
    token kind.Word name ∷ ins_outs scope x operands ++ to_type t

-- ins outs 'permutation' '=' nums, or 'dimensions' '=' nums
unfoldable pub along_pieces : List ℕ → Scope → InsOuts → List ℕ → List ℕ → List ℤ → List Piece
along_pieces name scope x operands along zs =
    token kind.Word name ∷ ins_outs scope x operands ++ numbers_pieces along zs

-- ---- regions

-- VAL ':' width, behind a comma unless it is the first
unfoldable pub block_argument : ℕ → Width → List Piece
block_argument at w = comma_before at ++ value (BlockArgument at) ∷ sign ":" ∷ width w ∷ []

-- those from this one on
abbrev pub more_block_arguments : ℕ → List Width → List Piece
more_block_arguments at [] = []
more_block_arguments at (w ∷ ws) = block_argument at w ++ more_block_arguments (suc at) ws

unfoldable pub block_arguments : List Width → List Piece
block_arguments ws = sign "(" ∷ more_block_arguments 0 ws ++ sign ")" ∷ []

abbrev pub scope_of_body : Body → Scope
scope_of_body body = record {
  ids = each_once (own_names body);
  arguments = length body.args;
}

-- 'linalg.index' NUMBER ':' 'index'
unfoldable pub index_pieces : ℕ → List Piece
index_pieces n = word "linalg.index" ∷ number n ∷ sign ":" ∷ word "index" ∷ []

-- 'arith.index_cast' VAL ':' 'index' 'to' width
unfoldable pub index_cast_pieces : Name → ValueType → List Piece
index_cast_pieces a t =
    word "arith.index_cast" ∷ value a ∷ sign ":" ∷ word "index" ∷ word "to" ∷ type_pieces t

-- the name of an operand in a region
abbrev pub inner : Scope → Scope → List ℕ → ℕ → Name
inner own outer operands at = name_inside own outer (get_or operands at 0)

unfoldable pub body_kind_pieces : BodyKind → Scope → Scope → List ℕ → ValueType → List Piece
body_kind_pieces (body_kind.Constant c) s o xs t = constant_pieces c
body_kind_pieces (body_kind.Binary op) s o xs t =
    binary_pieces op (inner s o xs 0) (inner s o xs 1) t
body_kind_pieces (body_kind.Compare x) s o xs t = compare_pieces x (inner s o xs 0) (inner s o xs 1)
body_kind_pieces (body_kind.Select x) s o xs t =
    select_pieces x.condition_type (inner s o xs 0) (inner s o xs 1) (inner s o xs 2) t
body_kind_pieces (body_kind.Cast x) s o xs t = cast_pieces x (inner s o xs 0) t
body_kind_pieces (body_kind.Index x) s o xs t = index_pieces x.dimension
body_kind_pieces body_kind.IndexCast s o xs t = index_cast_pieces (inner s o xs 0) t

-- VAL '=' arith
unfoldable pub body_op_pieces : Scope → Scope → BodyOp → List Piece
body_op_pieces own outer op =
    value (name_inside own outer op.defines) ∷ sign "="
    ∷ body_kind_pieces op.kind own outer op.operands op.result ++ line_end ∷ []

-- 'linalg.yield' VAL ':' width
unfoldable pub yield_pieces : Name → Width → List Piece
yield_pieces a w = word "linalg.yield" ∷ value a ∷ sign ":" ∷ width w ∷ line_end ∷ []

-- the operations, the yield and the closing brace
unfoldable pub body_pieces : Scope → Body → List Piece
body_pieces outer body = let own = scope_of_body body in
    flat_map (body_op_pieces own outer) body.ops
    ++ yield_pieces (name_inside own outer body.yields) body.width ++ closing ∷ []

-- ins outs 'dimensions' '=' nums '(' (VAL ':' width),* ')' '{' body '}'
unfoldable pub reduce_pieces : Scope → declared_reduce.Reduce → List ℕ → List Piece
reduce_pieces scope x operands =
    along_pieces (codes "linalg.reduce") scope x.ins_outs operands (codes "dimensions") x.dimensions
    ++ block_arguments x.body.widths ++ opening ∷ body_pieces scope x.body

-- map = 'affine_map' '<' '(' word,* ')' '->' '(' word,* ')' '>'
abbrev pub loop_word : ℕ → List Piece
loop_word n = token kind.Word (codes "d" ++ decimal n) ∷ []

unfoldable pub loops_pieces : List ℕ → List Piece
loops_pieces loops = sign "(" ∷ list_of loop_word loops ++ sign ")" ∷ []

unfoldable pub map_pieces : AffineMap → List Piece
map_pieces x =
    word "affine_map" ∷ sign "<" ∷ loops_pieces x.loops ++ sign "->" ∷ loops_pieces x.results
    ++ sign ">" ∷ []

abbrev pub iterator_pieces : IteratorType → List Piece
iterator_pieces x = token kind.Str (iterator_word x) ∷ []

-- '{' 'indexing_maps' '=' '[' map,* ']' ',' 'iterator_types' '=' '[' STRING,* ']' '}'
unfoldable pub maps_pieces : declared_generic.Generic → List Piece
maps_pieces x = attribute (codes "indexing_maps") ++ in_brackets map_pieces x.indexing_maps

unfoldable pub iterators_pieces : declared_generic.Generic → List Piece
iterators_pieces x =
    attribute (codes "iterator_types") ++ in_brackets iterator_pieces x.iterator_types

unfoldable pub generic_attributes : declared_generic.Generic → List Piece
generic_attributes x =
    sign "{" ∷ maps_pieces x ++ sign "," ∷ iterators_pieces x ++ sign "}" ∷ []

-- '{' BLOCK '(' (VAL ':' width),* ')' ':'
unfoldable pub header_pieces : declared_generic.Generic → List Piece
header_pieces x =
    opening ∷ token kind.Block (codes "^bb0") ∷ block_arguments x.body.widths
    ++ sign ":" ∷ line_end ∷ []

-- the attributes, ins? outs, the header, the body '->' type
unfoldable pub generic_pieces : Scope → declared_generic.Generic → List ℕ → ValueType → List Piece
generic_pieces scope x operands t =
    word "linalg.generic" ∷ generic_attributes x ++ maybe_ins scope x.ins_outs operands
    ++ outs scope x.ins_outs operands ++ header_pieces x ++ body_pieces scope x.body ++ to_type t

-- ---- shard

-- on = 'on' AT ('grid_axes' '=' nums)?
abbrev pub on_pieces : GridAxes → List Piece
on_pieces on =
    word "on" ∷ symbol on.grid ∷ numbers_pieces (codes "grid_axes") on.grid_axes

-- the operation on an operand over these groups
unfoldable pub over : List ℕ → Name → GridAxes → List Piece
over name a on = token kind.Word name ∷ value a ∷ on_pieces on

unfoldable pub axis_pieces : List ℕ → ℕ → List Piece
axis_pieces name n = attribute name ++ number n ∷ []

-- 'reduction' '=' '<' name '>'
unfoldable pub reduction_pieces : Kind → List Piece
reduction_pieces k =
    attribute (codes "reduction") ++ apart ∷ token kind.Word (kind_word k) ∷ sign ">" ∷ []

unfoldable pub flag : List ℕ → Bool → List Piece
flag name true = token kind.Word name ∷ []
flag name false = []

-- 'shard.sharding' AT 'split_axes' '=' lists halo? offs? ':' '!shard.sharding'
unfoldable pub sharding_op_pieces : RawSharding → List Piece
sharding_op_pieces x =
    word "shard.sharding" ∷ symbol x.grid ∷ sharding_pieces x ++ of_type type.Sharding

-- 'shard.shard' VAL 'to' VAL 'annotate_for_users'? ':' type
unfoldable pub shard_pieces : declared_shard.Shard → Name → Name → ValueType → List Piece
shard_pieces x a b t =
    word "shard.shard" ∷ value a ∷ word "to" ∷ value b
    ∷ flag (codes "annotate_for_users") x.annotate_for_users ++ of_type t

-- 'shard.all_gather' VAL on 'gather_axis' '=' NUMBER ':' type '->' type
unfoldable pub all_gather_pieces : declared_all_gather.AllGather → Name → ValueType → List Piece
all_gather_pieces x a t =
    over (codes "shard.all_gather") a x.on ++ axis_pieces (codes "gather_axis") x.gather_axis
    ++ from_to x.operand_type t

-- 'shard.all_slice' VAL on 'slice_axis' '=' NUMBER ':' type '->' type
unfoldable pub all_slice_pieces : declared_all_slice.AllSlice → Name → ValueType → List Piece
all_slice_pieces x a t =
    over (codes "shard.all_slice") a x.on ++ axis_pieces (codes "slice_axis") x.slice_axis
    ++ from_to x.operand_type t

-- 'shard.all_reduce' VAL on ('reduction' '=' kind)? ':' type '->' type
unfoldable pub all_reduce_pieces : declared_all_reduce.AllReduce → Name → ValueType → List Piece
all_reduce_pieces x a t =
    over (codes "shard.all_reduce") a x.on ++ reduction_pieces x.reduction
    ++ from_to x.operand_type t

-- 'shard.reduce_scatter' VAL on ('reduction' '=' kind)? 'scatter_axis' '=' NUMBER
--     ':' type '->' type
unfoldable pub reduce_scatter_pieces : declared_reduce_scatter.ReduceScatter → Name → ValueType
    → List Piece
reduce_scatter_pieces x a t =
    over (codes "shard.reduce_scatter") a x.on ++ reduction_pieces x.reduction
    ++ axis_pieces (codes "scatter_axis") x.scatter_axis ++ from_to x.operand_type t

-- 'shard.all_to_all' VAL on 'split_axis' '=' NUMBER 'concat_axis' '=' NUMBER ':' type '->' type
unfoldable pub all_to_all_pieces : declared_all_to_all.AllToAll → Name → ValueType → List Piece
all_to_all_pieces x a t =
    over (codes "shard.all_to_all") a x.on ++ axis_pieces (codes "split_axis") x.split_axis
    ++ axis_pieces (codes "concat_axis") x.concat_axis ++ from_to x.operand_type t

-- 'shard.shift' VAL on 'shift_axis' '=' NUMBER 'offset' '=' num 'rotate'? ':' type '->' type
unfoldable pub shift_pieces : declared_shift.Shift → Name → ValueType → List Piece
shift_pieces x a t =
    over (codes "shard.shift") a x.on ++ axis_pieces (codes "shift_axis") x.shift_axis
    ++ attribute (codes "offset") ++ num x.offset ++ flag (codes "rotate") x.rotate
    ++ from_to x.operand_type t

-- 'shard.update_halo' VAL 'on' AT 'split_axes' '=' lists halo ':' type
unfoldable pub update_halo_pieces : declared_update_halo.UpdateHalo → Name → ValueType → List Piece
update_halo_pieces x a t =
    word "shard.update_halo" ∷ value a ∷ word "on" ∷ symbol x.grid ∷ splits x.split_axes
    ++ numbers_pieces (codes "halo_sizes") x.halo_sizes ++ of_type t

-- 'shardrun.take' VAL on 'axis' '=' NUMBER 'starts' '=' nums 'sizes' '=' nums ':' type '->' type
unfoldable pub take_pieces : declared_take.Take → Name → ValueType → List Piece
take_pieces x a t =
    over (codes "shardrun.take") a x.on ++ axis_pieces (codes "axis") x.axis
    ++ numbers_pieces (codes "starts") x.starts ++ numbers_pieces (codes "sizes") x.sizes
    ++ from_to x.operand_type t

-- 'shardrun.pad' VAL 'low' '=' nums 'high' '=' nums ':' type '->' type
unfoldable pub pad_pieces : declared_pad.Pad → Name → ValueType → List Piece
pad_pieces x a t =
    word "shardrun.pad" ∷ value a ∷ numbers_pieces (codes "low") x.low
    ++ numbers_pieces (codes "high") x.high ++ from_to x.operand_type t

-- 'shardrun.join' VAL,* 'axis' '=' NUMBER ':' type,* '->' type
unfoldable pub join_pieces : Scope → declared_join.Join → List ℕ → ValueType → List Piece
join_pieces s x xs t =
    word "shardrun.join" ∷ values s xs ++ axis_pieces (codes "axis") x.axis ++ sign ":"
    ∷ types x.operand_types ++ to_type t

-- 'call' AT '(' VAL,* ')' ':' '(' type,* ')' '->' type
unfoldable pub call_types : declared_call.Call → List Piece
call_types x = sign "(" ∷ types x.operand_types ++ sign ")" ∷ []

unfoldable pub call_op_pieces : Scope → declared_call.Call → List ℕ → ValueType → List Piece
call_op_pieces s x xs t =
    word "call" ∷ symbol x.callee ∷ sign "(" ∷ values s xs ++ sign ")" ∷ sign ":" ∷ call_types x
    ++ to_type t

-- 'return' (VAL,* ':' type,*)?
unfoldable pub return_pieces : Scope → declared_return.Return → List ℕ → List Piece
return_pieces s x xs =
    word "return" ∷ (if are_none xs x.operand_types then [] else typed_values s xs x.operand_types)

-- ---- operations: each right side, in the order of the kinds of operations

unfoldable pub kind_pieces : Scope → OpKind → List ℕ → ValueType → List Piece
kind_pieces s (ConstantOp c) xs t = constant_pieces c
kind_pieces s (Binary op) xs t = binary_pieces op (operand s xs 0) (operand s xs 1) t
kind_pieces s (CompareOp x) xs t = compare_pieces x (operand s xs 0) (operand s xs 1)
kind_pieces s (Select x) xs t =
    select_pieces x.condition_type (operand s xs 0) (operand s xs 1) (operand s xs 2) t
kind_pieces s (CastOp x) xs t = cast_pieces x (operand s xs 0) t
kind_pieces s Empty xs t = empty_pieces t
kind_pieces s (ExtractSlice x) xs t = extract_pieces x (operand s xs 0) t
kind_pieces s (InsertSlice x) xs t = insert_pieces x (operand s xs 0) (operand s xs 1) t
kind_pieces s (CollapseShape x) xs t = collapse_pieces x (operand s xs 0) t
kind_pieces s (ExpandShape x) xs t = expand_pieces x (operand s xs 0) t
kind_pieces s (Fill x) xs t = structured_pieces (codes "linalg.fill") s x xs t
kind_pieces s (Matmul x) xs t = structured_pieces (codes "linalg.matmul") s x xs t
kind_pieces s (BatchMatmul x) xs t = structured_pieces (codes "linalg.batch_matmul") s x xs t
kind_pieces s (Matvec x) xs t = structured_pieces (codes "linalg.matvec") s x xs t
kind_pieces s (Vecmat x) xs t = structured_pieces (codes "linalg.vecmat") s x xs t
kind_pieces s (Dot x) xs t = structured_pieces (codes "linalg.dot") s x xs t
kind_pieces s (Conv1d x) xs t = structured_pieces (codes "linalg.conv_1d") s x xs t
kind_pieces s (Conv2d x) xs t = structured_pieces (codes "linalg.conv_2d") s x xs t
kind_pieces s (Transpose x) xs t =
    along_pieces (codes "linalg.transpose") s x.ins_outs xs (codes "permutation") x.permutation
kind_pieces s (Broadcast x) xs t =
    along_pieces (codes "linalg.broadcast") s x.ins_outs xs (codes "dimensions") x.dimensions
kind_pieces s (Reduce x) xs t = reduce_pieces s x xs
kind_pieces s (Generic x) xs t = generic_pieces s x xs t
kind_pieces s (Sharding x) xs t = sharding_op_pieces x
kind_pieces s (Shard x) xs t = shard_pieces x (operand s xs 0) (operand s xs 1) t
kind_pieces s (AllGather x) xs t = all_gather_pieces x (operand s xs 0) t
kind_pieces s (AllSlice x) xs t = all_slice_pieces x (operand s xs 0) t
kind_pieces s (AllReduce x) xs t = all_reduce_pieces x (operand s xs 0) t
kind_pieces s (ReduceScatter x) xs t = reduce_scatter_pieces x (operand s xs 0) t
kind_pieces s (AllToAll x) xs t = all_to_all_pieces x (operand s xs 0) t
kind_pieces s (Shift x) xs t = shift_pieces x (operand s xs 0) t
kind_pieces s (UpdateHalo x) xs t = update_halo_pieces x (operand s xs 0) t
kind_pieces s (Take x) xs t = take_pieces x (operand s xs 0) t
kind_pieces s (Pad x) xs t = pad_pieces x (operand s xs 0) t
kind_pieces s (Join x) xs t = join_pieces s x xs t
kind_pieces s (Call x) xs t = call_op_pieces s x xs t
kind_pieces s (Return x) xs t = return_pieces s x xs

-- op = VAL '=' rhs; the return has no value
unfoldable pub defined : Scope → Option ℕ → List Piece
defined scope None = []
defined scope (Some id) = value (name_in scope id) ∷ sign "=" ∷ []

unfoldable pub op_pieces : Scope → Op → List Piece
op_pieces scope op =
    defined scope op.defines ++ kind_pieces scope op.kind op.operands op.result ++ line_end ∷ []

-- ---- functions

abbrev pub scope_of : Func → Scope
scope_of f = record {
  ids = each_once (map (λ arg. arg.id) f.args ++ flat_map (λ op. option_to_list op.defines) f.ops);
  arguments = length f.args;
}

-- VAL ':' type
unfoldable pub parameter : Scope → Arg → List Piece
parameter scope arg = value (name_in scope arg.id) ∷ of_type arg.value_type

-- ('->' (type | '(' type,* ')'))?
unfoldable pub several_pieces : List ValueType → List Piece
several_pieces ts = sign "->" ∷ sign "(" ∷ types ts ++ sign ")" ∷ []

unfoldable pub results_pieces : List ValueType → List Piece
results_pieces [] = []
results_pieces (t ∷ []) = to_type t
results_pieces (t ∷ next ∷ ts) = several_pieces (t ∷ next ∷ ts)

-- '(' (VAL ':' type),* ')'
unfoldable pub parameters_pieces : Scope → List Arg → List Piece
parameters_pieces scope args = sign "(" ∷ list_of (parameter scope) args ++ sign ")" ∷ []

-- '{' op* ret '}'
unfoldable pub ops_pieces : Scope → List Op → List Piece
ops_pieces scope ops = opening ∷ flat_map (op_pieces scope) ops ++ closing ∷ line_end ∷ []

-- 'func.func' 'private'? AT parameters results
unfoldable pub signature_pieces : Scope → Func → List Piece
signature_pieces scope f =
    word "func.func" ∷ flag (codes "private") f.private ++ symbol f.name
    ∷ parameters_pieces scope f.args ++ results_pieces f.results

-- device? and the function
unfoldable pub func_pieces : Func → List Piece
func_pieces f = let scope = scope_of f in
    device_pieces f.name f.carry ++ signature_pieces scope f ++ ops_pieces scope f.ops

-- ---- files

unfoldable pub module_name : Option (List ℕ) → List Piece
module_name None = []
module_name (Some name) = symbol name ∷ []

-- 'module' AT? '{' grids, functions, calls '}'
unfoldable pub items_pieces : Module → List Piece
items_pieces m =
    flat_map grid_pieces m.grids ++ flat_map func_pieces m.funcs ++ flat_map call_pieces m.calls

unfoldable pub tokens_of : Module → List Piece
tokens_of m =
    word "module" ∷ module_name m.name ++ opening ∷ items_pieces m ++ closing ∷ line_end ∷ []

-- the text of a module
abbrev pub text_of : Module → List ℕ
text_of m = layout (tokens_of m)
