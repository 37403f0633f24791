-- A part read as what its neighbours make it: the numbers that it stands for, the type and so on.
-- A part of another kind, which no file has there, is read as nothing.
use Rattle.std.specs.Prelude.{ℕ, ℤ, pos, List, [], Option, Some, None, Bool, false}
use Rattle.sh_base.specs.declared.numbers.Width.{Width}
use Rattle.sh_base.specs.declared.numbers.Width.TheVariants.{I1}
use Rattle.sh_base.specs.declared.operations.BinOp.{BinOp}
use Rattle.sh_base.specs.declared.operations.BinOp.TheVariants.{Addi}
use Rattle.sh_base.specs.declared.operations.CastOp.{CastOp}
use Rattle.sh_base.specs.declared.operations.CastOp.TheVariants.{Extsi}
use Rattle.sh_base.specs.declared.operations.Kind.{Kind}
use Rattle.sh_base.specs.declared.operations.Kind.TheVariants.{Sum}
use Rattle.sh_base.specs.declared.operations.Predicate.{Predicate}
use Rattle.sh_base.specs.declared.operations.Predicate.TheVariants.{Eq}
use Rattle.sh_base.specs.declared.places.Place.{Place}
use Rattle.sh_ir.specs.declared.types.Dim.{Dim}
use Rattle.sh_ir.specs.declared.types.Dim.TheVariants.{Differs}
use Rattle.sh_ir.specs.declared.types.ValueType.{ValueType}
use Rattle.sh_ir.specs.declared.types.ValueType.TheVariants.{Nothing}
use Rattle.sh_ir.specs.declared.arith_ops.Constant.{Constant}
use Rattle.sh_ir.specs.declared.bodies.BodyOp.{BodyOp}
use Rattle.sh_ir.specs.declared.functions.Arg.{Arg}
use Rattle.sh_ir.specs.declared.functions.Cut.{Cut}
use Rattle.sh_ir.specs.declared.linalg_ops.AffineMap.{AffineMap}
use Rattle.sh_ir.specs.declared.linalg_ops.IteratorType.{IteratorType}
use Rattle.sh_ir.specs.declared.operations.Op.{Op}
use Rattle.sh_ir.specs.declared.shard_ops.GridAxes.{GridAxes}
use Rattle.sh_literals.specs.declared.literals.Literal.{Literal}
use Rattle.sh_literals.specs.declared.literals.Literal.TheVariants.{Empty}
use Rattle.sh_build.specs.declared.parts.Alias.{Alias}
use Rattle.sh_build.specs.declared.parts.BodyTail.{BodyTail}
use Rattle.sh_build.specs.declared.parts.Combiner.{Combiner}
use Rattle.sh_build.specs.declared.parts.Contents.{Contents}
use Rattle.sh_build.specs.declared.parts.Mark.{Mark}
use Rattle.sh_build.specs.declared.parts.Operands.{Operands}
use Rattle.sh_build.specs.declared.parts.Part.{Part}
use Rattle.sh_build.specs.declared.parts.Part.TheVariants as part
use Rattle.sh_build.specs.declared.parts.StructuredName.{StructuredName}
use Rattle.sh_build.specs.declared.parts.StructuredName.TheVariants.{Fill}

-- ---- tokens

abbrev pub no_mark : Mark
no_mark = record { id = 0; place = record { line = 0; column = 0 } }

abbrev pub mark_in : Part → Mark
mark_in (part.Mark mark) = mark
mark_in _ = no_mark

-- the number of a name
abbrev pub id_in : Part → ℕ
id_in part = (mark_in part).id

abbrev pub place_in : Part → Place
place_in part = (mark_in part).place

abbrev pub symbol_in : Part → List ℕ
symbol_in (part.Symbol name) = name
symbol_in _ = []

abbrev pub alias_in : Part → Alias
alias_in (part.Alias alias) = alias
alias_in _ = record { name = []; map = record { loops = []; results = [] } }

abbrev pub number_in : Part → ℕ
number_in (part.Number n) = n
number_in _ = 0

abbrev pub dim_in : Part → Dim
dim_in (part.Dim dim) = dim
dim_in _ = Differs

abbrev pub quoted_in : Part → List ℕ
quoted_in (part.Quoted text) = text
quoted_in _ = []

-- ---- what several forms stand for

abbrev pub flag_in : Part → Bool
flag_in (part.Flag flag) = flag
flag_in _ = false

abbrev pub signed_in : Part → ℤ
signed_in (part.Signed z) = z
signed_in _ = pos 0

abbrev pub numbers_in : Part → List ℤ
numbers_in (part.Numbers numbers) = numbers
numbers_in _ = []

abbrev pub lists_in : Part → List (List ℤ)
lists_in (part.Lists lists) = lists
lists_in _ = []

abbrev pub ids_in : Part → List ℕ
ids_in (part.Ids ids) = ids
ids_in _ = []

abbrev pub width_in : Part → Width
width_in (part.Width width) = width
width_in _ = I1

abbrev pub type_in : Part → ValueType
type_in (part.Type t) = t
type_in _ = Nothing

abbrev pub types_in : Part → List ValueType
types_in (part.Types types) = types
types_in _ = []

abbrev pub dims_in : Part → List Dim
dims_in (part.Dims dims) = dims
dims_in _ = []

abbrev pub operands_in : Part → Operands
operands_in (part.Operands operands) = operands
operands_in _ = record { values = []; types = [] }

abbrev pub map_in : Part → Option AffineMap
map_in (part.Map map) = Some map
map_in _ = None

abbrev pub maps_in : Part → List AffineMap
maps_in (part.Maps maps) = maps
maps_in _ = []

abbrev pub iterators_in : Part → List IteratorType
iterators_in (part.Iterators iterators) = iterators
iterators_in _ = []

abbrev pub groups_in : Part → GridAxes
groups_in (part.On groups) = groups
groups_in _ = record { grid = []; grid_axes = [] }

abbrev pub literal_in : Part → Literal
literal_in (part.Literal literal) = literal
literal_in _ = Empty

abbrev pub constant_in : Part → Option Constant
constant_in (part.Constant constant) = Some constant
constant_in _ = None

abbrev pub constants_in : Part → List Constant
constants_in (part.Constants constants) = constants
constants_in _ = []

abbrev pub arg_in : Part → Option Arg
arg_in (part.Arg arg) = Some arg
arg_in _ = None

abbrev pub args_in : Part → List Arg
args_in (part.Args args) = args
args_in _ = []

abbrev pub cut_in : Part → Option Cut
cut_in (part.Cut cut) = Some cut
cut_in _ = None

abbrev pub cuts_in : Part → List Cut
cuts_in (part.Cuts cuts) = cuts
cuts_in _ = []

-- ---- names of operations

abbrev pub bin_op_in : Part → BinOp
bin_op_in (part.BinOp op) = op
bin_op_in _ = Addi

abbrev pub predicate_in : Part → Predicate
predicate_in (part.Predicate predicate) = predicate
predicate_in _ = Eq

abbrev pub cast_op_in : Part → CastOp
cast_op_in (part.CastOp op) = op
cast_op_in _ = Extsi

abbrev pub structured_in : Part → StructuredName
structured_in (part.Structured name) = name
structured_in _ = Fill

abbrev pub kind_in : Part → Kind
kind_in (part.Kind kind) = kind
kind_in _ = Sum

abbrev pub combiner_in : Part → Combiner
combiner_in (part.Combiner combiner) = combiner
combiner_in _ = record { op = Addi; mark = no_mark }

-- ---- operations

abbrev pub body_op_in : Part → Option BodyOp
body_op_in (part.BodyOp op) = Some op
body_op_in _ = None

abbrev pub tail_in : Part → BodyTail
tail_in (part.BodyTail tail) = tail
tail_in _ = record { ops = []; yields = 0; width = I1; place = no_mark.place }

abbrev pub op_in : Part → Option Op
op_in (part.Op op) = Some op
op_in _ = None

abbrev pub ops_in : Part → List Op
ops_in (part.Ops ops) = ops
ops_in _ = []

-- ---- items

abbrev pub aliases_in : Part → List Alias
aliases_in (part.Aliases aliases) = aliases
aliases_in _ = []

abbrev pub module_name_in : Part → Option (List ℕ)
module_name_in (part.ModuleName name) = name
module_name_in _ = None

abbrev pub contents_in : Part → Contents
contents_in (part.Contents contents) = contents
contents_in _ = record { grids = []; funcs = []; calls = [] }
