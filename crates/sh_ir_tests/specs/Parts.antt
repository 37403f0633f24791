-- Each part of being formed counts: for each there is a module that breaks it alone.
use Rattle.std.specs.Prelude.{◌≡◌, ℕ, ℤ, ◌^◌, pos, List, [], ◌∷◌, Option, Some, None, false, codes}
use Rattle.sh_base.specs.declared.numbers.Width.{Width}
use Rattle.sh_base.specs.declared.numbers.Width.TheVariants.{I1, I8, I32}
use Rattle.sh_base.specs.declared.operations.BinOp.TheVariants.{Addi}
use Rattle.sh_base.specs.declared.operations.Predicate.TheVariants.{Slt}
use Rattle.sh_base.specs.declared.places.Place.{Place}
use Rattle.sh_ir.specs.declared.types.Dim.TheVariants.{Known}
use Rattle.sh_ir.specs.declared.types.RawSharding.{RawSharding}
use Rattle.sh_ir.specs.declared.types.ValueType.{ValueType}
use Rattle.sh_ir.specs.declared.types.ValueType.TheVariants as value_type
use Rattle.sh_ir.specs.declared.arith_ops.Constant.{Constant}
use Rattle.sh_ir.specs.declared.arith_ops.Contents.TheVariants.{Held}
use Rattle.sh_ir.specs.declared.bodies.Body.{Body}
use Rattle.sh_ir.specs.declared.bodies.BodyOp.{BodyOp}
use Rattle.sh_ir.specs.declared.bodies.BodyKind.{BodyKind}
use Rattle.sh_ir.specs.declared.bodies.BodyKind.TheVariants as body_kind
use Rattle.sh_ir.specs.declared.linalg_ops.AffineMap.{AffineMap}
use Rattle.sh_ir.specs.declared.linalg_ops.InsOuts.{InsOuts}
use Rattle.sh_ir.specs.declared.linalg_ops.IteratorType.TheVariants.{Parallel}
use Rattle.sh_ir.specs.declared.operations.OpKind.{OpKind}
use Rattle.sh_ir.specs.declared.operations.OpKind.TheVariants as op_kind
use Rattle.sh_ir.specs.declared.operations.Op.{Op}
use Rattle.sh_ir.specs.declared.functions.Cut.{Cut}
use Rattle.sh_ir.specs.declared.functions.Func.{Func}
use Rattle.sh_ir.specs.declared.modules.Module.{Module}
use Rattle.sh_ir.specs.Parts.{op_of}
use Rattle.sh_ir.specs.Formed.{NamesSpelled, NumbersSpelled, TypesSpelled, GridsShaped, CutsOnGrids, OperandsCounted, BodyOperandsCounted, CapturesListed, ValuesDefined, ResultsFit, BodyResultsFit, ReturnsLast, LiteralsHeld, CallsDense, MapsNumbered, BlocksTyped, IndicesInGenerics, BodyNamesOwn}
use Rattle.sh_ir_tests.specs.Network.{place_of, filled}

pub data Part : Type 0 where
  names : Part
  numbers : Part
  types : Part
  grids : Part
  cuts : Part
  operands : Part
  body_operands : Part
  captures : Part
  defines : Part
  results : Part
  body_results : Part
  returns : Part
  literals : Part
  calls : Part
  maps : Part
  blocks : Part
  indices : Part
  body_names : Part

abbrev pub Holds : Part → Module → Type 0
Holds names m = NamesSpelled m
Holds numbers m = NumbersSpelled m
Holds types m = TypesSpelled m
Holds grids m = GridsShaped m
Holds cuts m = CutsOnGrids m
Holds operands m = OperandsCounted m
Holds body_operands m = BodyOperandsCounted m
Holds captures m = CapturesListed m
Holds defines m = ValuesDefined m
Holds results m = ResultsFit m
Holds body_results m = BodyResultsFit m
Holds returns m = ReturnsLast m
Holds literals m = LiteralsHeld m
Holds calls m = CallsDense m
Holds maps m = MapsNumbered m
Holds blocks m = BlocksTyped m
Holds indices m = IndicesInGenerics m
Holds body_names m = BodyNamesOwn m

-- A function with one operation of each form that the parts speak of.

abbrev pub vector : Width → ValueType
vector w = value_type.Tensor (record { dims = Known 2 ∷ []; width = w })

abbrev pub scalar : ValueType
scalar = value_type.Scalar I32

-- where nothing is asked of places
abbrev pub here : Place
here = place_of 1 1

abbrev pub op : OpKind → List ℕ → ℕ → ValueType → Op
op kind used name result_type = op_of kind used (Some name) result_type here

abbrev pub body_op : BodyKind → List ℕ → ℕ → ValueType → BodyOp
body_op kind used name result_type = record {
  kind = kind;
  operands = used;
  defines = name;
  result = result_type;
  place = here;
}

abbrev pub five : Constant → Op
five literal = op (op_kind.Constant literal) [] 1 literal.value_type

abbrev pub compare : List ℕ → ValueType → Op
compare used result_type =
    op (op_kind.Compare (record { predicate = Slt; operand_type = vector I32 })) used 2 result_type

abbrev pub map_of : ℕ → AffineMap
map_of loop = record { loops = loop ∷ []; results = loop ∷ [] }

abbrev pub one_in_region : ℕ → ValueType → BodyOp
one_in_region name result_type =
    body_op (body_kind.Constant (filled scalar 1)) [] name result_type

-- a use of the input and of the function's constant, which has the name 1
abbrev pub sum_in_region : List ℕ → BodyOp
sum_in_region used = body_op (body_kind.Binary Addi) used 6 scalar

abbrev pub index_in_region : BodyOp
index_in_region = body_op (body_kind.Index (record { dimension = 0 })) [] 8 value_type.Index

abbrev pub cast_in_region : ValueType → BodyOp
cast_in_region result_type = body_op body_kind.IndexCast (8 ∷ []) 9 result_type

abbrev pub region_of : List Width → List BodyOp → Body
region_of widths ops = record {
  args = 4 ∷ 5 ∷ [];
  widths = widths;
  ops = ops;
  yields = 6;
  width = I32;
  place = here;
}

-- with an index and its cast between the two
abbrev pub region : List Width → BodyOp → BodyOp → Body
region widths first second =
    region_of widths (first ∷ index_in_region ∷ cast_in_region scalar ∷ second ∷ [])

abbrev pub both : List Width
both = I32 ∷ I32 ∷ []

abbrev pub a_one : BodyOp
a_one = one_in_region 7 scalar

abbrev pub a_sum : BodyOp
a_sum = sum_in_region (4 ∷ 1 ∷ [])

abbrev pub a_region : Body
a_region = region both a_one a_sum

abbrev pub ins_outs : InsOuts
ins_outs = record {
  ins_count = 1;
  ins_types = vector I32 ∷ [];
  outs_count = 1;
  outs_types = vector I32 ∷ [];
}

abbrev pub generic : List ℕ → AffineMap → Body → Op
generic used map body =
    op
    (op_kind.Generic (record {
      ins_outs = ins_outs;
      indexing_maps = map ∷ map ∷ [];
      iterator_types = Parallel ∷ [];
      body = body;
    }))
    used 3 (vector I32)

abbrev pub reduce : Body → Op
reduce body =
    op (op_kind.Reduce (record { ins_outs = ins_outs; dimensions = []; body = body }))
    (0 ∷ 0 ∷ 1 ∷ []) 3 (vector I32)

abbrev pub call : List ℕ → Op
call callee =
    op (op_kind.Call (record { callee = callee; operand_types = [] })) (0 ∷ []) 10 (vector I32)

abbrev pub return : Option ℕ → Op
return defined =
    op_of (op_kind.Return (record { operand_types = vector I32 ∷ [] })) (3 ∷ []) defined
    value_type.Nothing here

abbrev pub a_five : Op
a_five = five (filled scalar 5)

abbrev pub a_compare : Op
a_compare = compare (0 ∷ 0 ∷ []) (vector I1)

abbrev pub a_generic : Op
a_generic = generic (0 ∷ 0 ∷ 1 ∷ []) (map_of 0) a_region

abbrev pub a_call : Op
a_call = call (codes "h")

abbrev pub some_ops : List Op
some_ops = a_five ∷ a_compare ∷ a_call ∷ a_generic ∷ return None ∷ []

abbrev pub replicated : RawSharding
replicated = record { grid = codes "g"; split = [] ∷ []; halos = []; offsets = [] }

abbrev pub a_cut : Cut
a_cut = record { whole = vector I32; sharding = replicated }

abbrev pub func : List ℕ → List ℕ → ValueType → List Op → Func
func name grid result_type ops = record {
  name = name;
  private = false;
  args = record { id = 0; value_type = vector I32 } ∷ [];
  results = result_type ∷ [];
  ops = ops;
  carry = Some (record { grid = grid; args = a_cut ∷ []; results = a_cut ∷ [] });
  place = here;
}

abbrev pub module_of : List ℤ → Func → Constant → Module
module_of extents f argument = record {
  name = None;
  grids = record { name = codes "g"; extents = extents; place = here } ∷ [];
  funcs = f ∷ [];
  calls = record { callee = codes "f"; args = argument ∷ []; place = here } ∷ [];
}

abbrev pub argument : Constant
argument = filled (vector I32) 1

abbrev pub with_func : Func → Module
with_func f = module_of (pos 2 ∷ []) f argument

abbrev pub with_ops : List Op → Module
with_ops ops = with_func (func (codes "f") (codes "g") (vector I32) ops)

-- a function of this result type
abbrev pub with_result : ValueType → Module
with_result t = with_func (func (codes "f") (codes "g") t some_ops)

abbrev pub a_func : Func
a_func = func (codes "f") (codes "g") (vector I32) some_ops

abbrev pub with_five : Op → Module
with_five other = with_ops (other ∷ a_compare ∷ a_call ∷ a_generic ∷ return None ∷ [])

abbrev pub with_compare : Op → Module
with_compare other = with_ops (a_five ∷ other ∷ a_call ∷ a_generic ∷ return None ∷ [])

abbrev pub with_generic : Op → Module
with_generic other = with_ops (a_five ∷ a_compare ∷ a_call ∷ other ∷ return None ∷ [])

abbrev pub with_region : Body → Module
with_region body = with_generic (generic (0 ∷ 0 ∷ 1 ∷ []) (map_of 0) body)

-- a module that breaks this part
abbrev pub broken : Part → Module
broken names = with_func (func [] (codes "g") (vector I32) some_ops)
broken numbers = module_of (pos (2 ^ 64) ∷ []) a_func argument
broken types = with_result value_type.Sharding
broken grids = module_of [] a_func argument
broken cuts = with_func (func (codes "f") (codes "h") (vector I32) some_ops)
broken operands = with_compare (compare (0 ∷ []) (vector I1))
broken body_operands = with_region (region both a_one (sum_in_region (4 ∷ 1 ∷ 1 ∷ [])))
broken captures = with_generic (generic (0 ∷ 0 ∷ 0 ∷ []) (map_of 0) a_region)
broken defines = with_ops (a_five ∷ a_compare ∷ a_call ∷ a_generic ∷ return (Some 11) ∷ [])
broken results = with_compare (compare (0 ∷ 0 ∷ []) (vector I32))
broken body_results = with_region (region both (one_in_region 7 (value_type.Scalar I8)) a_sum)
broken returns = with_ops (a_five ∷ a_compare ∷ a_call ∷ a_generic ∷ [])
broken literals = with_five (five (record { value_type = scalar; contents = Held [] }))
broken calls = module_of (pos 2 ∷ []) a_func (filled scalar 1)
broken maps = with_generic (generic (0 ∷ 0 ∷ 1 ∷ []) (map_of 1) a_region)
broken blocks = with_region (region (I32 ∷ []) a_one a_sum)
broken indices = with_generic (reduce a_region)
broken body_names = with_region (region both (one_in_region 3 scalar) a_sum)

-- a call whose callee has no name
abbrev pub nameless_callee : Module
nameless_callee = with_ops (a_five ∷ a_compare ∷ call [] ∷ a_generic ∷ return None ∷ [])

-- an index that is cast to a tensor
abbrev pub tensor_cast : Module
tensor_cast =
    with_region (region_of both (a_one ∷ index_in_region ∷ cast_in_region (vector I32) ∷ a_sum ∷ []))

-- a value of a function that has the type of an index
abbrev pub index_result : Module
index_result = with_result value_type.Index

-- it breaks this part and keeps each other
pub record BreaksOnly (p : Part) (m : Module) : Type 0 where
  pub breaks : ¬ (Holds p m)
  pub keeps : (q : Part) → ¬ (q ≡ p) → Holds q m
