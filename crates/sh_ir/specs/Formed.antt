-- A formed module: one that a text of the language can spell. A reader answers formed modules.
use Rattle.std.specs.Prelude.{◌≡◌, ℕ, ◌+◌, ◌^◌, max, ℤ, pos, negsuc, List, [], ◌∷◌, ◌++◌, Bool, true, false, not, ◌&&◌, ◌||◌, nat_eq, nat_lt, nat_le, length, drop, map, is_some, IsTrue, ⊤, MatchOption, unwrap_or, flat_map, filter_map, option_to_list}
use Rattle.std.specs.List.{list_all, AllByRecursion}
use Rattle.std.specs.Option.{option_map_or}
use Rattle.sh_ir.specs.declared.types.Dim.{Dim}
use Rattle.sh_ir.specs.declared.types.Dim.TheVariants.{Known, Differs}
use Rattle.sh_ir.specs.declared.types.ValueType.{ValueType}
use Rattle.sh_ir.specs.declared.types.ValueType.TheVariants as value_type
use Rattle.sh_ir.specs.declared.arith_ops.Constant as declared_constant
use Rattle.sh_ir.specs.declared.bodies.Body.{Body}
use Rattle.sh_ir.specs.declared.bodies.BodyOp.{BodyOp}
use Rattle.sh_ir.specs.declared.bodies.BodyKind.{BodyKind}
use Rattle.sh_ir.specs.declared.bodies.BodyKind.TheVariants as body_kind
use Rattle.sh_ir.specs.declared.linalg_ops.AffineMap.{AffineMap}
use Rattle.sh_ir.specs.declared.operations.Op.{Op}
use Rattle.sh_ir.specs.declared.functions.Cut.{Cut}
use Rattle.sh_ir.specs.declared.functions.Func.{Func}
use Rattle.sh_ir.specs.declared.modules.GridItem.{GridItem}
use Rattle.sh_ir.specs.declared.modules.Module.{Module}
use Rattle.sh_ir.specs.Classes.{is_return}
use Rattle.sh_ir.specs.Written.{ResultText, Written, sharding_numbers, written_by, written_in_body}
use Rattle.sh_ir.specs.Written.ResultText.{a_type, a_width, unwritten}
use Rattle.sh_ir.specs.Literals.{is_held, is_dense}
use Rattle.sh_ir.specs.Regions.{captured_by, own_names, are_apart}
use Rattle.sh_ir.specs.Shapes.{argument_types}

-- The parts of a module, in text order.

abbrev pub ops_of : Module → List Op
ops_of m = flat_map (λ f. f.ops) m.funcs

-- what their texts write
abbrev pub op_texts : List Op → List Written
op_texts ops = map (λ op. written_by op.kind) ops

abbrev pub bodies_in : List Op → List Body
bodies_in ops = filter_map (λ x. x.body) (op_texts ops)

abbrev pub body_ops_of : Module → List BodyOp
body_ops_of m = flat_map (λ body. body.ops) (bodies_in (ops_of m))

-- the texts of all operations, those of regions behind the others
abbrev pub all_written : Module → List Written
all_written m = op_texts (ops_of m) ++ map (λ op. written_in_body op.kind) (body_ops_of m)

abbrev pub call_constants : Module → List declared_constant.Constant
call_constants m = flat_map (λ c. c.args) m.calls

abbrev pub cuts_in : Func → List Cut
cuts_in f = option_map_or (λ carry. carry.args ++ carry.results) f.carry []

-- Names

-- a letter, a digit, `_`, `.` or `$`
abbrev pub is_name_byte : ℕ → Bool
is_name_byte b =
    (nat_le 97 b && nat_le b 122) || (nat_le 65 b && nat_le b 90) || (nat_le 48 b && nat_le b 57)
    || nat_eq b 95 || nat_eq b 46 || nat_eq b 36

abbrev pub is_name : List ℕ → Bool
is_name bytes = nat_lt 0 (length bytes) && list_all is_name_byte bytes

-- the names at the head of a function; those of its cuts' grids aside
abbrev pub func_symbols : Func → List (List ℕ)
func_symbols f = f.name ∷ option_map_or (λ carry. carry.grid ∷ []) f.carry []

abbrev pub item_symbols : Module → List (List ℕ)
item_symbols m =
    option_to_list m.name ++ map (λ g. g.name) m.grids ++ flat_map func_symbols m.funcs
    ++ map (λ c. c.callee) m.calls

abbrev pub symbols_of : Module → List (List ℕ)
symbols_of m = item_symbols m ++ flat_map (λ x. x.grids ++ x.callees) (all_written m)

-- Numbers

-- a number below 2 to the 64th, after a sign or not
abbrev pub is_spelled : ℤ → Bool
is_spelled (pos n) = nat_lt n (2 ^ 64)
is_spelled (negsuc n) = nat_lt (n + 1) (2 ^ 64)

abbrev pub is_not_negative : ℤ → Bool
is_not_negative (pos n) = true
is_not_negative (negsuc n) = false

abbrev pub item_numbers : Module → List ℤ
item_numbers m =
    flat_map (λ g. g.extents) m.grids
    ++ flat_map (λ cut. sharding_numbers cut.sharding) (flat_map cuts_in m.funcs)

abbrev pub numbers_of : Module → List ℤ
numbers_of m = item_numbers m ++ flat_map (λ x. x.numbers) (all_written m)

abbrev pub is_grid : GridItem → Bool
is_grid g = nat_lt 0 (length g.extents) && list_all is_not_negative g.extents

-- Types

abbrev pub is_spelled_dim : Dim → Bool
is_spelled_dim (Known n) = nat_lt n (2 ^ 64)
is_spelled_dim Differs = true

-- an integer type or a tensor type
abbrev pub is_spelled_type : ValueType → Bool
is_spelled_type (value_type.Scalar w) = true
is_spelled_type (value_type.Tensor t) = list_all is_spelled_dim t.dims
is_spelled_type value_type.Nothing = false
is_spelled_type value_type.Sharding = false
is_spelled_type value_type.Index = false

-- the type of a value, where its form writes it
abbrev pub result_in_text : ResultText → ValueType → List ValueType
result_in_text a_type t = t ∷ []
result_in_text a_width t = t ∷ []
result_in_text (unwritten its) t = []

abbrev pub types_in : Written → ValueType → List ValueType
types_in x result_type = x.types ++ result_in_text x.result result_type

abbrev pub op_types : Module → List ValueType
op_types m =
    flat_map (λ op. types_in (written_by op.kind) op.result) (ops_of m)
    ++ flat_map (λ op. types_in (written_in_body op.kind) op.result) (body_ops_of m)

abbrev pub func_types : Func → List ValueType
func_types f = argument_types f ++ f.results ++ map (λ cut. cut.whole) (cuts_in f)

abbrev pub types_of : Module → List ValueType
types_of m = flat_map func_types m.funcs ++ op_types m ++ map (λ c. c.value_type) (call_constants m)

-- Device items

-- each cut's sharding is on the grid that the function is carried on
abbrev pub CutsOnGrid : Func → Type 0
CutsOnGrid f =
    MatchOption f.carry ⊤ (λ carry.
    AllByRecursion (λ cut. cut.sharding.grid ≡ carry.grid) (carry.args ++ carry.results))

-- Operations

-- the names of the function that the region uses
abbrev pub captured_in : Written → List ℕ
captured_in x = option_map_or captured_by x.body []

-- as many operands as the form can have, and those that its region takes of the function
abbrev pub OperandsFit : Written → List ℕ → Type 0
OperandsFit x operands =
    MatchOption x.operands ⊤ (λ count. length operands ≡ count + length (captured_in x))

-- behind the written operands come the names of the function that the region uses
abbrev pub Captures : Written → List ℕ → Type 0
Captures x operands =
    MatchOption x.body ⊤ (λ body. drop (unwrap_or x.operands 0) operands ≡ captured_by body)

abbrev pub Defines : Op → Type 0
Defines op = is_some op.defines ≡ not (is_return op.kind)

abbrev pub is_scalar : ValueType → Bool
is_scalar (value_type.Scalar w) = true
is_scalar (value_type.Tensor t) = false
is_scalar value_type.Nothing = false
is_scalar value_type.Sharding = false
is_scalar value_type.Index = false

-- a width is that of a scalar; a type that isn't written is the one that goes with the form
abbrev pub ResultFits : ResultText → ValueType → Type 0
ResultFits a_type t = ⊤
ResultFits a_width t = IsTrue (is_scalar t)
ResultFits (unwritten its) t = t ≡ its

-- the return ends the list, and stands nowhere else in it
abbrev pub ends_in_return : List Op → Bool
ends_in_return [] = false
ends_in_return (op ∷ []) = is_return op.kind
ends_in_return (op ∷ next ∷ ops) = not (is_return op.kind) && ends_in_return (next ∷ ops)

-- Literals

abbrev pub constants_of : Module → List declared_constant.Constant
constants_of m = flat_map (λ x. x.constants) (all_written m) ++ call_constants m

-- Regions

-- whether each number is one that came before, all below this one, or the next new one
abbrev pub are_numbered : ℕ → List ℕ → Bool
are_numbered next [] = true
are_numbered next (n ∷ ns) = nat_le n next && are_numbered (max next (n + 1)) ns

abbrev pub is_numbered : AffineMap → Bool
is_numbered map = are_numbered 0 (map.loops ++ map.results)

-- an operation on the index of a loop
abbrev pub is_on_index : BodyKind → Bool
is_on_index (body_kind.Constant x) = false
is_on_index (body_kind.Binary x) = false
is_on_index (body_kind.Compare x) = false
is_on_index (body_kind.Select x) = false
is_on_index (body_kind.Cast x) = false
is_on_index (body_kind.Index x) = true
is_on_index body_kind.IndexCast = true

abbrev pub has_no_index : Body → Bool
has_no_index body = list_all (λ op. not (is_on_index op.kind)) body.ops

-- the region asks for a loop's index only where it may
abbrev pub asks_where_allowed : Written → Bool
asks_where_allowed x = x.has_indices || option_map_or has_no_index x.body true

abbrev pub is_block : Body → Bool
is_block body = nat_eq (length body.args) (length body.widths)

-- the names of a function's values; those of its bodies aside
abbrev pub func_names : Func → List ℕ
func_names f =
    map (λ arg. arg.id) f.args ++ flat_map (λ op. op.operands ++ option_to_list op.defines) f.ops

abbrev pub has_own_body_names : Func → Bool
has_own_body_names f = are_apart (func_names f ∷ map own_names (bodies_in f.ops))

-- The parts of being formed.

-- names are of letters, digits, `_`, `.` and `$`
abbrev pub NamesSpelled : Module → Type 0
NamesSpelled m = IsTrue (list_all is_name (symbols_of m))

-- written numbers are below 2 to the 64th
abbrev pub NumbersSpelled : Module → Type 0
NumbersSpelled m = IsTrue (list_all is_spelled (numbers_of m))

-- written types are integer types and tensor types
abbrev pub TypesSpelled : Module → Type 0
TypesSpelled m = IsTrue (list_all is_spelled_type (types_of m))

-- a grid has an extent, and none is negative
abbrev pub GridsShaped : Module → Type 0
GridsShaped m = IsTrue (list_all is_grid m.grids)

-- the cuts of a carried function are on its grid
abbrev pub CutsOnGrids : Module → Type 0
CutsOnGrids m = AllByRecursion CutsOnGrid m.funcs

-- an operation has as many operands as its form can have
abbrev pub OperandsCounted : Module → Type 0
OperandsCounted m = AllByRecursion (λ op. OperandsFit (written_by op.kind) op.operands) (ops_of m)

abbrev pub BodyOperandsCounted : Module → Type 0
BodyOperandsCounted m =
    AllByRecursion (λ op. OperandsFit (written_in_body op.kind) op.operands) (body_ops_of m)

-- behind them come the names of the function that its region uses
abbrev pub CapturesListed : Module → Type 0
CapturesListed m = AllByRecursion (λ op. Captures (written_by op.kind) op.operands) (ops_of m)

-- an operation defines a value unless it is the return
abbrev pub ValuesDefined : Module → Type 0
ValuesDefined m = AllByRecursion Defines (ops_of m)

-- the type of a value is one that its form can give
abbrev pub ResultsFit : Module → Type 0
ResultsFit m = AllByRecursion (λ op. ResultFits (written_by op.kind).result op.result) (ops_of m)

abbrev pub BodyResultsFit : Module → Type 0
BodyResultsFit m =
    AllByRecursion (λ op. ResultFits (written_in_body op.kind).result op.result) (body_ops_of m)

-- the return is the last operation of its function, and stands nowhere else
abbrev pub ReturnsLast : Module → Type 0
ReturnsLast m = IsTrue (list_all (λ f. ends_in_return f.ops) m.funcs)

-- literals are held in their short form
abbrev pub LiteralsHeld : Module → Type 0
LiteralsHeld m = IsTrue (list_all is_held (constants_of m))

-- those of call items are dense
abbrev pub CallsDense : Module → Type 0
CallsDense m = IsTrue (list_all is_dense (call_constants m))

-- the words of an affine map are numbered by first occurrence
abbrev pub MapsNumbered : Module → Type 0
MapsNumbered m = IsTrue (list_all is_numbered (flat_map (λ x. x.maps) (all_written m)))

-- a block argument has one type
abbrev pub BlocksTyped : Module → Type 0
BlocksTyped m = IsTrue (list_all is_block (bodies_in (ops_of m)))

-- the region of a generic alone asks for the index of a loop
abbrev pub IndicesInGenerics : Module → Type 0
IndicesInGenerics m = IsTrue (list_all asks_where_allowed (all_written m))

-- the names of a region are neither its function's nor another region's
abbrev pub BodyNamesOwn : Module → Type 0
BodyNamesOwn m = IsTrue (list_all has_own_body_names m.funcs)

-- A module that a text of the language can spell.
pub record IsFormed (m : Module) : Type 0 where
  pub names : NamesSpelled m
  pub numbers : NumbersSpelled m
  pub types : TypesSpelled m
  pub grids : GridsShaped m
  pub cuts : CutsOnGrids m
  pub operands : OperandsCounted m
  pub body_operands : BodyOperandsCounted m
  pub captures : CapturesListed m
  pub defines : ValuesDefined m
  pub results : ResultsFit m
  pub body_results : BodyResultsFit m
  pub returns : ReturnsLast m
  pub literals : LiteralsHeld m
  pub calls : CallsDense m
  pub maps : MapsNumbered m
  pub blocks : BlocksTyped m
  pub indices : IndicesInGenerics m
  pub body_names : BodyNamesOwn m
