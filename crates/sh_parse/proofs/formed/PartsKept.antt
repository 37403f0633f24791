-- What is known of the part that a form makes: what a formed module asks of it.
use Rattle.std.proofs.Common.{◌≡◌, ◌^◌, ℕ, ◌*◌, List, [], ◌∷◌, ◌++◌, map, length, None}
use Rattle.std.specs.Prelude.{not, nat_lt, option_to_list, IsTrue, ℤ}
use Rattle.std.specs.List.{AllByRecursion}
use Rattle.sh_ir.specs.Classes.{is_return}
use Rattle.sh_ir.specs.Formed.{Captures, CutsOnGrid, Defines, OperandsFit, ResultFits, asks_where_allowed, cuts_in as carried_cuts, ends_in_return, func_symbols, func_types, is_block, is_name, is_not_negative, is_numbered, is_on_index, is_spelled, is_spelled_dim, is_spelled_type, types_in as types_of_op}
use Rattle.sh_ir.specs.Literals.{is_dense, is_held}
use Rattle.sh_ir.specs.Written.{Written, all_numbers, sharding_numbers, written_by, written_in_body}
use Rattle.sh_ir.specs.declared.arith_ops.Constant.{Constant}
use Rattle.sh_ir.specs.declared.bodies.Body.{Body}
use Rattle.sh_ir.specs.declared.bodies.BodyKind.{BodyKind}
use Rattle.sh_ir.specs.declared.bodies.BodyOp.{BodyOp}
use Rattle.sh_ir.specs.declared.functions.Cut.{Cut}
use Rattle.sh_ir.specs.declared.functions.Func.{Func}
use Rattle.sh_ir.specs.declared.linalg_ops.AffineMap.{AffineMap}
use Rattle.sh_ir.specs.declared.modules.CallItem.{CallItem}
use Rattle.sh_ir.specs.declared.modules.GridItem.{GridItem}
use Rattle.sh_ir.specs.declared.modules.Module.{Module}
use Rattle.sh_ir.specs.declared.operations.Op.{Op}
use Rattle.sh_ir.specs.declared.operations.OpKind.{OpKind}
use Rattle.sh_ir.specs.declared.types.Dim.{Dim}
use Rattle.sh_ir.specs.declared.types.ValueType.{ValueType}
use Rattle.sh_literals.specs.Fronts.{before}
use Rattle.sh_literals.specs.declared.literals.Literal.{Literal}
use Rattle.sh_literals.specs.declared.literals.Literal.TheVariants as literal
use Rattle.sh_build.specs.Readings.{alias_in, aliases_in, arg_in, args_in, body_op_in, constant_in, constants_in, contents_in, cut_in, cuts_in, dim_in, dims_in, groups_in, lists_in, literal_in, map_in, maps_in, module_name_in, number_in, numbers_in, op_in, operands_in, ops_in, signed_in, symbol_in, tail_in, type_in, types_in}
use Rattle.sh_build.specs.declared.parts.Contents.{Contents}
use Rattle.sh_build.specs.declared.parts.Device.{Device}
use Rattle.sh_build.specs.declared.parts.Part.{Part}
use Rattle.sh_build.specs.declared.parts.Part.TheVariants as part
use Rattle.sh_grammar.specs.declared.forms.Form.{Form}
use Rattle.sh_grammar.specs.declared.forms.Form.TheVariants as form
use Rattle.sh_grammar.specs.declared.symbols.Symbol.{Symbol}
use Rattle.sh_grammar.specs.declared.symbols.Symbol.TheVariants as symbol
use Rattle.sh_parse.proofs.formed.EachOf.{InOption}

-- ## Numbers, types and names

abbrev pub Named : List ℕ → Type 0
Named name = IsTrue (is_name name)

abbrev pub AreSpelled : List ℤ → Type 0
AreSpelled numbers = AllByRecursion (λ z. IsTrue (is_spelled z)) numbers

abbrev pub TypeSpelled : ValueType → Type 0
TypeSpelled t = IsTrue (is_spelled_type t)

abbrev pub TypesAreSpelled : List ValueType → Type 0
TypesAreSpelled types = AllByRecursion TypeSpelled types

abbrev pub DimSpelled : Dim → Type 0
DimSpelled dim = IsTrue (is_spelled_dim dim)

abbrev pub MapNumbered : AffineMap → Type 0
MapNumbered map = IsTrue (is_numbered map)

-- ## Literals

abbrev pub product : List ℕ → ℕ
product [] = 1
product (n ∷ ns) = n * product ns

-- lists in lists have as many elements as their extents say
abbrev pub Counted : Literal → Type 0
Counted literal.Empty = Unit {0}
Counted (literal.Nested n) = length n.elements ≡ product n.extents
Counted literal.Ragged = Unit {0}
Counted (literal.Quoted text) = Unit {0}

-- a literal as it is held, with a type that can be written
pub record ConstantKept (c : Constant) : Type 0 where
  pub held : IsTrue (is_held c)
  pub spelled : TypeSpelled c.value_type

-- one that is written `dense<..>`
pub record DenseKept (c : Constant) : Type 0 where
  pub constant : ConstantKept c
  pub dense : IsTrue (is_dense c)

-- ## Operations

-- An operation that writes this, of these operands and this type, apart from its region.
pub record Content (x : Written) (operands : List ℕ) (t : ValueType) : Type 0 where
  pub grids : AllByRecursion Named x.grids
  pub callees : AllByRecursion Named x.callees
  pub numbers : AreSpelled x.numbers
  pub types : TypesAreSpelled (types_of_op x t)
  pub counted : OperandsFit x operands
  pub captures : Captures x operands
  pub result : ResultFits x.result t
  pub constants : AllByRecursion (λ c. IsTrue (is_held c)) x.constants
  pub maps : AllByRecursion MapNumbered x.maps
  pub indices : IsTrue (asks_where_allowed x)

abbrev pub BodyOpKept : BodyOp → Type 0
BodyOpKept op = Content (written_in_body op.kind) op.operands op.result

abbrev pub NoIndex : BodyOp → Type 0
NoIndex op = IsTrue (not (is_on_index op.kind))

pub record BodyKept (body : Body) : Type 0 where
  pub block : IsTrue (is_block body)
  pub ops : AllByRecursion BodyOpKept body.ops

-- what is known of an operation besides its name
pub record SideKept (kind : OpKind) (operands : List ℕ) (t : ValueType) : Type 0 where
  pub content : Content (written_by kind) operands t
  pub body : InOption BodyKept (written_by kind).body

pub record OpKept (op : Op) : Type 0 where
  pub side : SideKept op.kind op.operands op.result
  pub defines : Defines op

-- an operation that isn't the return
pub record OperationKept (op : Op) : Type 0 where
  pub kept : OpKept op
  pub goes_on : IsTrue (not (is_return op.kind))

pub record OpsKept (ops : List Op) : Type 0 where
  pub each : AllByRecursion OpKept ops
  pub ends : IsTrue (ends_in_return ops)

-- ## Items

pub record CutKept (cut : Cut) : Type 0 where
  pub whole : TypeSpelled cut.whole
  pub numbers : AreSpelled (sharding_numbers cut.sharding)

pub record GridKept (g : GridItem) : Type 0 where
  pub name : Named g.name
  pub some : IsTrue (nat_lt 0 (length g.extents))
  pub positive : AllByRecursion (λ z. IsTrue (is_not_negative z)) g.extents
  pub spelled : AreSpelled g.extents

pub record CallKept (c : CallItem) : Type 0 where
  pub callee : Named c.callee
  pub args : AllByRecursion DenseKept c.args

pub record FuncKept (f : Func) : Type 0 where
  pub symbols : AllByRecursion Named (func_symbols f)
  pub types : TypesAreSpelled (func_types f)
  pub cuts : AllByRecursion CutKept (carried_cuts f)
  pub on_grid : CutsOnGrid f
  pub ops : OpsKept f.ops

pub record DeviceKept (d : Device) : Type 0 where
  pub grid : Named d.carry.grid
  pub cuts : AllByRecursion CutKept (d.carry.args ++ d.carry.results)
  pub on_grid : AllByRecursion (λ cut. cut.sharding.grid ≡ d.carry.grid) (d.carry.args ++ d.carry.results)

pub record ContentsKept (x : Contents) : Type 0 where
  pub grids : AllByRecursion GridKept x.grids
  pub funcs : AllByRecursion FuncKept x.funcs
  pub calls : AllByRecursion CallKept x.calls

-- ## Parts

-- an item, or what isn't one
abbrev pub ItemKept : Part → Type 0
ItemKept (part.Grid g) = GridKept g
ItemKept (part.Func f) = FuncKept f
ItemKept (part.Call c) = CallKept c
ItemKept _ = Unit {0}

abbrev pub DeviceIn : Part → Type 0
DeviceIn (part.Device d) = DeviceKept d
DeviceIn _ = Unit {0}

pub record SideAndNoReturn (kind : OpKind) (operands : List ℕ) (t : ValueType) : Type 0 where
  pub side : SideKept kind operands t
  pub goes_on : IsTrue (not (is_return kind))

pub record NoIndexContent (kind : BodyKind) (operands : List ℕ) (t : ValueType) : Type 0 where
  pub content : Content (written_in_body kind) operands t
  pub no_index : IsTrue (not (is_on_index kind))

-- an operation of a function or a region without its name, or what isn't one
abbrev pub SideIn : Part → Type 0
SideIn (part.RightSide x) = SideAndNoReturn x.kind x.operands x.result
SideIn (part.Arith x) = NoIndexContent x.kind x.operands x.result
SideIn _ = Unit {0}

-- one of a region, which may ask for the index of a loop
abbrev pub IndexedArithIn : Part → Type 0
IndexedArithIn (part.Arith x) = Content (written_in_body x.kind) x.operands x.result
IndexedArithIn _ = Unit {0}

abbrev pub Spelled : Part → Type 0
Spelled p = AreSpelled (numbers_in p)

pub record GroupsKept (p : Part) : Type 0 where
  pub grid : Named (groups_in p).grid
  pub axes : AreSpelled (groups_in p).grid_axes

pub record ExtentsKept (p : Part) : Type 0 where
  pub some : IsTrue (nat_lt 0 (length (numbers_in p)))
  pub positive : AllByRecursion (λ z. IsTrue (is_not_negative z)) (numbers_in p)
  pub spelled : Spelled p

abbrev pub BodyOpsKept : List BodyOp → Type 0
BodyOpsKept ops = AllByRecursion BodyOpKept ops

pub record PlainBodyOp (op : BodyOp) : Type 0 where
  pub kept : BodyOpKept op
  pub no_index : NoIndex op

abbrev pub PlainBodyOps : List BodyOp → Type 0
PlainBodyOps ops = AllByRecursion PlainBodyOp ops

-- the module of a part, and one of nothing where it is none
abbrev pub module_in : Part → Module
module_in (part.Module m) = m
module_in _ = record { name = None; grids = []; funcs = []; calls = [] }

pub record ModuleKept (m : Module) : Type 0 where
  pub name : AllByRecursion Named (option_to_list m.name)
  pub grids : AllByRecursion GridKept m.grids
  pub funcs : AllByRecursion FuncKept m.funcs
  pub calls : AllByRecursion CallKept m.calls

-- what is known of the part that a form makes
abbrev pub Keeps : Form → Part → Type 0
Keeps form.File p = ModuleKept (module_in p)
Keeps form.Aliases p = AllByRecursion (λ a. MapNumbered a.map) (aliases_in p)
Keeps form.Contents p = ModuleKept (module_in p)
Keeps form.ModuleName p = AllByRecursion Named (option_to_list (module_name_in p))
Keeps form.Items p = ContentsKept (contents_in p)
Keeps form.Alias p = MapNumbered (alias_in p).map
Keeps form.Hash p = MapNumbered (alias_in p).map
Keeps form.Map p = InOption MapNumbered (map_in p)
Keeps form.Item p = ItemKept p
Keeps form.Extents p = ExtentsKept p
Keeps form.Arguments p = AllByRecursion DenseKept (constants_in p)
Keeps form.MoreArguments p = AllByRecursion DenseKept (constants_in p)
Keeps form.Argument p = InOption DenseKept (constant_in p)
Keeps form.Device p = DeviceIn p
Keeps form.Cuts p = AllByRecursion CutKept (cuts_in p)
Keeps form.MoreCuts p = AllByRecursion CutKept (cuts_in p)
Keeps form.Cut p = InOption CutKept (cut_in p)
Keeps form.MaybeHalo p = Spelled p
Keeps form.Halo p = Spelled p
Keeps form.MaybeOffsets p = Spelled p
Keeps form.Offsets p = Spelled p
Keeps form.Func p = ItemKept p
Keeps form.Parameters p = AllByRecursion (λ arg. TypeSpelled arg.value_type) (args_in p)
Keeps form.MoreParameters p = AllByRecursion (λ arg. TypeSpelled arg.value_type) (args_in p)
Keeps form.Parameter p = InOption (λ arg. TypeSpelled arg.value_type) (arg_in p)
Keeps form.Results p = TypesAreSpelled (types_in p)
Keeps form.ResultTypes p = TypesAreSpelled (types_in p)
Keeps form.Operations p = OpsKept (ops_in p)
Keeps form.Return p = OpsKept (before (op_in p) [])
Keeps form.Returned p = TypesAreSpelled (operands_in p).types
Keeps form.ValueType p = TypeSpelled (type_in p)
Keeps form.Dims p = AllByRecursion DimSpelled (dims_in p)
Keeps form.Dim p = DimSpelled (dim_in p)
Keeps form.Types p = TypesAreSpelled (types_in p)
Keeps form.MoreTypes p = TypesAreSpelled (types_in p)
Keeps form.Dense p = Counted (literal_in p)
Keeps form.Cells p = Counted (literal_in p)
Keeps form.Element p = Counted (literal_in p)
Keeps form.Elements p = Counted (literal_in p)
Keeps form.MoreElements p = Counted (literal_in p)
Keeps form.Num p = IsTrue (is_spelled (signed_in p))
Keeps form.Nums p = Spelled p
Keeps form.Numbers p = Spelled p
Keeps form.MoreNumbers p = Spelled p
Keeps form.Lists p = AreSpelled (all_numbers (lists_in p))
Keeps form.ListItems p = AreSpelled (all_numbers (lists_in p))
Keeps form.MoreListItems p = AreSpelled (all_numbers (lists_in p))
Keeps form.Operation p = InOption OperationKept (op_in p)
Keeps form.RightSide p = SideIn p
Keeps form.EmptyTensor p = SideIn p
Keeps form.ExtractSlice p = SideIn p
Keeps form.InsertSlice p = SideIn p
Keeps form.CollapseShape p = SideIn p
Keeps form.ExpandShape p = SideIn p
Keeps form.Structured p = SideIn p
Keeps form.Transpose p = SideIn p
Keeps form.Broadcast p = SideIn p
Keeps form.Reduce p = SideIn p
Keeps form.Generic p = SideIn p
Keeps form.Sharding p = SideIn p
Keeps form.Shard p = SideIn p
Keeps form.AllGather p = SideIn p
Keeps form.AllSlice p = SideIn p
Keeps form.AllReduce p = SideIn p
Keeps form.ReduceScatter p = SideIn p
Keeps form.AllToAll p = SideIn p
Keeps form.Shift p = SideIn p
Keeps form.UpdateHalo p = SideIn p
Keeps form.Take p = SideIn p
Keeps form.Pad p = SideIn p
Keeps form.Join p = SideIn p
Keeps form.Call p = SideIn p
Keeps form.Arith p = SideIn p
Keeps form.Constant p = SideIn p
Keeps form.Literal p = InOption ConstantKept (constant_in p)
Keeps form.Binary p = SideIn p
Keeps form.Compare p = SideIn p
Keeps form.Select p = SideIn p
Keeps form.SelectTypes p = TypesAreSpelled (types_in p)
Keeps form.Cast p = SideIn p
Keeps form.Ins p = TypesAreSpelled (operands_in p).types
Keeps form.MaybeIns p = TypesAreSpelled (operands_in p).types
Keeps form.Outs p = TypesAreSpelled (operands_in p).types
Keeps form.ReduceTail p = SideIn p
Keeps form.Body p = PlainBodyOps (tail_in p).ops
Keeps form.BodyOperation p = InOption PlainBodyOp (body_op_in p)
Keeps form.GenericBody p = BodyOpsKept (tail_in p).ops
Keeps form.GenericOperation p = InOption BodyOpKept (body_op_in p)
Keeps form.GenericRightSide p = IndexedArithIn p
Keeps form.LoopIndex p = IndexedArithIn p
Keeps form.IndexCast p = IndexedArithIn p
Keeps form.Yield p = PlainBodyOps (tail_in p).ops
Keeps form.Maps p = AllByRecursion MapNumbered (maps_in p)
Keeps form.MoreMaps p = AllByRecursion MapNumbered (maps_in p)
Keeps form.MapOrAlias p = InOption MapNumbered (map_in p)
Keeps form.On p = GroupsKept p
Keeps form.MaybeAxes p = Spelled p
Keeps _ p = Unit {0}

-- what is known of the part of a token, by the token's class: that of `@name` is 2
pub record LeafKept (c : ℕ) (p : Part) : Type 0 where
  pub number : IsTrue (nat_lt (number_in p) (2 ^ 64))
  pub dim : DimSpelled (dim_in p)
  pub map : MapNumbered (alias_in p).map
  pub name : c ≡ 2 → Named (symbol_in p)

abbrev pub IsKept : Symbol → Part → Type 0
IsKept (symbol.Class c) p = LeafKept c p
IsKept (symbol.Part n) p = Keeps n p

-- what follows of the numbers of names alone: maps are numbered
abbrev pub NamesKept : Form → Part → Type 0
NamesKept form.Map p = InOption MapNumbered (map_in p)
NamesKept _ p = Unit {0}
