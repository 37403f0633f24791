-- What each form stands for, in the order of the grammar in Language.antt of sh_grammar. A clause
-- names the parts of one alternative, and says what they become. Alternatives are told apart by their
-- parts, or by their numbers where they have as many.
use Rattle.std.specs.Prelude.{ℕ, ◌+◌, ℤ, pos, neg_ℤ, List, [], ◌∷◌, ◌++◌, length, map, get_or, slice_get, unwrap_or, Option, Some, None, true, false, nat_eq, codes, if◌then◌else◌}
use Rattle.std.specs.Cmp.Lexicographic.{pointwise}
use Rattle.sh_base.specs.declared.numbers.Width.{Width}
use Rattle.sh_base.specs.declared.numbers.Width.TheVariants.{I1, I8, I16, I32, I64}
use Rattle.sh_base.specs.declared.operations.BinOp.{BinOp}
use Rattle.sh_base.specs.declared.operations.BinOp.TheVariants.{Addi, Subi, Muli, Divui, Divsi, Remui, Remsi, Andi, Ori, Xori, Maxsi, Minsi, Maxui, Minui, Shli, Shrui, Shrsi}
use Rattle.sh_base.specs.declared.operations.CastOp.{CastOp}
use Rattle.sh_base.specs.declared.operations.CastOp.TheVariants.{Extsi, Extui, Trunci}
use Rattle.sh_base.specs.declared.operations.Kind.{Kind}
use Rattle.sh_base.specs.declared.operations.Kind.TheVariants.{Sum, Product, Max, Min, And, Or, Xor}
use Rattle.sh_base.specs.declared.operations.Predicate.{Predicate}
use Rattle.sh_base.specs.declared.operations.Predicate.TheVariants.{Eq, Ne, Slt, Sle, Sgt, Sge, Ult, Ule, Ugt, Uge}
use Rattle.sh_grammar.specs.declared.forms.Form.{Form}
use Rattle.sh_grammar.specs.declared.forms.Form.TheVariants.{File, Aliases, Contents, ModuleName, Items, Alias, Hash, Map, Names, MoreNames, Name, Item, Extents, Arguments, MoreArguments, Argument, Device, Cuts, MoreCuts, Cut, MaybeHalo, Halo, MaybeOffsets, Offsets, Func, Visibility, Parameters, MoreParameters, Parameter, Results, ResultTypes, Operations, Return, Returned, ValueType, Dims, Dim, Width as WidthForm, Types, MoreTypes, Values, MoreValues, Dense, Cells, Element, Elements, MoreElements, Num, Nums, Numbers, MoreNumbers, Lists, ListItems, MoreListItems, Operation, RightSide, EmptyTensor, ExtractSlice, InsertSlice, CollapseShape, ExpandShape, Structured, StructuredName, Transpose, Broadcast, Reduce, Generic, Sharding, Shard, AllGather, AllSlice, AllReduce, ReduceScatter, AllToAll, Shift, UpdateHalo, Take, Pad, Join, Call, CallName, Arith, Constant, Literal, Binary, BinaryName, Compare, Predicate as PredicateForm, Select, SelectTypes, Cast, CastName, Ins, MaybeIns, Outs, ReduceTail, Combiner, MaybeNoOverflow, NoOverflow, Body, BodyOperation, GenericBody, GenericOperation, GenericRightSide, LoopIndex, IndexCast, Yield, BlockArguments, MoreBlockArguments, BlockArgument, Maps, MoreMaps, MapOrAlias, Iterators, MoreIterators, On, MaybeAxes, MaybeReduction, ReductionKind, KindName, MaybeForUsers, MaybeRotate}
use Rattle.sh_ir.specs.Parts.{op_of}
use Rattle.sh_ir.specs.Regions.{captured_by}
use Rattle.sh_ir.specs.Shapes.{extent_of}
use Rattle.sh_ir.specs.Written.{first_type, test_type}
use Rattle.sh_ir.specs.declared.bodies.Body as body
use Rattle.sh_ir.specs.declared.bodies.BodyKind.{BodyKind}
use Rattle.sh_ir.specs.declared.bodies.BodyKind.TheVariants as body_kind
use Rattle.sh_ir.specs.declared.bodies.BodyOp.{BodyOp}
use Rattle.sh_ir.specs.declared.functions.Arg.{Arg}
use Rattle.sh_ir.specs.declared.functions.Cut as cut
use Rattle.sh_ir.specs.declared.functions.Func as func
use Rattle.sh_ir.specs.declared.linalg_ops.InsOuts.{InsOuts}
use Rattle.sh_ir.specs.declared.linalg_ops.IteratorType.{IteratorType}
use Rattle.sh_ir.specs.declared.linalg_ops.IteratorType.TheVariants.{Parallel, Reduction, Unknown}
use Rattle.sh_ir.specs.declared.operations.OpKind.{OpKind}
use Rattle.sh_ir.specs.declared.operations.OpKind.TheVariants as op_kind
use Rattle.sh_ir.specs.declared.tensor_ops.Slice.{Slice}
use Rattle.sh_ir.specs.declared.types.RawSharding.{RawSharding}
use Rattle.sh_ir.specs.declared.types.ValueType as value_type
use Rattle.sh_ir.specs.declared.types.ValueType.TheVariants as type
use Rattle.sh_literals.specs.declared.literals.Element.TheVariants.{Number, Truth}
use Rattle.sh_literals.specs.declared.literals.Literal.TheVariants as literal
use Rattle.sh_build.specs.declared.parts.Contents as contents
use Rattle.sh_build.specs.declared.parts.Device as device
use Rattle.sh_build.specs.declared.parts.Mark.{Mark}
use Rattle.sh_build.specs.declared.parts.Operands.{Operands}
use Rattle.sh_build.specs.declared.parts.Part.{Part}
use Rattle.sh_build.specs.declared.parts.Part.TheVariants as part
use Rattle.sh_build.specs.declared.parts.StructuredName as structured_name
use Rattle.sh_build.specs.declared.parts.StructuredName.TheVariants as structured
use Rattle.sh_literals.specs.Fronts.{before}
use Rattle.sh_build.specs.Readings.{alias_in, aliases_in, arg_in, args_in, bin_op_in, body_op_in, cast_op_in, combiner_in, constant_in, constants_in, contents_in, cut_in, cuts_in, dim_in, dims_in, flag_in, groups_in, id_in, ids_in, iterators_in, kind_in, lists_in, literal_in, map_in, maps_in, mark_in, module_name_in, number_in, numbers_in, operands_in, op_in, ops_in, place_in, predicate_in, quoted_in, signed_in, structured_in, symbol_in, tail_in, type_in, types_in, width_in}
use Rattle.sh_literals.specs.LiteralCells.{dense, in_front, no_list, scalar, single}

-- ---- what the words of a form stand for, in the order of the grammar

abbrev pub the_widths : List Width
the_widths = I1 ∷ I8 ∷ I16 ∷ I32 ∷ I64 ∷ []

abbrev pub the_structured : List structured_name.StructuredName
the_structured =
    structured.Fill ∷ structured.Matmul ∷ structured.BatchMatmul ∷ structured.Matvec
    ∷ structured.Vecmat ∷ structured.Dot ∷ structured.Conv1d ∷ structured.Conv2d ∷ []

abbrev pub the_bin_ops : List BinOp
the_bin_ops =
    Addi ∷ Subi ∷ Muli ∷ Andi ∷ Ori ∷ Xori ∷ Maxsi ∷ Minsi ∷ Maxui ∷ Minui ∷ Divui ∷ Remui
    ∷ Divsi ∷ Remsi ∷ Shli ∷ Shrui ∷ Shrsi ∷ []

abbrev pub the_predicates : List Predicate
the_predicates = Eq ∷ Ne ∷ Slt ∷ Sle ∷ Sgt ∷ Sge ∷ Ult ∷ Ule ∷ Ugt ∷ Uge ∷ []

abbrev pub the_cast_ops : List CastOp
the_cast_ops = Extsi ∷ Extui ∷ Trunci ∷ []

abbrev pub the_combiners : List BinOp
the_combiners = Addi ∷ Muli ∷ Maxsi ∷ Minsi ∷ Maxui ∷ Minui ∷ Andi ∷ Ori ∷ Xori ∷ []

abbrev pub the_kinds : List Kind
the_kinds = Sum ∷ Product ∷ Max ∷ Min ∷ And ∷ Or ∷ Xor ∷ []

-- ---- items

-- a module of these items
abbrev pub module_of : Option (List ℕ) → contents.Contents → Part
module_of name items = part.Module (record {
  name = name;
  grids = items.grids;
  funcs = items.funcs;
  calls = items.calls;
})

-- one more item in front
abbrev pub with_item : Part → contents.Contents → contents.Contents
with_item (part.Grid x) items = record items { grids = x ∷ items.grids }
with_item (part.Func x) items = record items { funcs = x ∷ items.funcs }
with_item (part.Call x) items = record items { calls = x ∷ items.calls }
with_item _ items = items

abbrev pub grid_item : Part → Part → Part → Part
grid_item mark name extents = part.Grid (record {
  name = symbol_in name;
  extents = numbers_in extents;
  place = place_in mark;
})

abbrev pub call_item : Part → Part → Part → Part
call_item mark callee args = part.Call (record {
  callee = symbol_in callee;
  args = constants_in args;
  place = place_in mark;
})

-- the function, carried as the device item before it says, from where that item stands
abbrev pub carried_by : device.Device → func.Func → func.Func
carried_by d f = record f { carry = Some d.carry; place = d.place }

abbrev pub carried : Part → Part → Part
carried (part.Device d) (part.Func f) = part.Func (carried_by d f)
carried _ other = other

-- the cut on this grid
abbrev pub on_grid : List ℕ → cut.Cut → cut.Cut
on_grid grid c = record c { sharding = record c.sharding { grid = grid } }

-- a sharding as it is written
abbrev pub sharding_of : List ℕ → Part → Part → Part → RawSharding
sharding_of grid lists halos offsets = record {
  grid = grid;
  split = lists_in lists;
  halos = numbers_in halos;
  offsets = numbers_in offsets;
}

-- ---- operations

-- the right side of an operation: what it is, the operands and the type of its value
abbrev pub side : OpKind → List ℕ → value_type.ValueType → Part
side kind operands result = part.RightSide (record {
  kind = kind;
  operands = operands;
  result = result;
})

-- the right side of an operation of a region
abbrev pub arith : BodyKind → List ℕ → value_type.ValueType → Part
arith kind operands result = part.Arith (record {
  kind = kind;
  operands = operands;
  result = result;
})

-- an operation of a region as one of a function; the last two stand in regions alone
abbrev pub op_kind_of : BodyKind → OpKind
op_kind_of (body_kind.Constant x) = op_kind.Constant x
op_kind_of (body_kind.Binary x) = op_kind.Binary x
op_kind_of (body_kind.Compare x) = op_kind.Compare x
op_kind_of (body_kind.Select x) = op_kind.Select x
op_kind_of (body_kind.Cast x) = op_kind.Cast x
op_kind_of (body_kind.Index x) = op_kind.Empty
op_kind_of body_kind.IndexCast = op_kind.Empty

-- a right side
abbrev pub side_of : Part → Part
side_of (part.Arith x) = side (op_kind_of x.kind) x.operands x.result
side_of other = other

-- an operation that defines this name
abbrev pub defining : Mark → Part → Part
defining name (part.RightSide x) =
    part.Op (op_of x.kind x.operands (Some name.id) x.result name.place)
defining name _ = part.Nothing

abbrev pub defining_in_body : Mark → Part → Part
defining_in_body name (part.Arith x) = part.BodyOp (record {
  kind = x.kind;
  operands = x.operands;
  defines = name.id;
  result = x.result;
  place = name.place;
})
defining_in_body name _ = part.Nothing

abbrev pub returning : Part → Operands → Part
returning mark x =
    part.Op (op_of (op_kind.Return (record { operand_types = x.types })) x.values None type.Nothing
    (place_in mark))

abbrev pub operands_of : List ℕ → List value_type.ValueType → Part
operands_of values types = part.Operands (record { values = values; types = types })

-- what `ins` and `outs` write
abbrev pub ins_outs_of : Operands → Operands → InsOuts
ins_outs_of ins outs = record {
  ins_count = length ins.values;
  ins_types = ins.types;
  outs_count = length outs.values;
  outs_types = outs.types;
}

abbrev pub structured_kind : structured_name.StructuredName → InsOuts → OpKind
structured_kind structured.Fill x = op_kind.Fill x
structured_kind structured.Matmul x = op_kind.Matmul x
structured_kind structured.BatchMatmul x = op_kind.BatchMatmul x
structured_kind structured.Matvec x = op_kind.Matvec x
structured_kind structured.Vecmat x = op_kind.Vecmat x
structured_kind structured.Dot x = op_kind.Dot x
structured_kind structured.Conv1d x = op_kind.Conv1d x
structured_kind structured.Conv2d x = op_kind.Conv2d x

-- a structured operation: the operands are those of `ins`, those of `outs`, and the names of the
-- function that its region uses
abbrev pub structured_side : (InsOuts → OpKind) → Operands → Operands → List ℕ
    → value_type.ValueType → Part
structured_side kind ins outs captured result =
    side (kind (ins_outs_of ins outs)) (ins.values ++ outs.values ++ captured) result

abbrev pub slice_of : Part → Part → Part → Slice
slice_of offsets sizes strides = record {
  offsets = numbers_in offsets;
  sizes = numbers_in sizes;
  strides = numbers_in strides;
}

abbrev pub constant_side : Part → Part
constant_side (part.Constant c) = arith (body_kind.Constant c) [] c.value_type
constant_side _ = part.Nothing

abbrev pub comparing : Part → Part → Part → Part → Part
comparing predicate a b t =
    arith (body_kind.Compare (record { predicate = predicate_in predicate; operand_type = type_in t }))
    (id_in a ∷ id_in b ∷ []) (test_type (type_in t))

-- where one type is written it is that of the value, and the condition is a scalar `i1`
abbrev pub selecting : List ℕ → value_type.ValueType → Option value_type.ValueType → Part
selecting operands t None =
    arith (body_kind.Select (record { condition_type = type.Scalar I1 })) operands t
selecting operands t (Some result) =
    arith (body_kind.Select (record { condition_type = t })) operands result

-- ---- regions

-- the width of a type's cells; `i1` where it has none
abbrev pub cell_width : value_type.ValueType → Width
cell_width type.Nothing = I1
cell_width (type.Scalar w) = w
cell_width (type.Tensor t) = t.width
cell_width type.Sharding = I1
cell_width type.Index = I1

-- the region of these block arguments, operations and yield
abbrev pub body_of : List Arg → Part → body.Body
body_of args tail = let t = tail_in tail in record {
  args = map (λ arg. arg.id) args;
  widths = map (λ arg. cell_width arg.value_type) args;
  ops = t.ops;
  yields = t.yields;
  width = t.width;
  place = t.place;
}

-- what a combiner of two cells does: it is applied to the output's and the input's
abbrev pub combining : BinOp → Mark → Width → BodyOp
combining op at w = record {
  kind = body_kind.Binary op;
  operands = (at.id + 1) ∷ at.id ∷ [];
  defines = at.id + 2;
  result = type.Scalar w;
  place = at.place;
}

-- The region that a combiner stands for. Its names are the input's, the output's and the result's, in
-- this order, and all of it stands where the combiner does.
abbrev pub combiner_body : BinOp → Mark → Width → Width → body.Body
combiner_body op at input output = record {
  args = at.id ∷ (at.id + 1) ∷ [];
  widths = input ∷ output ∷ [];
  ops = combining op at output ∷ [];
  yields = at.id + 2;
  width = output;
  place = at.place;
}

-- the value has the first type of `outs`
abbrev pub reducing : Operands → Operands → List ℤ → body.Body → Part
reducing ins outs dimensions body = structured_side
    (λ x. op_kind.Reduce (record { ins_outs = x; dimensions = dimensions; body = body })) ins outs
    (captured_by body) (first_type outs.types)

abbrev pub generic : Operands → Operands → Part → Part → body.Body → Part → Part
generic ins outs maps iterators body t = structured_side (λ x. op_kind.Generic (record {
  ins_outs = x;
  indexing_maps = maps_in maps;
  iterator_types = iterators_in iterators;
  body = body;
})) ins outs (captured_by body) (type_in t)

abbrev pub iterator_of : List ℕ → IteratorType
iterator_of text =
    if pointwise nat_eq text (codes "parallel") then Parallel
    else (if pointwise nat_eq text (codes "reduction") then Reduction else Unknown)

-- ---- the forms

unfoldable pub made : Form → ℕ → List Part → Part
made File i (aliases ∷ contents ∷ []) = contents
made Aliases i [] = part.Aliases []
made Aliases i (alias ∷ more ∷ []) = part.Aliases (alias_in alias ∷ aliases_in more)
made Contents i (_ ∷ name ∷ _ ∷ items ∷ _ ∷ []) = module_of (module_name_in name) (contents_in items)
made Contents i (items ∷ []) = module_of None (contents_in items)
made ModuleName i [] = part.ModuleName None
made ModuleName i (name ∷ []) = part.ModuleName (Some (symbol_in name))
made Items i [] = part.Contents (record { grids = []; funcs = []; calls = [] })
made Items i (item ∷ more ∷ []) = part.Contents (with_item item (contents_in more))
made Alias i (hash ∷ _ ∷ map ∷ []) = part.Alias (record {
  name = (alias_in hash).name;
  map = unwrap_or (map_in map) (record { loops = []; results = [] });
})
made Hash i (hash ∷ []) = hash
made Map i (_ ∷ _ ∷ _ ∷ loops ∷ _ ∷ _ ∷ _ ∷ results ∷ _ ∷ _ ∷ []) =
    part.Map (record { loops = ids_in loops; results = ids_in results })
made Names i [] = part.Ids []
made Names i (word ∷ more ∷ []) = part.Ids (id_in word ∷ ids_in more)
made MoreNames i [] = part.Ids []
made MoreNames i (_ ∷ word ∷ more ∷ []) = part.Ids (id_in word ∷ ids_in more)
made Name i (word ∷ []) = word
made Item i (mark ∷ name ∷ _ ∷ _ ∷ _ ∷ extents ∷ _ ∷ []) = grid_item mark name extents
made Item i (device ∷ func ∷ []) = carried device func
made Item i (func ∷ []) = func
made Item i (mark ∷ callee ∷ _ ∷ args ∷ _ ∷ []) = call_item mark callee args
made Extents i (dim ∷ more ∷ []) = part.Numbers (pos (extent_of (dim_in dim)) ∷ numbers_in more)
made Extents i (number ∷ []) = part.Numbers (pos (number_in number) ∷ [])
made Arguments i [] = part.Constants []
made Arguments i (arg ∷ more ∷ []) = part.Constants (before (constant_in arg) (constants_in more))
made MoreArguments i [] = part.Constants []
made MoreArguments i (_ ∷ arg ∷ more ∷ []) = part.Constants (before (constant_in arg) (constants_in more))
made Argument i (literal ∷ _ ∷ t ∷ []) = part.Constant (dense (type_in t) (literal_in literal))
made Device i (mark ∷ name ∷ _ ∷ grid ∷ _ ∷ args ∷ _ ∷ _ ∷ _ ∷ results ∷ _ ∷ []) =
    part.Device (record {
      name = symbol_in name;
      carry = record {
        grid = symbol_in grid;
        args = map (on_grid (symbol_in grid)) (cuts_in args);
        results = map (on_grid (symbol_in grid)) (cuts_in results);
      };
      place = place_in mark;
    })
made Cuts i [] = part.Cuts []
made Cuts i (cut ∷ more ∷ []) = part.Cuts (before (cut_in cut) (cuts_in more))
made MoreCuts i [] = part.Cuts []
made MoreCuts i (_ ∷ cut ∷ more ∷ []) = part.Cuts (before (cut_in cut) (cuts_in more))
made Cut i (whole ∷ _ ∷ _ ∷ lists ∷ halos ∷ offsets ∷ []) =
    part.Cut (record { whole = type_in whole; sharding = sharding_of [] lists halos offsets })
made MaybeHalo i [] = part.Numbers []
made MaybeHalo i (halo ∷ []) = halo
made Halo i (_ ∷ _ ∷ nums ∷ []) = nums
made MaybeOffsets i [] = part.Numbers []
made MaybeOffsets i (offsets ∷ []) = offsets
made Offsets i (_ ∷ _ ∷ nums ∷ []) = nums
made Func i (mark ∷ private ∷ name ∷ _ ∷ args ∷ _ ∷ results ∷ _ ∷ ops ∷ _ ∷ []) =
    part.Func (record {
      name = symbol_in name;
      private = flag_in private;
      args = args_in args;
      results = types_in results;
      ops = ops_in ops;
      carry = None;
      place = place_in mark;
    })
made Visibility i [] = part.Flag false
made Visibility i (_ ∷ []) = part.Flag (nat_eq i 1)
made Parameters i [] = part.Args []
made Parameters i (arg ∷ more ∷ []) = part.Args (before (arg_in arg) (args_in more))
made MoreParameters i [] = part.Args []
made MoreParameters i (_ ∷ arg ∷ more ∷ []) = part.Args (before (arg_in arg) (args_in more))
made Parameter i (name ∷ _ ∷ t ∷ []) = part.Arg (record { id = id_in name; value_type = type_in t })
made Results i [] = part.Types []
made Results i (_ ∷ types ∷ []) = types
made ResultTypes i (t ∷ []) = part.Types (type_in t ∷ [])
made ResultTypes i (_ ∷ types ∷ _ ∷ []) = types
made Operations i (op ∷ more ∷ []) = part.Ops (before (op_in op) (ops_in more))
made Operations i (return ∷ []) = part.Ops (before (op_in return) [])
made Return i (mark ∷ operands ∷ []) = returning mark (operands_in operands)
made Returned i [] = operands_of [] []
made Returned i (values ∷ _ ∷ types ∷ []) = operands_of (ids_in values) (types_in types)
made ValueType i (_ ∷ _ ∷ dims ∷ w ∷ _ ∷ []) =
    part.Type (type.Tensor (record { dims = dims_in dims; width = width_in w }))
made ValueType i (w ∷ []) = part.Type (type.Scalar (width_in w))
made Dims i [] = part.Dims []
made Dims i (dim ∷ more ∷ []) = part.Dims (dim_in dim ∷ dims_in more)
made Dim i (dim ∷ []) = dim
made WidthForm i (_ ∷ []) = part.Width (get_or the_widths i I1)
made Types i [] = part.Types []
made Types i (t ∷ more ∷ []) = part.Types (type_in t ∷ types_in more)
made MoreTypes i [] = part.Types []
made MoreTypes i (_ ∷ t ∷ more ∷ []) = part.Types (type_in t ∷ types_in more)
made Values i [] = part.Ids []
made Values i (name ∷ more ∷ []) = part.Ids (id_in name ∷ ids_in more)
made MoreValues i [] = part.Ids []
made MoreValues i (_ ∷ name ∷ more ∷ []) = part.Ids (id_in name ∷ ids_in more)
made Dense i (_ ∷ _ ∷ cells ∷ _ ∷ []) = cells
made Cells i [] = part.Literal literal.Empty
made Cells i (it ∷ []) =
    if nat_eq i 1 then it else part.Literal (literal.Quoted (quoted_in it))
made Element i (it ∷ []) =
    part.Literal (single (if nat_eq i 0 then Number (signed_in it) else Truth (nat_eq i 1)))
made Element i (_ ∷ list ∷ _ ∷ []) = list
made Elements i [] = part.Literal no_list
made Elements i (element ∷ more ∷ []) = part.Literal (in_front (literal_in element) (literal_in more))
made MoreElements i [] = part.Literal no_list
made MoreElements i (_ ∷ element ∷ more ∷ []) =
    part.Literal (in_front (literal_in element) (literal_in more))
made Num i (number ∷ []) = part.Signed (pos (number_in number))
made Num i (_ ∷ number ∷ []) = part.Signed (neg_ℤ (pos (number_in number)))
made Nums i (_ ∷ numbers ∷ _ ∷ []) = numbers
made Numbers i [] = part.Numbers []
made Numbers i (num ∷ more ∷ []) = part.Numbers (signed_in num ∷ numbers_in more)
made MoreNumbers i [] = part.Numbers []
made MoreNumbers i (_ ∷ num ∷ more ∷ []) = part.Numbers (signed_in num ∷ numbers_in more)
made Lists i (_ ∷ lists ∷ _ ∷ []) = lists
made ListItems i [] = part.Lists []
made ListItems i (nums ∷ more ∷ []) = part.Lists (numbers_in nums ∷ lists_in more)
made MoreListItems i [] = part.Lists []
made MoreListItems i (_ ∷ nums ∷ more ∷ []) = part.Lists (numbers_in nums ∷ lists_in more)
made Operation i (name ∷ _ ∷ right ∷ []) = defining (mark_in name) right
made RightSide i (right ∷ []) = side_of right
made EmptyTensor i (_ ∷ _ ∷ _ ∷ _ ∷ t ∷ []) = side op_kind.Empty [] (type_in t)
made ExtractSlice i (_ ∷ a ∷ offsets ∷ sizes ∷ strides ∷ _ ∷ t ∷ _ ∷ result ∷ []) =
    side (op_kind.ExtractSlice (record { slice = slice_of offsets sizes strides; source_type = type_in t }))
    (id_in a ∷ []) (type_in result)
made InsertSlice i (_ ∷ a ∷ _ ∷ b ∷ offsets ∷ sizes ∷ strides ∷ _ ∷ t ∷ _ ∷ result ∷ []) =
    side (op_kind.InsertSlice (record { slice = slice_of offsets sizes strides; source_type = type_in t }))
    (id_in a ∷ id_in b ∷ []) (type_in result)
made CollapseShape i (_ ∷ a ∷ lists ∷ _ ∷ t ∷ _ ∷ result ∷ []) =
    side (op_kind.CollapseShape (record { reassociation = lists_in lists; source_type = type_in t }))
    (id_in a ∷ []) (type_in result)
made ExpandShape i (_ ∷ a ∷ lists ∷ _ ∷ shape ∷ _ ∷ t ∷ _ ∷ result ∷ []) =
    side (op_kind.ExpandShape (record {
      reassociation = lists_in lists;
      output_shape = numbers_in shape;
      source_type = type_in t;
    })) (id_in a ∷ []) (type_in result)
made Structured i (name ∷ ins ∷ outs ∷ _ ∷ result ∷ []) =
    structured_side (structured_kind (structured_in name)) (operands_in ins) (operands_in outs) []
    (type_in result)
made StructuredName i (_ ∷ []) = part.Structured (get_or the_structured i structured.Fill)
made Transpose i (_ ∷ ins ∷ outs ∷ _ ∷ _ ∷ nums ∷ []) =
    structured_side (λ x. op_kind.Transpose (record { ins_outs = x; permutation = numbers_in nums }))
    (operands_in ins) (operands_in outs) [] (first_type (operands_in outs).types)
made Broadcast i (_ ∷ ins ∷ outs ∷ _ ∷ _ ∷ nums ∷ []) =
    structured_side (λ x. op_kind.Broadcast (record { ins_outs = x; dimensions = numbers_in nums }))
    (operands_in ins) (operands_in outs) [] (first_type (operands_in outs).types)
made Reduce i (_ ∷ right ∷ []) = right
made Generic i
    (_ ∷ _ ∷ _ ∷ _ ∷ _ ∷ maps ∷ _ ∷ _ ∷ _ ∷ _ ∷ _ ∷ iterators ∷ _ ∷ _ ∷ ins ∷ outs ∷ _ ∷ _ ∷ _
    ∷ args ∷ _ ∷ _ ∷ tail ∷ _ ∷ _ ∷ result ∷ []) =
    generic (operands_in ins) (operands_in outs) maps iterators (body_of (args_in args) tail) result
made Sharding i (_ ∷ grid ∷ _ ∷ _ ∷ lists ∷ halos ∷ offsets ∷ _ ∷ _ ∷ []) =
    side (op_kind.Sharding (sharding_of (symbol_in grid) lists halos offsets)) [] type.Sharding
made Shard i (_ ∷ a ∷ _ ∷ sharding ∷ for_users ∷ _ ∷ t ∷ []) =
    side (op_kind.Shard (record { annotate_for_users = flag_in for_users }))
    (id_in a ∷ id_in sharding ∷ []) (type_in t)
made AllGather i (_ ∷ a ∷ on ∷ _ ∷ _ ∷ axis ∷ _ ∷ t ∷ _ ∷ result ∷ []) =
    side (op_kind.AllGather (record {
      on = groups_in on;
      gather_axis = number_in axis;
      operand_type = type_in t;
    })) (id_in a ∷ []) (type_in result)
made AllSlice i (_ ∷ a ∷ on ∷ _ ∷ _ ∷ axis ∷ _ ∷ t ∷ _ ∷ result ∷ []) =
    side (op_kind.AllSlice (record {
      on = groups_in on;
      slice_axis = number_in axis;
      operand_type = type_in t;
    })) (id_in a ∷ []) (type_in result)
made AllReduce i (_ ∷ a ∷ on ∷ kind ∷ _ ∷ t ∷ _ ∷ result ∷ []) =
    side (op_kind.AllReduce (record {
      on = groups_in on;
      reduction = kind_in kind;
      operand_type = type_in t;
    })) (id_in a ∷ []) (type_in result)
made ReduceScatter i (_ ∷ a ∷ on ∷ kind ∷ _ ∷ _ ∷ axis ∷ _ ∷ t ∷ _ ∷ result ∷ []) =
    side (op_kind.ReduceScatter (record {
      on = groups_in on;
      reduction = kind_in kind;
      scatter_axis = number_in axis;
      operand_type = type_in t;
    })) (id_in a ∷ []) (type_in result)
made AllToAll i (_ ∷ a ∷ on ∷ _ ∷ _ ∷ split ∷ _ ∷ _ ∷ concat ∷ _ ∷ t ∷ _ ∷ result ∷ []) =
    side (op_kind.AllToAll (record {
      on = groups_in on;
      split_axis = number_in split;
      concat_axis = number_in concat;
      operand_type = type_in t;
    })) (id_in a ∷ []) (type_in result)
made Shift i (_ ∷ a ∷ on ∷ _ ∷ _ ∷ axis ∷ _ ∷ _ ∷ offset ∷ rotate ∷ _ ∷ t ∷ _ ∷ result ∷ []) =
    side (op_kind.Shift (record {
      on = groups_in on;
      shift_axis = number_in axis;
      offset = signed_in offset;
      rotate = flag_in rotate;
      operand_type = type_in t;
    })) (id_in a ∷ []) (type_in result)
made UpdateHalo i (_ ∷ a ∷ _ ∷ grid ∷ _ ∷ _ ∷ lists ∷ halo ∷ _ ∷ t ∷ []) =
    side (op_kind.UpdateHalo (record {
      grid = symbol_in grid;
      split_axes = lists_in lists;
      halo_sizes = numbers_in halo;
    })) (id_in a ∷ []) (type_in t)
made Take i
    (_ ∷ a ∷ on ∷ _ ∷ _ ∷ axis ∷ _ ∷ _ ∷ starts ∷ _ ∷ _ ∷ sizes ∷ _ ∷ t ∷ _ ∷ result ∷ []) =
    side (op_kind.Take (record {
      on = groups_in on;
      axis = number_in axis;
      starts = numbers_in starts;
      sizes = numbers_in sizes;
      operand_type = type_in t;
    })) (id_in a ∷ []) (type_in result)
made Pad i (_ ∷ a ∷ _ ∷ _ ∷ low ∷ _ ∷ _ ∷ high ∷ _ ∷ t ∷ _ ∷ result ∷ []) =
    side (op_kind.Pad (record {
      low = numbers_in low;
      high = numbers_in high;
      operand_type = type_in t;
    })) (id_in a ∷ []) (type_in result)
made Join i (_ ∷ values ∷ _ ∷ _ ∷ axis ∷ _ ∷ types ∷ _ ∷ result ∷ []) =
    side (op_kind.Join (record { axis = number_in axis; operand_types = types_in types }))
    (ids_in values) (type_in result)
made Call i (_ ∷ callee ∷ _ ∷ values ∷ _ ∷ _ ∷ _ ∷ types ∷ _ ∷ _ ∷ result ∷ []) =
    side (op_kind.Call (record { callee = symbol_in callee; operand_types = types_in types }))
    (ids_in values) (type_in result)
made CallName i (word ∷ []) = word
made Arith i (right ∷ []) = right
made Constant i (_ ∷ constant ∷ []) = constant_side constant
made Literal i (_ ∷ []) = part.Constant (scalar I1 (Truth (nat_eq i 0)))
made Literal i (it ∷ _ ∷ t ∷ []) = part.Constant (
    if nat_eq i 2 then scalar (width_in t) (Number (signed_in it))
    else dense (type_in t) (literal_in it))
made Binary i (name ∷ a ∷ _ ∷ b ∷ _ ∷ t ∷ []) =
    arith (body_kind.Binary (bin_op_in name)) (id_in a ∷ id_in b ∷ []) (type_in t)
made BinaryName i (_ ∷ []) = part.BinOp (get_or the_bin_ops i Addi)
made Compare i (_ ∷ predicate ∷ _ ∷ a ∷ _ ∷ b ∷ _ ∷ t ∷ []) = comparing predicate a b t
made PredicateForm i (_ ∷ []) = part.Predicate (get_or the_predicates i Eq)
made Select i (_ ∷ c ∷ _ ∷ a ∷ _ ∷ b ∷ _ ∷ t ∷ more ∷ []) =
    selecting (id_in c ∷ id_in a ∷ id_in b ∷ []) (type_in t) (slice_get (types_in more) 0)
made SelectTypes i [] = part.Types []
made SelectTypes i (_ ∷ t ∷ []) = part.Types (type_in t ∷ [])
made Cast i (name ∷ a ∷ _ ∷ t ∷ _ ∷ result ∷ []) =
    arith (body_kind.Cast (record { op = cast_op_in name; operand_type = type_in t }))
    (id_in a ∷ []) (type_in result)
made CastName i (_ ∷ []) = part.CastOp (get_or the_cast_ops i Extsi)
made Ins i (_ ∷ _ ∷ values ∷ _ ∷ types ∷ _ ∷ []) = operands_of (ids_in values) (types_in types)
made MaybeIns i [] = operands_of [] []
made MaybeIns i (ins ∷ []) = ins
made Outs i (_ ∷ _ ∷ values ∷ _ ∷ types ∷ _ ∷ []) = operands_of (ids_in values) (types_in types)
made ReduceTail i (_ ∷ combiner ∷ _ ∷ _ ∷ ins ∷ outs ∷ _ ∷ _ ∷ nums ∷ []) =
    reducing (operands_in ins) (operands_in outs) (numbers_in nums) (combiner_body
    (combiner_in combiner).op (combiner_in combiner).mark
    (cell_width (first_type (operands_in ins).types)) (cell_width (first_type (operands_in outs).types)))
made ReduceTail i (ins ∷ outs ∷ _ ∷ _ ∷ nums ∷ _ ∷ args ∷ _ ∷ _ ∷ tail ∷ _ ∷ []) =
    reducing (operands_in ins) (operands_in outs) (numbers_in nums) (body_of (args_in args) tail)
made Combiner i (mark ∷ []) =
    part.Combiner (record { op = get_or the_combiners i Addi; mark = mark_in mark })
made MaybeNoOverflow i [] = part.Nothing
made MaybeNoOverflow i (none ∷ []) = part.Nothing
made NoOverflow i parts = part.Nothing
made Body i (op ∷ more ∷ []) =
    let t = tail_in more in part.BodyTail (record t { ops = before (body_op_in op) t.ops })
made Body i (yield ∷ []) = yield
made BodyOperation i (name ∷ _ ∷ right ∷ []) = defining_in_body (mark_in name) right
made GenericBody i (op ∷ more ∷ []) =
    let t = tail_in more in part.BodyTail (record t { ops = before (body_op_in op) t.ops })
made GenericBody i (yield ∷ []) = yield
made GenericOperation i (name ∷ _ ∷ right ∷ []) = defining_in_body (mark_in name) right
made GenericRightSide i (right ∷ []) = right
made LoopIndex i (_ ∷ number ∷ _ ∷ _ ∷ []) =
    arith (body_kind.Index (record { dimension = number_in number })) [] type.Index
made IndexCast i (_ ∷ a ∷ _ ∷ _ ∷ _ ∷ w ∷ []) =
    arith body_kind.IndexCast (id_in a ∷ []) (type.Scalar (width_in w))
made Yield i (mark ∷ name ∷ _ ∷ w ∷ []) = part.BodyTail (record {
  ops = [];
  yields = id_in name;
  width = width_in w;
  place = place_in mark;
})
made BlockArguments i [] = part.Args []
made BlockArguments i (arg ∷ more ∷ []) = part.Args (before (arg_in arg) (args_in more))
made MoreBlockArguments i [] = part.Args []
made MoreBlockArguments i (_ ∷ arg ∷ more ∷ []) = part.Args (before (arg_in arg) (args_in more))
made BlockArgument i (name ∷ _ ∷ w ∷ []) =
    part.Arg (record { id = id_in name; value_type = type.Scalar (width_in w) })
made Maps i [] = part.Maps []
made Maps i (map ∷ more ∷ []) = part.Maps (before (map_in map) (maps_in more))
made MoreMaps i [] = part.Maps []
made MoreMaps i (_ ∷ map ∷ more ∷ []) = part.Maps (before (map_in map) (maps_in more))
made MapOrAlias i (it ∷ []) = if nat_eq i 0 then part.Map (alias_in it).map else it
made Iterators i [] = part.Iterators []
made Iterators i (string ∷ more ∷ []) =
    part.Iterators (iterator_of (quoted_in string) ∷ iterators_in more)
made MoreIterators i [] = part.Iterators []
made MoreIterators i (_ ∷ string ∷ more ∷ []) =
    part.Iterators (iterator_of (quoted_in string) ∷ iterators_in more)
made On i (_ ∷ grid ∷ axes ∷ []) =
    part.On (record { grid = symbol_in grid; grid_axes = numbers_in axes })
made MaybeAxes i [] = part.Numbers []
made MaybeAxes i (_ ∷ _ ∷ nums ∷ []) = nums
made MaybeReduction i [] = part.Kind Sum
made MaybeReduction i (_ ∷ _ ∷ kind ∷ []) = kind
made ReductionKind i (name ∷ []) = name
made ReductionKind i (_ ∷ name ∷ _ ∷ []) = name
made KindName i (_ ∷ []) = part.Kind (get_or the_kinds i Sum)
made MaybeForUsers i [] = part.Flag false
made MaybeForUsers i (_ ∷ []) = part.Flag true
made MaybeRotate i [] = part.Flag false
made MaybeRotate i (_ ∷ []) = part.Flag true
-- no other row is one of the grammar
made _ _ _ = part.Nothing
