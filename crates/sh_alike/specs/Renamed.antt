-- A module with its value ids renamed and its places forgotten.
use Rattle.std.specs.Prelude.{ℕ, map, option_map}
use Rattle.sh_base.specs.declared.places.Place.{Place}
use Rattle.sh_ir.specs.Parts.{op_of}
use Rattle.sh_ir.specs.declared.bodies.Body.{Body}
use Rattle.sh_ir.specs.declared.bodies.BodyOp.{BodyOp}
use Rattle.sh_ir.specs.declared.functions.Arg.{Arg}
use Rattle.sh_ir.specs.declared.functions.Func.{Func}
use Rattle.sh_ir.specs.declared.modules.CallItem.{CallItem}
use Rattle.sh_ir.specs.declared.modules.GridItem.{GridItem}
use Rattle.sh_ir.specs.declared.operations.Op.{Op}
use Rattle.sh_ir.specs.declared.operations.OpKind.{OpKind}
use Rattle.sh_ir.specs.declared.operations.OpKind.TheVariants.{Constant, Binary, Compare, Select, Cast, Empty, ExtractSlice, InsertSlice, CollapseShape, ExpandShape, Fill, Matmul, BatchMatmul, Matvec, Vecmat, Dot, Conv1d, Conv2d, Transpose, Broadcast, Reduce, Generic, Sharding, Shard, AllGather, AllSlice, AllReduce, ReduceScatter, AllToAll, Shift, UpdateHalo, Take, Pad, Join, Call, Return}

-- the one place that stands for each
abbrev pub no_place : Place
no_place = record { line = 0; column = 0 }

-- ## Regions

abbrev pub renamed_body_op : (ℕ → ℕ) → BodyOp → BodyOp
renamed_body_op r op = record op {
  operands = map r op.operands;
  defines = r op.defines;
  place = no_place;
}

abbrev pub renamed_body : (ℕ → ℕ) → Body → Body
renamed_body r body = record body {
  args = map r body.args;
  ops = map (renamed_body_op r) body.ops;
  yields = r body.yields;
  place = no_place;
}

-- ## Operations

-- a region is a part of what an operation is; no other kind has names of its own
abbrev pub renamed_kind : (ℕ → ℕ) → OpKind → OpKind
renamed_kind r (Constant x) = Constant x
renamed_kind r (Binary x) = Binary x
renamed_kind r (Compare x) = Compare x
renamed_kind r (Select x) = Select x
renamed_kind r (Cast x) = Cast x
renamed_kind r Empty = Empty
renamed_kind r (ExtractSlice x) = ExtractSlice x
renamed_kind r (InsertSlice x) = InsertSlice x
renamed_kind r (CollapseShape x) = CollapseShape x
renamed_kind r (ExpandShape x) = ExpandShape x
renamed_kind r (Fill x) = Fill x
renamed_kind r (Matmul x) = Matmul x
renamed_kind r (BatchMatmul x) = BatchMatmul x
renamed_kind r (Matvec x) = Matvec x
renamed_kind r (Vecmat x) = Vecmat x
renamed_kind r (Dot x) = Dot x
renamed_kind r (Conv1d x) = Conv1d x
renamed_kind r (Conv2d x) = Conv2d x
renamed_kind r (Transpose x) = Transpose x
renamed_kind r (Broadcast x) = Broadcast x
renamed_kind r (Reduce x) = Reduce (record x { body = renamed_body r x.body })
renamed_kind r (Generic x) = Generic (record x { body = renamed_body r x.body })
renamed_kind r (Sharding x) = Sharding x
renamed_kind r (Shard x) = Shard x
renamed_kind r (AllGather x) = AllGather x
renamed_kind r (AllSlice x) = AllSlice x
renamed_kind r (AllReduce x) = AllReduce x
renamed_kind r (ReduceScatter x) = ReduceScatter x
renamed_kind r (AllToAll x) = AllToAll x
renamed_kind r (Shift x) = Shift x
renamed_kind r (UpdateHalo x) = UpdateHalo x
renamed_kind r (Take x) = Take x
renamed_kind r (Pad x) = Pad x
renamed_kind r (Join x) = Join x
renamed_kind r (Call x) = Call x
renamed_kind r (Return x) = Return x

abbrev pub renamed_op : (ℕ → ℕ) → Op → Op
renamed_op r op =
    op_of (renamed_kind r op.kind) (map r op.operands) (option_map r op.defines) op.result no_place

-- ## Functions and items

abbrev pub renamed_arg : (ℕ → ℕ) → Arg → Arg
renamed_arg r arg = record arg { id = r arg.id }

abbrev pub renamed_func : (ℕ → ℕ) → Func → Func
renamed_func r f = record f {
  args = map (renamed_arg r) f.args;
  ops = map (renamed_op r) f.ops;
  place = no_place;
}

-- with the ids as they are
abbrev pub placeless_func : Func → Func
placeless_func f = renamed_func (λ id. id) f

abbrev pub placeless_grid : GridItem → GridItem
placeless_grid g = record g { place = no_place }

abbrev pub placeless_call : CallItem → CallItem
placeless_call c = record c { place = no_place }
