-- The notes of a function, and the shardings that they name.
use Rattle.std.specs.Prelude.{ℕ, List, [], ◌∷◌, Bool, true, false, Option, Some, None, nat_eq, slice_get, option_and_then, if◌then◌else◌}
use Rattle.std.specs.Option.{option_map, option_map_or, option_or}
use Rattle.sh_ir.specs.declared.classification.OpClass.{OpClass}
use Rattle.sh_ir.specs.declared.classification.OpClass.TheVariants as class
use Rattle.sh_ir.specs.declared.operations.Op.{Op}
use Rattle.sh_ir.specs.declared.operations.OpKind.{OpKind}
use Rattle.sh_ir.specs.declared.operations.OpKind.TheVariants.{Constant, Binary, Compare, Select, Cast, Empty, ExtractSlice, InsertSlice, CollapseShape, ExpandShape, Fill, Matmul, BatchMatmul, Matvec, Vecmat, Dot, Conv1d, Conv2d, Transpose, Broadcast, Reduce, Generic, Sharding, Shard, AllGather, AllSlice, AllReduce, ReduceScatter, AllToAll, Shift, UpdateHalo, Take, Pad, Join, Call, Return}
use Rattle.sh_ir.specs.declared.types.RawSharding.{RawSharding}
use Rattle.sh_ir.specs.Classes.{class_of}

-- ---- shardings

-- the sharding that an operation writes
unfoldable pub sharding_in : OpKind → Option RawSharding
sharding_in (Constant x) = None
sharding_in (Binary x) = None
sharding_in (Compare x) = None
sharding_in (Select x) = None
sharding_in (Cast x) = None
sharding_in Empty = None
sharding_in (ExtractSlice x) = None
sharding_in (InsertSlice x) = None
sharding_in (CollapseShape x) = None
sharding_in (ExpandShape x) = None
sharding_in (Fill x) = None
sharding_in (Matmul x) = None
sharding_in (BatchMatmul x) = None
sharding_in (Matvec x) = None
sharding_in (Vecmat x) = None
sharding_in (Dot x) = None
sharding_in (Conv1d x) = None
sharding_in (Conv2d x) = None
sharding_in (Transpose x) = None
sharding_in (Broadcast x) = None
sharding_in (Reduce x) = None
sharding_in (Generic x) = None
sharding_in (Sharding x) = Some x
sharding_in (Shard x) = None
sharding_in (AllGather x) = None
sharding_in (AllSlice x) = None
sharding_in (AllReduce x) = None
sharding_in (ReduceScatter x) = None
sharding_in (AllToAll x) = None
sharding_in (Shift x) = None
sharding_in (UpdateHalo x) = None
sharding_in (Take x) = None
sharding_in (Pad x) = None
sharding_in (Join x) = None
sharding_in (Call x) = None
sharding_in (Return x) = None

-- the shardings by name behind an operation, the last one first
abbrev pub shardings_after : List (ℕ × RawSharding) → Op → List (ℕ × RawSharding)
shardings_after before op =
    option_map_or
    (λ name. option_map_or (λ raw. (name, raw) ∷ before) (sharding_in op.kind) before)
    op.defines before

abbrev pub shardings_in : List (ℕ × RawSharding) → List Op → List (ℕ × RawSharding)
shardings_in before [] = before
shardings_in before (op ∷ ops) = shardings_in (shardings_after before op) ops

abbrev pub sharding_named : List (ℕ × RawSharding) → ℕ → Option RawSharding
sharding_named [] name = None
sharding_named (s ∷ shardings) name =
    if nat_eq s.0 name then Some s.1 else sharding_named shardings name

-- ---- notes

abbrev pub is_note_class : OpClass → Bool
is_note_class class.Creator = false
is_note_class class.Element = false
is_note_class class.Layout = false
is_note_class class.Structured = false
is_note_class class.Convolution = false
is_note_class class.Sharding = false
is_note_class class.Note = true
is_note_class class.DeviceLayout = false
is_note_class class.Collective = false
is_note_class class.Call = false
is_note_class class.Return = false

-- `shard.shard %value to %sharding`
unfoldable pub is_note : OpKind → Bool
is_note kind = is_note_class (class_of kind)

-- the sharding that an operation of a function notes, if it is a note: that of its second operand
abbrev pub noted_by : List Op → Op → Option RawSharding
noted_by ops op =
    if is_note op.kind
    then option_and_then (sharding_named (shardings_in [] ops)) (slice_get op.operands 1)
    else None

-- the grid that the first note of a function names, looked for in these of its operations
abbrev pub first_grid : List Op → List Op → Option (List ℕ)
first_grid all [] = None
first_grid all (op ∷ ops) =
    option_or (option_map (λ raw. raw.grid) (noted_by all op)) (first_grid all ops)
