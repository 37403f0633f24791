-- The modules that the two texts of the one form stand for.
use Rattle.std.specs.Prelude.{◌≡◌, ℕ, ◌^◌, ◌<◌, List, [], ◌∷◌, false, Some, None, pos, codes}
use Rattle.std.specs.Fmt.{decimal}
use Rattle.sh_base.specs.declared.numbers.Width.TheVariants.{I32}
use Rattle.sh_base.specs.declared.operations.BinOp.TheVariants.{Addi}
use Rattle.sh_base.specs.declared.places.Place.{Place}
use Rattle.sh_ir.specs.declared.functions.Arg.{Arg}
use Rattle.sh_ir.specs.declared.functions.Carry.{Carry}
use Rattle.sh_ir.specs.declared.functions.Cut.{Cut}
use Rattle.sh_ir.specs.declared.functions.Func.{Func}
use Rattle.sh_ir.specs.declared.modules.GridItem.{GridItem}
use Rattle.sh_ir.specs.declared.modules.Module.{Module}
use Rattle.sh_ir.specs.declared.operations.Op.{Op}
use Rattle.sh_ir.specs.declared.operations.OpKind.{OpKind}
use Rattle.sh_ir.specs.declared.operations.OpKind.TheVariants.{Binary, Return, Shard, Sharding as ShardingOp}
use Rattle.sh_ir.specs.declared.types.Dim.TheVariants.{Known}
use Rattle.sh_ir.specs.declared.types.RawSharding.{RawSharding}
use Rattle.sh_ir.specs.declared.types.ValueType.{ValueType}
use Rattle.sh_ir.specs.declared.types.ValueType.TheVariants.{Nothing, Sharding, Tensor}
use Rattle.sh_cli.specs.VectorSum.{vector_type, source_text, partitioned_layout}

abbrev pub place_at : ℕ → ℕ → Place
place_at line column = record { line = line; column = column }

-- `tensor<Nxi32>`
abbrev pub vector : ℕ → ValueType
vector extent = Tensor (record { dims = Known extent ∷ []; width = I32 })

-- `@g split_axes = [[0]]`
abbrev pub by_axis_0 : RawSharding
by_axis_0 = record { grid = codes "g"; split = (pos 0 ∷ []) ∷ []; halos = []; offsets = [] }

-- `shard.grid @g(shape = P)`
abbrev pub line_of_devices : ℕ → GridItem
line_of_devices devices = record { name = codes "g"; extents = pos devices ∷ []; place = place_at 2 3 }

abbrev pub argument : ℕ → ℕ → Arg
argument id extent = record { id = id; value_type = vector extent }

-- an operation that defines a name
abbrev pub defining : ℕ → OpKind → List ℕ → ValueType → Place → Op
defining name kind operands result place = record { kind = kind; operands = operands; defines = Some name; result = result; place = place }

abbrev pub returning : ℕ → ℕ → Place → Op
returning name extent place = record {
  kind = Return (record { operand_types = vector extent ∷ [] });
  operands = name ∷ [];
  defines = None;
  result = Nothing;
  place = place;
}

-- `shard.shard %value to %2`
abbrev pub noted : ℕ → ℕ → ℕ → ℕ → Op
noted name value extent line = defining name (Shard (record { annotate_for_users = false })) (value ∷ 2 ∷ []) (vector extent) (place_at line 5)

-- the function in source form: its values are %a, %b, %s, %a1, %b1, %c and %c1, in this order
abbrev pub source_func : ℕ → Func
source_func extent = record {
  name = codes "f";
  private = false;
  args = argument 0 extent ∷ argument 1 extent ∷ [];
  results = vector extent ∷ [];
  ops =
      defining 2 (ShardingOp by_axis_0) [] Sharding (place_at 4 5)
      ∷ noted 3 0 extent 5
      ∷ noted 4 1 extent 6
      ∷ defining 5 (Binary Addi) (3 ∷ 4 ∷ []) (vector extent) (place_at 7 5)
      ∷ noted 6 5 extent 8
      ∷ returning 6 extent (place_at 9 5)
      ∷ [];
  carry = None;
  place = place_at 3 3;
}

abbrev pub whole_cut : ℕ → Cut
whole_cut extent = record { whole = vector extent; sharding = by_axis_0 }

-- the grid and the cuts that the function in device form carries
abbrev pub carry_of : ℕ → Carry
carry_of extent = record { grid = codes "g"; args = whole_cut extent ∷ whole_cut extent ∷ []; results = whole_cut extent ∷ [] }

-- the function in device form, where a device has vectors of the local extent
abbrev pub device_func : ℕ → ℕ → Func
device_func extent local = record {
  name = codes "f";
  private = false;
  args = argument 0 local ∷ argument 1 local ∷ [];
  results = vector local ∷ [];
  ops = defining 2 (Binary Addi) (0 ∷ 1 ∷ []) (vector local) (place_at 5 5) ∷ returning 2 local (place_at 6 5) ∷ [];
  carry = Some (carry_of extent);
  place = place_at 3 3;
}

abbrev pub module_of : ℕ → Func → Module
module_of devices f = record { name = None; grids = line_of_devices devices ∷ []; funcs = f ∷ []; calls = [] }

-- bytes stand for a module: they are one of the two texts, with these numbers
pub data StandsFor (bytes : List ℕ) (m : Module) : Type 0 where
  in_source_form : (extent devices : ℕ) → extent < 2 ^ 64 → devices < 2 ^ 64
      → bytes ≡ source_text extent devices
      → m ≡ module_of devices (source_func extent) → StandsFor bytes m
  in_device_form : (extent local devices : ℕ) → extent < 2 ^ 64 → local < 2 ^ 64 → devices < 2 ^ 64
      → bytes ≡ partitioned_layout (vector_type extent) (vector_type local) (decimal devices)
      → m ≡ module_of devices (device_func extent local) → StandsFor bytes m
