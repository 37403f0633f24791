-- Modules whose texts are shown.
use Rattle.std.specs.Prelude.{ℕ, pos, List, [], ◌∷◌, ◌++◌, Option, Some, None, false, codes}
use Rattle.sh_base.specs.declared.numbers.Cell.TheVariants.{Val}
use Rattle.sh_base.specs.declared.numbers.Width.TheVariants.{I32}
use Rattle.sh_base.specs.declared.operations.BinOp.TheVariants.{Addi}
use Rattle.sh_base.specs.declared.places.Place.{Place}
use Rattle.sh_ir.specs.declared.arith_ops.Contents.TheVariants.{Held}
use Rattle.sh_ir.specs.declared.functions.Cut.{Cut}
use Rattle.sh_ir.specs.declared.functions.Func.{Func}
use Rattle.sh_ir.specs.declared.modules.CallItem.{CallItem}
use Rattle.sh_ir.specs.declared.modules.Module.{Module}
use Rattle.sh_ir.specs.declared.operations.Op.{Op}
use Rattle.sh_ir.specs.declared.operations.OpKind.{OpKind}
use Rattle.sh_ir.specs.declared.operations.OpKind.TheVariants.{Binary, Return}
use Rattle.sh_ir.specs.declared.types.Dim.TheVariants.{Known}
use Rattle.sh_ir.specs.declared.types.ValueType.{ValueType}
use Rattle.sh_ir.specs.declared.types.ValueType.TheVariants.{Nothing, Tensor}

abbrev pub some_place : Place
some_place = record { line = 1; column = 1 }

abbrev pub vector : ℕ → ValueType
vector n = Tensor (record { dims = Known n ∷ []; width = I32 })

abbrev pub half : Cut
half = record {
  whole = vector 4;
  sharding = record { grid = codes "g"; split = (pos 0 ∷ []) ∷ []; halos = []; offsets = [] };
}

abbrev pub op_of_kind : OpKind → List ℕ → Option ℕ → ValueType → Op
op_of_kind kind operands defines t = record {
  kind = kind;
  operands = operands;
  defines = defines;
  result = t;
  place = some_place;
}

-- a sum of two vectors, as each of two devices runs it
abbrev pub sum_on_two : Func
sum_on_two = record {
  name = codes "f";
  private = false;
  args =
      record { id = 0; value_type = vector 2 } ∷ record { id = 1; value_type = vector 2 } ∷ [];
  results = vector 2 ∷ [];
  ops =
      op_of_kind (Binary Addi) (0 ∷ 1 ∷ []) (Some 2) (vector 2)
      ∷ op_of_kind (Return (record { operand_types = vector 2 ∷ [] })) (2 ∷ []) None Nothing ∷ [];
  carry = Some (record { grid = codes "g"; args = half ∷ half ∷ []; results = half ∷ [] });
  place = some_place;
}

abbrev pub call_of_sum : CallItem
call_of_sum = record {
  callee = codes "f";
  args =
      record {
        value_type = vector 4;
        contents = Held (Val 2147483647 ∷ Val 1 ∷ Val 2 ∷ Val 4294967295 ∷ []);
      }
      ∷ record { value_type = vector 4; contents = Held (Val 1 ∷ []) } ∷ [];
  place = some_place;
}

abbrev pub sum_module : List CallItem → Module
sum_module calls = record {
  name = None;
  grids = record { name = codes "g"; extents = pos 2 ∷ []; place = some_place } ∷ [];
  funcs = sum_on_two ∷ [];
  calls = calls;
}

abbrev pub empty_module : Module
empty_module = record { name = None; grids = []; funcs = []; calls = [] }

abbrev pub sum_lines : List ℕ
sum_lines =
    codes "module {\n  shard.grid @g(shape = 2)\n"
    ++ codes "  shardrun.device @f on @g(tensor<4xi32> split_axes = [[0]], "
    ++ codes "tensor<4xi32> split_axes = [[0]]) -> (tensor<4xi32> split_axes = [[0]])\n"
    ++ codes "  func.func @f(%arg0 : tensor<2xi32>, %arg1 : tensor<2xi32>) -> tensor<2xi32> {\n"
    ++ codes "    %0 = arith.addi %arg0, %arg1 : tensor<2xi32>\n"
    ++ codes "    return %0 : tensor<2xi32>\n  }\n"

abbrev pub call_line : List ℕ
call_line =
    codes "  shardrun.call @f(dense<[2147483647, 1, 2, -1]> : tensor<4xi32>, "
    ++ codes "dense<1> : tensor<4xi32>)\n"
