-- Each form of the language and each of its alternatives once, with what it becomes.
use Rattle.std.proofs.Common.{◌≡◌, ℕ, List, [], ◌∷◌, ◌++◌, refl, true, false}
use Rattle.std.specs.Prelude.{None, Some, codes, map, negsuc, pos}
use Rattle.sh_base.specs.declared.numbers.Cell.TheVariants.{Val}
use Rattle.sh_base.specs.declared.numbers.Width.{Width}
use Rattle.sh_base.specs.declared.numbers.Width.TheVariants.{I1, I8, I16, I32, I64}
use Rattle.sh_base.specs.declared.operations.BinOp.TheVariants as bin_op
use Rattle.sh_base.specs.declared.operations.CastOp.TheVariants as cast_op
use Rattle.sh_base.specs.declared.operations.Kind.{Kind}
use Rattle.sh_base.specs.declared.operations.Kind.TheVariants as kind
use Rattle.sh_base.specs.declared.operations.Predicate.TheVariants as predicate
use Rattle.sh_build.specs.Meaning.{made}
use Rattle.sh_build.specs.declared.parts.Part.TheVariants as part
use Rattle.sh_grammar.specs.Laid.{the_choices, the_rows}
use Rattle.sh_grammar.specs.Lexemes.{bangs, class_of, dims, first_class, former_bangs, former_words, hashes, signs, words}
use Rattle.sh_ir.specs.Parts.{op_of}
use Rattle.sh_ir.specs.declared.arith_ops.Contents.TheVariants.{Held}
use Rattle.sh_ir.specs.declared.bodies.Body.{Body}
use Rattle.sh_ir.specs.declared.bodies.BodyKind.TheVariants as body_kind
use Rattle.sh_ir.specs.declared.functions.Func.{Func}
use Rattle.sh_ir.specs.declared.linalg_ops.InsOuts.{InsOuts}
use Rattle.sh_ir.specs.declared.linalg_ops.IteratorType.TheVariants.{Reduction, Unknown}
use Rattle.sh_ir.specs.declared.modules.Module.{Module}
use Rattle.sh_ir.specs.declared.operations.Op.{Op}
use Rattle.sh_ir.specs.declared.operations.OpKind.{OpKind}
use Rattle.sh_ir.specs.declared.operations.OpKind.TheVariants as op_kind
use Rattle.sh_ir.specs.declared.shard_ops.GridAxes.{GridAxes}
use Rattle.sh_ir.specs.declared.types.Dim.{Dim}
use Rattle.sh_ir.specs.declared.types.Dim.TheVariants.{Differs, Known}
use Rattle.sh_ir.specs.declared.types.ValueType.{ValueType}
use Rattle.sh_ir.specs.declared.types.ValueType.TheVariants as value_type
use Rattle.sh_ir_tests.specs.Network.{on_line, place_of}
use Rattle.sh_lex.specs.Tokens.{is_blank, is_digit, is_letter, is_line_byte, is_name_byte, is_string_byte, is_value_byte}
use Rattle.sh_parse_tests.specs.Texts.{body_kinds_in, kinds_in, lines, part_of, the_table}

of_dims : List Dim → Width → ValueType
of_dims dims w = value_type.Tensor (record { dims = dims; width = w })

vector : ℕ → ValueType
vector n = value_type.Tensor (record { dims = Known n ∷ []; width = I32 })

matrix : ℕ → ℕ → ValueType
matrix m n = value_type.Tensor (record { dims = Known m ∷ Known n ∷ []; width = I32 })

scalar : Width → ValueType
scalar w = value_type.Scalar w

one_each : ValueType → ValueType → InsOuts
one_each ins outs = record { ins_count = 1; ins_types = ins ∷ []; outs_count = 1; outs_types = outs ∷ [] }

-- ## Tensors, and structured operations with attributes

tensor_text : List ℕ
tensor_text = lines (
    "func.func private @t(%a: tensor<4x8xi32>, %b: tensor<2x3xi32>, %c: tensor<6xi32>, %s: i32) {"
    ∷ "    %0 = tensor.empty() : tensor<?x4xi32>"
    ∷ "    %1 = tensor.extract_slice %a[0, 2] [4, 2] [1, 1] : tensor<4x8xi32> to tensor<4x2xi32>"
    ∷ "    %2 = tensor.insert_slice %b into %a[1, 0] [2, 3] [1, 2] : tensor<2x3xi32> into tensor<4x8xi32>"
    ∷ "    %3 = tensor.collapse_shape %b [[0, 1]] : tensor<2x3xi32> into tensor<6xi32>"
    ∷ "    %4 = tensor.expand_shape %c [[0, 1]] output_shape [2, 3] : tensor<6xi32> into tensor<2x3xi32>"
    ∷ "    %5 = linalg.transpose ins(%b : tensor<2x3xi32>) outs(%b : tensor<2x3xi32>) permutation = [1, 0]"
    ∷ "    %6 = linalg.broadcast ins(%c : tensor<6xi32>) outs(%a : tensor<4x8xi32>) dimensions = [0]"
    ∷ "    %7 = linalg.reduce { arith.addi } ins(%c : tensor<6xi32>) outs(%s : i32) dimensions = [0]"
    ∷ "    %8 = linalg.generic {indexing_maps = [affine_map<(i, j) -> (j, i)>], iterator_types = [\"reduction\", \"window\"]} outs(%b : tensor<2x3xi32>) {"
    ∷ "    ^bb0(%o: i32):"
    ∷ "      %i = linalg.index 1 : index"
    ∷ "      %w = arith.index_cast %i : index to i32"
    ∷ "      linalg.yield %w : i32"
    ∷ "    } -> tensor<2x3xi32>"
    ∷ "    return"
    ∷ "}" ∷ [])

-- the region of the short reduction: input, output and result are 12, 13 and 14
adding : Body
adding = record {
  args = 12 ∷ 13 ∷ [];
  widths = I32 ∷ I32 ∷ [];
  ops =
      record {
        kind = body_kind.Binary bin_op.Addi;
        operands = 13 ∷ 12 ∷ [];
        defines = 14;
        result = scalar I32;
        place = place_of 9 26;
      }
      ∷ [];
  yields = 14;
  width = I32;
  place = place_of 9 26;
}

-- the region that writes the index of a loop: its names are 16, 17 and 18
indexing : Body
indexing = record {
  args = 16 ∷ [];
  widths = I32 ∷ [];
  ops =
      record {
        kind = body_kind.Index (record { dimension = 1 });
        operands = [];
        defines = 17;
        result = value_type.Index;
        place = place_of 12 7;
      }
      ∷ record {
        kind = body_kind.IndexCast;
        operands = 17 ∷ [];
        defines = 18;
        result = scalar I32;
        place = place_of 13 7;
      }
      ∷ [];
  yields = 18;
  width = I32;
  place = place_of 14 7;
}

tensor_ops : List Op
tensor_ops =
    op_of op_kind.Empty [] (Some 4) (of_dims (Differs ∷ Known 4 ∷ []) I32) (on_line 2)
    ∷ op_of (op_kind.ExtractSlice (record {
      slice = record {
        offsets = pos 0 ∷ pos 2 ∷ [];
        sizes = pos 4 ∷ pos 2 ∷ [];
        strides = pos 1 ∷ pos 1 ∷ [];
      };
      source_type = matrix 4 8;
    })) (0 ∷ []) (Some 5) (matrix 4 2) (on_line 3)
    ∷ op_of (op_kind.InsertSlice (record {
      slice = record {
        offsets = pos 1 ∷ pos 0 ∷ [];
        sizes = pos 2 ∷ pos 3 ∷ [];
        strides = pos 1 ∷ pos 2 ∷ [];
      };
      source_type = matrix 2 3;
    })) (1 ∷ 0 ∷ []) (Some 6) (matrix 4 8) (on_line 4)
    ∷ op_of (op_kind.CollapseShape (record {
      reassociation = (pos 0 ∷ pos 1 ∷ []) ∷ [];
      source_type = matrix 2 3;
    })) (1 ∷ []) (Some 7) (vector 6) (on_line 5)
    ∷ op_of (op_kind.ExpandShape (record {
      reassociation = (pos 0 ∷ pos 1 ∷ []) ∷ [];
      output_shape = pos 2 ∷ pos 3 ∷ [];
      source_type = vector 6;
    })) (2 ∷ []) (Some 8) (matrix 2 3) (on_line 6)
    ∷ op_of (op_kind.Transpose (record {
      ins_outs = one_each (matrix 2 3) (matrix 2 3);
      permutation = pos 1 ∷ pos 0 ∷ [];
    })) (1 ∷ 1 ∷ []) (Some 9) (matrix 2 3) (on_line 7)
    ∷ op_of (op_kind.Broadcast (record {
      ins_outs = one_each (vector 6) (matrix 4 8);
      dimensions = pos 0 ∷ [];
    })) (2 ∷ 0 ∷ []) (Some 10) (matrix 4 8) (on_line 8)
    ∷ op_of (op_kind.Reduce (record {
      ins_outs = one_each (vector 6) (scalar I32);
      dimensions = pos 0 ∷ [];
      body = adding;
    })) (2 ∷ 3 ∷ []) (Some 11) (scalar I32) (on_line 9)
    ∷ op_of (op_kind.Generic (record {
      ins_outs = record { ins_count = 0; ins_types = []; outs_count = 1; outs_types = matrix 2 3 ∷ [] };
      indexing_maps = record { loops = 0 ∷ 1 ∷ []; results = 1 ∷ 0 ∷ [] } ∷ [];
      iterator_types = Reduction ∷ Unknown ∷ [];
      body = indexing;
    })) (1 ∷ []) (Some 15) (matrix 2 3) (on_line 10)
    ∷ op_of (op_kind.Return (record { operand_types = [] })) [] None value_type.Nothing (on_line 16)
    ∷ []

tensor_func : Func
tensor_func = record {
  name = codes "t";
  private = true;
  args =
      record { id = 0; value_type = matrix 4 8 }
      ∷ record { id = 1; value_type = matrix 2 3 }
      ∷ record { id = 2; value_type = vector 6 }
      ∷ record { id = 3; value_type = scalar I32 }
      ∷ [];
  results = [];
  ops = tensor_ops;
  carry = None;
  place = place_of 1 1;
}

tensors_read : part_of tensor_text ≡ part.Module (record { name = None; grids = []; funcs = tensor_func ∷ []; calls = [] })
unfolding tensor_text of_dims vector matrix scalar one_each adding indexing tensor_ops tensor_func made the_table the_choices the_rows class_of first_class words signs dims bangs hashes former_words former_bangs is_blank is_letter is_digit is_name_byte is_value_byte is_string_byte is_line_byte
tensors_read = refl

-- ## Devices and collectives

device_text : List ℕ
device_text = lines (
    "module @m {"
    ∷ "  shard.grid @g(shape = 2x3)"
    ∷ "  shardrun.device @f on @g(tensor<4xi32> split_axes = [[0]] halo_sizes = [1, 1], i8 split_axes = []) -> (tensor<5xi32> split_axes = [[0, 1]] sharded_dims_offsets = [0, 2, 5])"
    ∷ "  func.func public @f(%a: tensor<2xi32>, %b: i8) -> (tensor<4xi32>, tensor<2xi32>) {"
    ∷ "    %0 = shard.all_gather %a on @g grid_axes = [0] gather_axis = 0 : tensor<2xi32> -> tensor<4xi32>"
    ∷ "    %1 = shard.all_slice %0 on @g slice_axis = 1 : tensor<4xi32> -> tensor<2xi32>"
    ∷ "    %2 = shard.all_reduce %a on @g grid_axes = [0, 1] reduction = <max> : tensor<2xi32> -> tensor<2xi32>"
    ∷ "    %3 = shard.all_reduce %a on @g : tensor<2xi32> -> tensor<2xi32>"
    ∷ "    %4 = shard.reduce_scatter %0 on @g reduction = bitwise_or scatter_axis = 0 : tensor<4xi32> -> tensor<2xi32>"
    ∷ "    %5 = shard.all_to_all %a on @g grid_axes = [1] split_axis = 0 concat_axis = 1 : tensor<2xi32> -> tensor<2xi32>"
    ∷ "    %6 = shard.shift %a on @g grid_axes = [0] shift_axis = 0 offset = -1 rotate : tensor<2xi32> -> tensor<2xi32>"
    ∷ "    %7 = shard.shift %a on @g grid_axes = [0] shift_axis = 0 offset = 1 : tensor<2xi32> -> tensor<2xi32>"
    ∷ "    %8 = shard.update_halo %a on @g split_axes = [[0], []] halo_sizes = [1, 1] : tensor<2xi32>"
    ∷ "    %9 = shardrun.take %a on @g grid_axes = [0] axis = 0 starts = [0, 1] sizes = [1, 1] : tensor<2xi32> -> tensor<?xi32>"
    ∷ "    %10 = shardrun.pad %a low = [1] high = [2] : tensor<2xi32> -> tensor<5xi32>"
    ∷ "    %11 = shardrun.join %a, %a axis = 0 : tensor<2xi32>, tensor<2xi32> -> tensor<4xi32>"
    ∷ "    func.return %0, %a : tensor<4xi32>, tensor<2xi32>"
    ∷ "  }"
    ∷ "}" ∷ [])

along : List ℕ → GridAxes
along axes = record { grid = codes "g"; grid_axes = map pos axes }

device_ops : List Op
device_ops =
    op_of (op_kind.AllGather (record { on = along (0 ∷ []); gather_axis = 0; operand_type = vector 2 }))
    (0 ∷ []) (Some 2) (vector 4) (on_line 5)
    ∷ op_of (op_kind.AllSlice (record { on = along []; slice_axis = 1; operand_type = vector 4 }))
    (2 ∷ []) (Some 3) (vector 2) (on_line 6)
    ∷ op_of (op_kind.AllReduce (record { on = along (0 ∷ 1 ∷ []); reduction = kind.Max; operand_type = vector 2 }))
    (0 ∷ []) (Some 4) (vector 2) (on_line 7)
    ∷ op_of (op_kind.AllReduce (record { on = along []; reduction = kind.Sum; operand_type = vector 2 }))
    (0 ∷ []) (Some 5) (vector 2) (on_line 8)
    ∷ op_of (op_kind.ReduceScatter (record {
      on = along [];
      reduction = kind.Or;
      scatter_axis = 0;
      operand_type = vector 4;
    })) (2 ∷ []) (Some 6) (vector 2) (on_line 9)
    ∷ op_of (op_kind.AllToAll (record {
      on = along (1 ∷ []);
      split_axis = 0;
      concat_axis = 1;
      operand_type = vector 2;
    })) (0 ∷ []) (Some 7) (vector 2) (on_line 10)
    ∷ op_of (op_kind.Shift (record {
      on = along (0 ∷ []);
      shift_axis = 0;
      offset = negsuc 0;
      rotate = true;
      operand_type = vector 2;
    })) (0 ∷ []) (Some 8) (vector 2) (on_line 11)
    ∷ op_of (op_kind.Shift (record {
      on = along (0 ∷ []);
      shift_axis = 0;
      offset = pos 1;
      rotate = false;
      operand_type = vector 2;
    })) (0 ∷ []) (Some 9) (vector 2) (on_line 12)
    ∷ op_of (op_kind.UpdateHalo (record {
      grid = codes "g";
      split_axes = (pos 0 ∷ []) ∷ [] ∷ [];
      halo_sizes = pos 1 ∷ pos 1 ∷ [];
    })) (0 ∷ []) (Some 10) (vector 2) (on_line 13)
    ∷ op_of (op_kind.Take (record {
      on = along (0 ∷ []);
      axis = 0;
      starts = pos 0 ∷ pos 1 ∷ [];
      sizes = pos 1 ∷ pos 1 ∷ [];
      operand_type = vector 2;
    })) (0 ∷ []) (Some 11) (of_dims (Differs ∷ []) I32) (on_line 14)
    ∷ op_of (op_kind.Pad (record { low = pos 1 ∷ []; high = pos 2 ∷ []; operand_type = vector 2 }))
    (0 ∷ []) (Some 12) (vector 5) (on_line 15)
    ∷ op_of (op_kind.Join (record { axis = 0; operand_types = vector 2 ∷ vector 2 ∷ [] }))
    (0 ∷ 0 ∷ []) (Some 13) (vector 4) (on_line 16)
    ∷ op_of (op_kind.Return (record { operand_types = vector 4 ∷ vector 2 ∷ [] }))
    (2 ∷ 0 ∷ []) None value_type.Nothing (on_line 17)
    ∷ []

device_func : Func
device_func = record {
  name = codes "f";
  private = false;
  args = record { id = 0; value_type = vector 2 } ∷ record { id = 1; value_type = scalar I8 } ∷ [];
  results = vector 4 ∷ vector 2 ∷ [];
  ops = device_ops;
  carry = Some (record {
    grid = codes "g";
    args =
        record {
          whole = vector 4;
          sharding = record { grid = codes "g"; split = (pos 0 ∷ []) ∷ []; halos = pos 1 ∷ pos 1 ∷ []; offsets = [] };
        }
        ∷ record { whole = scalar I8; sharding = record { grid = codes "g"; split = []; halos = []; offsets = [] } }
        ∷ [];
    results =
        record {
          whole = vector 5;
          sharding = record {
            grid = codes "g";
            split = (pos 0 ∷ pos 1 ∷ []) ∷ [];
            halos = [];
            offsets = pos 0 ∷ pos 2 ∷ pos 5 ∷ [];
          };
        }
        ∷ [];
  });
  place = place_of 3 3;
}

device_module : Module
device_module = record {
  name = Some (codes "m");
  grids = record { name = codes "g"; extents = pos 2 ∷ pos 3 ∷ []; place = place_of 2 3 } ∷ [];
  funcs = device_func ∷ [];
  calls = [];
}

devices_read : part_of device_text ≡ part.Module device_module
unfolding device_text of_dims vector matrix scalar along device_ops device_func device_module made the_table the_choices the_rows class_of first_class words signs dims bangs hashes former_words former_bangs is_blank is_letter is_digit is_name_byte is_value_byte is_string_byte is_line_byte
devices_read = refl

-- ## Calls, notes, and operations that regions have too

call_text : List ℕ
call_text = lines (
    "func.func @c(%a: tensor<4xi32>, %p: i1, %t: tensor<4xi1>) -> tensor<4xi32> {"
    ∷ "    %0 = call @c(%a, %p, %t) : (tensor<4xi32>, i1, tensor<4xi1>) -> tensor<4xi32>"
    ∷ "    %1 = func.call @c() : () -> i32"
    ∷ "    %s = shard.sharding @g split_axes = [[0]] halo_sizes = [1, 1] sharded_dims_offsets = [0, 4] : !shard.sharding"
    ∷ "    %2 = shard.shard %a to %s annotate_for_users : tensor<4xi32>"
    ∷ "    %3 = arith.select %p, %a, %a : tensor<4xi32>"
    ∷ "    %4 = arith.select %t, %a, %a : tensor<4xi1>, tensor<4xi32>"
    ∷ "    %5 = arith.cmpi slt, %a, %a : tensor<4xi32>"
    ∷ "    %6 = arith.extsi %a : tensor<4xi32> to tensor<4xi64>"
    ∷ "    %c-1_i32 = arith.constant -1 : i32"
    ∷ "    %7 = linalg.reduce ins(%a : tensor<4xi32>) outs(%1 : i32) dimensions = [0] (%in: i32, %out: i32) {"
    ∷ "      %b = arith.constant true"
    ∷ "      %m = arith.select %b, %in, %out : i32"
    ∷ "      linalg.yield %m : i32"
    ∷ "    }"
    ∷ "    return %0 : tensor<4xi32>"
    ∷ "}"
    ∷ "shardrun.call @c()" ∷ [])

-- the region that takes the input: its names are 13, 14, 15 and 16
choosing : Body
choosing = record {
  args = 13 ∷ 14 ∷ [];
  widths = I32 ∷ I32 ∷ [];
  ops =
      record {
        kind = body_kind.Constant (record { value_type = scalar I1; contents = Held (Val 1 ∷ []) });
        operands = [];
        defines = 15;
        result = scalar I1;
        place = place_of 12 7;
      }
      ∷ record {
        kind = body_kind.Select (record { condition_type = scalar I1 });
        operands = 15 ∷ 13 ∷ 14 ∷ [];
        defines = 16;
        result = scalar I32;
        place = place_of 13 7;
      }
      ∷ [];
  yields = 16;
  width = I32;
  place = place_of 14 7;
}

bits : ValueType
bits = of_dims (Known 4 ∷ []) I1

call_ops : List Op
call_ops =
    op_of (op_kind.Call (record { callee = codes "c"; operand_types = vector 4 ∷ scalar I1 ∷ bits ∷ [] }))
    (0 ∷ 1 ∷ 2 ∷ []) (Some 3) (vector 4) (on_line 2)
    ∷ op_of (op_kind.Call (record { callee = codes "c"; operand_types = [] })) [] (Some 4) (scalar I32) (on_line 3)
    ∷ op_of (op_kind.Sharding (record {
      grid = codes "g";
      split = (pos 0 ∷ []) ∷ [];
      halos = pos 1 ∷ pos 1 ∷ [];
      offsets = pos 0 ∷ pos 4 ∷ [];
    })) [] (Some 5) value_type.Sharding (on_line 4)
    ∷ op_of (op_kind.Shard (record { annotate_for_users = true })) (0 ∷ 5 ∷ []) (Some 6) (vector 4) (on_line 5)
    ∷ op_of (op_kind.Select (record { condition_type = scalar I1 })) (1 ∷ 0 ∷ 0 ∷ []) (Some 7) (vector 4) (on_line 6)
    ∷ op_of (op_kind.Select (record { condition_type = bits })) (2 ∷ 0 ∷ 0 ∷ []) (Some 8) (vector 4) (on_line 7)
    ∷ op_of (op_kind.Compare (record { predicate = predicate.Slt; operand_type = vector 4 }))
    (0 ∷ 0 ∷ []) (Some 9) bits (on_line 8)
    ∷ op_of (op_kind.Cast (record { op = cast_op.Extsi; operand_type = vector 4 }))
    (0 ∷ []) (Some 10) (of_dims (Known 4 ∷ []) I64) (on_line 9)
    ∷ op_of (op_kind.Constant (record { value_type = scalar I32; contents = Held (Val 4294967295 ∷ []) }))
    [] (Some 11) (scalar I32) (on_line 10)
    ∷ op_of (op_kind.Reduce (record {
      ins_outs = one_each (vector 4) (scalar I32);
      dimensions = pos 0 ∷ [];
      body = choosing;
    })) (0 ∷ 4 ∷ []) (Some 12) (scalar I32) (on_line 11)
    ∷ op_of (op_kind.Return (record { operand_types = vector 4 ∷ [] })) (3 ∷ []) None value_type.Nothing (on_line 16)
    ∷ []

call_module : Module
call_module = record {
  name = None;
  grids = [];
  funcs =
      record {
        name = codes "c";
        private = false;
        args =
            record { id = 0; value_type = vector 4 }
            ∷ record { id = 1; value_type = scalar I1 }
            ∷ record { id = 2; value_type = bits }
            ∷ [];
        results = vector 4 ∷ [];
        ops = call_ops;
        carry = None;
        place = place_of 1 1;
      }
      ∷ [];
  calls = record { callee = codes "c"; args = []; place = place_of 18 1 } ∷ [];
}

calls_read : part_of call_text ≡ part.Module call_module
unfolding call_text of_dims vector scalar one_each bits choosing call_ops call_module made the_table the_choices the_rows class_of first_class words signs dims bangs hashes former_words former_bangs is_blank is_letter is_digit is_name_byte is_value_byte is_string_byte is_line_byte
calls_read = refl

-- ## Words, one by one

word_text : List ℕ
word_text = lines (
    "func.func @w(%a: i1, %b: i8, %c: i16, %d: i32, %e: i64) {"
    ∷ "  %b0 = arith.addi %d, %d : i32"
    ∷ "  %b1 = arith.subi %d, %d : i32"
    ∷ "  %b2 = arith.muli %d, %d : i32"
    ∷ "  %b3 = arith.andi %d, %d : i32"
    ∷ "  %b4 = arith.ori %d, %d : i32"
    ∷ "  %b5 = arith.xori %d, %d : i32"
    ∷ "  %b6 = arith.maxsi %d, %d : i32"
    ∷ "  %b7 = arith.minsi %d, %d : i32"
    ∷ "  %b8 = arith.maxui %d, %d : i32"
    ∷ "  %b9 = arith.minui %d, %d : i32"
    ∷ "  %b10 = arith.divui %d, %d : i32"
    ∷ "  %b11 = arith.remui %d, %d : i32"
    ∷ "  %b12 = arith.divsi %d, %d : i32"
    ∷ "  %b13 = arith.remsi %d, %d : i32"
    ∷ "  %b14 = arith.shli %d, %d : i32"
    ∷ "  %b15 = arith.shrui %d, %d : i32"
    ∷ "  %b16 = arith.shrsi %d, %d : i32"
    ∷ "  %p0 = arith.cmpi eq, %d, %d : i32"
    ∷ "  %p1 = arith.cmpi ne, %d, %d : i32"
    ∷ "  %p2 = arith.cmpi slt, %d, %d : i32"
    ∷ "  %p3 = arith.cmpi sle, %d, %d : i32"
    ∷ "  %p4 = arith.cmpi sgt, %d, %d : i32"
    ∷ "  %p5 = arith.cmpi sge, %d, %d : i32"
    ∷ "  %p6 = arith.cmpi ult, %d, %d : i32"
    ∷ "  %p7 = arith.cmpi ule, %d, %d : i32"
    ∷ "  %p8 = arith.cmpi ugt, %d, %d : i32"
    ∷ "  %p9 = arith.cmpi uge, %d, %d : i32"
    ∷ "  %c0 = arith.extsi %d : i32 to i8"
    ∷ "  %c1 = arith.extui %d : i32 to i8"
    ∷ "  %c2 = arith.trunci %d : i32 to i8"
    ∷ "  return"
    ∷ "}" ∷ [])

word_kinds : List OpKind
word_kinds =
    op_kind.Binary bin_op.Addi
    ∷ op_kind.Binary bin_op.Subi
    ∷ op_kind.Binary bin_op.Muli
    ∷ op_kind.Binary bin_op.Andi
    ∷ op_kind.Binary bin_op.Ori
    ∷ op_kind.Binary bin_op.Xori
    ∷ op_kind.Binary bin_op.Maxsi
    ∷ op_kind.Binary bin_op.Minsi
    ∷ op_kind.Binary bin_op.Maxui
    ∷ op_kind.Binary bin_op.Minui
    ∷ op_kind.Binary bin_op.Divui
    ∷ op_kind.Binary bin_op.Remui
    ∷ op_kind.Binary bin_op.Divsi
    ∷ op_kind.Binary bin_op.Remsi
    ∷ op_kind.Binary bin_op.Shli
    ∷ op_kind.Binary bin_op.Shrui
    ∷ op_kind.Binary bin_op.Shrsi ∷ []

comparing : List OpKind
comparing =
    op_kind.Compare (record { predicate = predicate.Eq; operand_type = scalar I32 })
    ∷ op_kind.Compare (record { predicate = predicate.Ne; operand_type = scalar I32 })
    ∷ op_kind.Compare (record { predicate = predicate.Slt; operand_type = scalar I32 })
    ∷ op_kind.Compare (record { predicate = predicate.Sle; operand_type = scalar I32 })
    ∷ op_kind.Compare (record { predicate = predicate.Sgt; operand_type = scalar I32 })
    ∷ op_kind.Compare (record { predicate = predicate.Sge; operand_type = scalar I32 })
    ∷ op_kind.Compare (record { predicate = predicate.Ult; operand_type = scalar I32 })
    ∷ op_kind.Compare (record { predicate = predicate.Ule; operand_type = scalar I32 })
    ∷ op_kind.Compare (record { predicate = predicate.Ugt; operand_type = scalar I32 })
    ∷ op_kind.Compare (record { predicate = predicate.Uge; operand_type = scalar I32 }) ∷ []

casting : List OpKind
casting =
    op_kind.Cast (record { op = cast_op.Extsi; operand_type = scalar I32 })
    ∷ op_kind.Cast (record { op = cast_op.Extui; operand_type = scalar I32 })
    ∷ op_kind.Cast (record { op = cast_op.Trunci; operand_type = scalar I32 }) ∷ []

words_read : kinds_in (part_of word_text) ≡ word_kinds ++ comparing ++ casting ++ op_kind.Return (record { operand_types = [] }) ∷ []
unfolding word_text scalar word_kinds comparing casting made the_table the_choices the_rows class_of first_class words signs dims bangs hashes former_words former_bangs is_blank is_letter is_digit is_name_byte is_value_byte is_string_byte is_line_byte
words_read = refl

name_text : List ℕ
name_text = lines (
    "func.func @k(%a: i8, %b: i16) {"
    ∷ "  %s0 = linalg.fill ins(%a : i8) outs(%b : i16) -> i64"
    ∷ "  %s1 = linalg.matmul ins(%a : i8) outs(%b : i16) -> i64"
    ∷ "  %s2 = linalg.batch_matmul ins(%a : i8) outs(%b : i16) -> i64"
    ∷ "  %s3 = linalg.matvec ins(%a : i8) outs(%b : i16) -> i64"
    ∷ "  %s4 = linalg.vecmat ins(%a : i8) outs(%b : i16) -> i64"
    ∷ "  %s5 = linalg.dot ins(%a : i8) outs(%b : i16) -> i64"
    ∷ "  %s6 = linalg.conv_1d ins(%a : i8) outs(%b : i16) -> i64"
    ∷ "  %s7 = linalg.conv_2d ins(%a : i8) outs(%b : i16) -> i64"
    ∷ "  %k0 = shard.all_reduce %a on @g reduction = <sum> : i8 -> i8"
    ∷ "  %k1 = shard.all_reduce %a on @g reduction = product : i8 -> i8"
    ∷ "  %k2 = shard.all_reduce %a on @g reduction = <max> : i8 -> i8"
    ∷ "  %k3 = shard.all_reduce %a on @g reduction = min : i8 -> i8"
    ∷ "  %k4 = shard.all_reduce %a on @g reduction = <bitwise_and> : i8 -> i8"
    ∷ "  %k5 = shard.all_reduce %a on @g reduction = bitwise_or : i8 -> i8"
    ∷ "  %k6 = shard.all_reduce %a on @g reduction = <bitwise_xor> : i8 -> i8"
    ∷ "  return"
    ∷ "}" ∷ [])

structured_kinds : List OpKind
structured_kinds =
    op_kind.Fill (one_each (scalar I8) (scalar I16))
    ∷ op_kind.Matmul (one_each (scalar I8) (scalar I16))
    ∷ op_kind.BatchMatmul (one_each (scalar I8) (scalar I16))
    ∷ op_kind.Matvec (one_each (scalar I8) (scalar I16))
    ∷ op_kind.Vecmat (one_each (scalar I8) (scalar I16))
    ∷ op_kind.Dot (one_each (scalar I8) (scalar I16))
    ∷ op_kind.Conv1d (one_each (scalar I8) (scalar I16))
    ∷ op_kind.Conv2d (one_each (scalar I8) (scalar I16)) ∷ []

reducing_by : Kind → OpKind
reducing_by k = op_kind.AllReduce (record {
  on = record { grid = codes "g"; grid_axes = [] };
  reduction = k;
  operand_type = scalar I8;
})

reductions : List OpKind
reductions =
    reducing_by kind.Sum
    ∷ reducing_by kind.Product
    ∷ reducing_by kind.Max
    ∷ reducing_by kind.Min
    ∷ reducing_by kind.And
    ∷ reducing_by kind.Or
    ∷ reducing_by kind.Xor ∷ []

names_read : kinds_in (part_of name_text) ≡ structured_kinds ++ reductions ++ op_kind.Return (record { operand_types = [] }) ∷ []
unfolding name_text scalar one_each structured_kinds reducing_by reductions made the_table the_choices the_rows class_of first_class words signs dims bangs hashes former_words former_bangs is_blank is_letter is_digit is_name_byte is_value_byte is_string_byte is_line_byte
names_read = refl

-- ## Combiners

combiner_text : List ℕ
combiner_text = lines (
    "func.func @r(%a: tensor<4xi8>, %b: tensor<i8>) {"
    ∷ "  %r0 = linalg.reduce { arith.addi } ins(%a : tensor<4xi8>) outs(%b : tensor<i8>) dimensions = [0]"
    ∷ "  %r1 = linalg.reduce { arith.muli } ins(%a : tensor<4xi8>) outs(%b : tensor<i8>) dimensions = [0]"
    ∷ "  %r2 = linalg.reduce { arith.maxsi } ins(%a : tensor<4xi8>) outs(%b : tensor<i8>) dimensions = [0]"
    ∷ "  %r3 = linalg.reduce { arith.minsi } ins(%a : tensor<4xi8>) outs(%b : tensor<i8>) dimensions = [0]"
    ∷ "  %r4 = linalg.reduce { arith.maxui } ins(%a : tensor<4xi8>) outs(%b : tensor<i8>) dimensions = [0]"
    ∷ "  %r5 = linalg.reduce { arith.minui } ins(%a : tensor<4xi8>) outs(%b : tensor<i8>) dimensions = [0]"
    ∷ "  %r6 = linalg.reduce { arith.andi } ins(%a : tensor<4xi8>) outs(%b : tensor<i8>) dimensions = [0]"
    ∷ "  %r7 = linalg.reduce { arith.ori } ins(%a : tensor<4xi8>) outs(%b : tensor<i8>) dimensions = [0]"
    ∷ "  %r8 = linalg.reduce { arith.xori } ins(%a : tensor<4xi8>) outs(%b : tensor<i8>) dimensions = [0]"
    ∷ "  return"
    ∷ "}" ∷ [])

flagged_text : List ℕ
flagged_text = lines (
    "func.func @r(%a: tensor<4xi8>, %b: tensor<i8>) {"
    ∷ "  %r0 = linalg.reduce { arith.addi {overflowFlags = #arith.overflow<none>} } ins(%a : tensor<4xi8>) outs(%b : tensor<i8>) dimensions = [0]"
    ∷ "  %r1 = linalg.reduce { arith.muli } ins(%a : tensor<4xi8>) outs(%b : tensor<i8>) dimensions = [0]"
    ∷ "  %r2 = linalg.reduce { arith.maxsi } ins(%a : tensor<4xi8>) outs(%b : tensor<i8>) dimensions = [0]"
    ∷ "  %r3 = linalg.reduce { arith.minsi } ins(%a : tensor<4xi8>) outs(%b : tensor<i8>) dimensions = [0]"
    ∷ "  %r4 = linalg.reduce { arith.maxui } ins(%a : tensor<4xi8>) outs(%b : tensor<i8>) dimensions = [0]"
    ∷ "  %r5 = linalg.reduce { arith.minui } ins(%a : tensor<4xi8>) outs(%b : tensor<i8>) dimensions = [0]"
    ∷ "  %r6 = linalg.reduce { arith.andi } ins(%a : tensor<4xi8>) outs(%b : tensor<i8>) dimensions = [0]"
    ∷ "  %r7 = linalg.reduce { arith.ori } ins(%a : tensor<4xi8>) outs(%b : tensor<i8>) dimensions = [0]"
    ∷ "  %r8 = linalg.reduce { arith.xori } ins(%a : tensor<4xi8>) outs(%b : tensor<i8>) dimensions = [0]"
    ∷ "  return"
    ∷ "}" ∷ [])

combiners_read : body_kinds_in (part_of combiner_text) ≡ map body_kind.Binary (
    bin_op.Addi
    ∷ bin_op.Muli
    ∷ bin_op.Maxsi
    ∷ bin_op.Minsi
    ∷ bin_op.Maxui
    ∷ bin_op.Minui
    ∷ bin_op.Andi
    ∷ bin_op.Ori
    ∷ bin_op.Xori ∷ [])
unfolding combiner_text made the_table the_choices the_rows class_of first_class words signs dims bangs hashes former_words former_bangs is_blank is_letter is_digit is_name_byte is_value_byte is_string_byte is_line_byte
combiners_read = refl

-- no flag of overflow means nothing
flag_means_nothing : part_of flagged_text ≡ part_of combiner_text
unfolding flagged_text combiner_text made the_table the_choices the_rows class_of first_class words signs dims bangs hashes former_words former_bangs is_blank is_letter is_digit is_name_byte is_value_byte is_string_byte is_line_byte
flag_means_nothing = refl

-- ## Words of the language as names

-- In a map a former spelling and the present one are two words, and an alias may have any name.
map_text : List ℕ
map_text = lines (
    "#arith.overflow = affine_map<(mesh.mesh, shard.grid) -> (shard.grid, mesh.mesh, tensor)>"
    ∷ "func.func @h(%o: tensor<i32>) {"
    ∷ "  %0 = arith.constant dense<[true, false]> : tensor<2xi1>"
    ∷ "  %1 = linalg.generic {indexing_maps = [#arith.overflow, affine_map<() -> ()>], iterator_types = []} outs(%o : tensor<i32>) {"
    ∷ "  ^bb0(%a: i32):"
    ∷ "    linalg.yield %a : i32"
    ∷ "  } -> tensor<i32>"
    ∷ "  %2 = linalg.generic {indexing_maps = [], iterator_types = []} outs(%o : tensor<i32>) {"
    ∷ "  ^bb0():"
    ∷ "    linalg.yield %0 : i32"
    ∷ "  } -> tensor<i32>"
    ∷ "  return"
    ∷ "}" ∷ [])

point : ValueType
point = of_dims [] I32

map_kinds : List OpKind
map_kinds =
    op_kind.Constant (record { value_type = of_dims (Known 2 ∷ []) I1; contents = Held (Val 1 ∷ Val 0 ∷ []) })
    ∷ op_kind.Generic (record {
      ins_outs = record { ins_count = 0; ins_types = []; outs_count = 1; outs_types = point ∷ [] };
      indexing_maps =
          record { loops = 0 ∷ 1 ∷ []; results = 1 ∷ 0 ∷ 2 ∷ [] } ∷ record { loops = []; results = [] } ∷ [];
      iterator_types = [];
      body = record {
        args = 3 ∷ [];
        widths = I32 ∷ [];
        ops = [];
        yields = 3;
        width = I32;
        place = place_of 6 5;
      };
    })
    ∷ op_kind.Generic (record {
      ins_outs = record { ins_count = 0; ins_types = []; outs_count = 1; outs_types = point ∷ [] };
      indexing_maps = [];
      iterator_types = [];
      body = record { args = []; widths = []; ops = []; yields = 1; width = I32; place = place_of 10 5 };
    })
    ∷ op_kind.Return (record { operand_types = [] })
    ∷ []

maps_read : kinds_in (part_of map_text) ≡ map_kinds
unfolding map_text of_dims point map_kinds made the_table the_choices the_rows class_of first_class words signs dims bangs hashes former_words former_bangs is_blank is_letter is_digit is_name_byte is_value_byte is_string_byte is_line_byte
maps_read = refl
