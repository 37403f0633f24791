-- The two worked modules, by computation.
use Rattle.std.proofs.Common.{◌≡◌, ℕ, List, [], ◌∷◌, refl, false}
use Rattle.std.specs.Prelude.{pos, None, Some, codes}
use Rattle.sh_base.specs.declared.numbers.Cell.TheVariants.{Val}
use Rattle.sh_base.specs.declared.numbers.Width.TheVariants.{I32}
use Rattle.sh_base.specs.declared.operations.BinOp.TheVariants.{Addi}
use Rattle.sh_grammar.specs.Laid.{the_choices, the_rows}
use Rattle.sh_grammar.specs.Lexemes.{bangs, class_of, dims, first_class, former_bangs, former_words, hashes, signs, words}
use Rattle.sh_ir.specs.Parts.{op_of}
use Rattle.sh_ir.specs.declared.arith_ops.Contents.TheVariants.{Held}
use Rattle.sh_ir.specs.declared.functions.Func.{Func}
use Rattle.sh_ir.specs.declared.modules.CallItem.{CallItem}
use Rattle.sh_ir.specs.declared.modules.Module.{Module}
use Rattle.sh_ir.specs.declared.operations.OpKind.TheVariants as op_kind
use Rattle.sh_ir.specs.declared.types.Dim.TheVariants.{Known}
use Rattle.sh_ir.specs.declared.types.ValueType.{ValueType}
use Rattle.sh_ir.specs.declared.types.ValueType.TheVariants as value_type
use Rattle.sh_ir_tests.specs.Network.{filled, note_op, on_line, place_of, sharding_op, the_network}
use Rattle.sh_lex.specs.Tokens.{is_blank, is_digit, is_letter, is_line_byte, is_name_byte, is_string_byte, is_value_byte}
use Rattle.sh_build.specs.Meaning.{made}
use Rattle.sh_build.specs.declared.parts.Part.TheVariants as part
use Rattle.sh_parse_tests.specs.Texts.{lines, part_of, the_table}

-- ## A sum of two vectors

sum_text : List ℕ
sum_text = lines (
    "module {"
    ∷ "  shard.grid @g(shape = 2)"
    ∷ "  func.func @f(%a: tensor<4xi32>, %b: tensor<4xi32>) -> tensor<4xi32> {"
    ∷ "    %s = shard.sharding @g split_axes = [[0]] : !shard.sharding"
    ∷ "    %a1 = shard.shard %a to %s : tensor<4xi32>"
    ∷ "    %b1 = shard.shard %b to %s : tensor<4xi32>"
    ∷ "    %c = arith.addi %a1, %b1 : tensor<4xi32>"
    ∷ "    %c1 = shard.shard %c to %s : tensor<4xi32>"
    ∷ "    return %c1 : tensor<4xi32>"
    ∷ "  }"
    ∷ "  shardrun.call @f(dense<[2147483647, 1, 2, 3]> : tensor<4xi32>, dense<1> : tensor<4xi32>)"
    ∷ "}" ∷ [])

four : ValueType
four = value_type.Tensor (record { dims = Known 4 ∷ []; width = I32 })

-- the values are %a, %b, %s, %a1, %b1, %c and %c1, in this order
sum : Func
sum = record {
  name = codes "f";
  private = false;
  args = record { id = 0; value_type = four } ∷ record { id = 1; value_type = four } ∷ [];
  results = four ∷ [];
  ops =
      sharding_op 4 2 ((pos 0 ∷ []) ∷ [])
      ∷ note_op 5 3 0 2 four
      ∷ note_op 6 4 1 2 four
      ∷ op_of (op_kind.Binary Addi) (3 ∷ 4 ∷ []) (Some 5) four (on_line 7)
      ∷ note_op 8 6 5 2 four
      ∷ op_of (op_kind.Return (record { operand_types = four ∷ [] })) (6 ∷ []) None value_type.Nothing (on_line 9)
      ∷ [];
  carry = None;
  place = place_of 3 3;
}

sum_call : CallItem
sum_call = record {
  callee = codes "f";
  args =
      record { value_type = four; contents = Held (Val 2147483647 ∷ Val 1 ∷ Val 2 ∷ Val 3 ∷ []) }
      ∷ filled four 1
      ∷ [];
  place = place_of 11 3;
}

sum_module : Module
sum_module = record {
  name = None;
  grids = record { name = codes "g"; extents = pos 2 ∷ []; place = place_of 2 3 } ∷ [];
  funcs = sum ∷ [];
  calls = sum_call ∷ [];
}

sum_is_read : part_of sum_text ≡ part.Module sum_module
unfolding sum_text four sum sum_call sum_module made the_table the_choices the_rows class_of first_class words signs dims bangs hashes former_words former_bangs is_blank is_letter is_digit is_name_byte is_value_byte is_string_byte is_line_byte
sum_is_read = refl

-- ## Two layers of a network

network_text : List ℕ
network_text = lines (
    "#map = affine_map<(d0, d1) -> (d0, d1)>"
    ∷ "module {"
    ∷ "  shard.grid @g(shape = 2x2)"
    ∷ "  func.func @net(%arg0: tensor<16x32xi32>, %arg1: tensor<32x32xi8>, %arg2: tensor<32x8xi8>) -> tensor<16x8xi32> {"
    ∷ "    %s0 = shard.sharding @g split_axes = [[0]] : !shard.sharding"
    ∷ "    %s1 = shard.sharding @g split_axes = [[], [1]] : !shard.sharding"
    ∷ "    %s2 = shard.sharding @g split_axes = [[1]] : !shard.sharding"
    ∷ "    %x = shard.shard %arg0 to %s0 : tensor<16x32xi32>"
    ∷ "    %u = shard.shard %arg1 to %s1 : tensor<32x32xi8>"
    ∷ "    %v = shard.shard %arg2 to %s2 : tensor<32x8xi8>"
    ∷ "    %c0_i32 = arith.constant 0 : i32"
    ∷ "    %0 = tensor.empty() : tensor<16x32xi32>"
    ∷ "    %1 = linalg.fill ins(%c0_i32 : i32) outs(%0 : tensor<16x32xi32>) -> tensor<16x32xi32>"
    ∷ "    %2 = linalg.matmul ins(%x, %u : tensor<16x32xi32>, tensor<32x32xi8>) outs(%1 : tensor<16x32xi32>) -> tensor<16x32xi32>"
    ∷ "    %3 = linalg.generic {indexing_maps = [#map, #map], iterator_types = [\"parallel\", \"parallel\"]} ins(%2 : tensor<16x32xi32>) outs(%0 : tensor<16x32xi32>) {"
    ∷ "    ^bb0(%in: i32, %out: i32):"
    ∷ "      %7 = arith.maxsi %in, %c0_i32 : i32"
    ∷ "      linalg.yield %7 : i32"
    ∷ "    } -> tensor<16x32xi32>"
    ∷ "    %4 = tensor.empty() : tensor<16x8xi32>"
    ∷ "    %5 = linalg.fill ins(%c0_i32 : i32) outs(%4 : tensor<16x8xi32>) -> tensor<16x8xi32>"
    ∷ "    %6 = linalg.matmul ins(%3, %v : tensor<16x32xi32>, tensor<32x8xi8>) outs(%5 : tensor<16x8xi32>) -> tensor<16x8xi32>"
    ∷ "    return %6 : tensor<16x8xi32>"
    ∷ "  }"
    ∷ "  shardrun.call @net(dense<1> : tensor<16x32xi32>, dense<1> : tensor<32x32xi8>, dense<-1> : tensor<32x8xi8>)"
    ∷ "}" ∷ [])

network_is_read : part_of network_text ≡ part.Module the_network
unfolding network_text made the_table the_choices the_rows class_of first_class words signs dims bangs hashes former_words former_bangs is_blank is_letter is_digit is_name_byte is_value_byte is_string_byte is_line_byte
network_is_read = refl

-- ## The former spelling

former_text : List ℕ
former_text = lines (
    "module {"
    ∷ "  mesh.mesh @g(shape = 2)"
    ∷ "  func.func @f(%a: tensor<4xi32>, %b: tensor<4xi32>) -> tensor<4xi32> {"
    ∷ "    %s = mesh.sharding @g split_axes = [[0]] : !mesh.sharding"
    ∷ "    %a1 = mesh.shard %a to %s : tensor<4xi32>"
    ∷ "    %b1 = mesh.shard %b to %s : tensor<4xi32>"
    ∷ "    %c = arith.addi %a1, %b1 : tensor<4xi32>"
    ∷ "    %c1 = mesh.shard %c to %s : tensor<4xi32>"
    ∷ "    return %c1 : tensor<4xi32>"
    ∷ "  }"
    ∷ "  shardrun.call @f(dense<[2147483647, 1, 2, 3]> : tensor<4xi32>, dense<1> : tensor<4xi32>)"
    ∷ "}" ∷ [])

former_is_read : part_of former_text ≡ part.Module sum_module
unfolding former_text four sum sum_call sum_module made the_table the_choices the_rows class_of first_class words signs dims bangs hashes former_words former_bangs is_blank is_letter is_digit is_name_byte is_value_byte is_string_byte is_line_byte
former_is_read = refl
