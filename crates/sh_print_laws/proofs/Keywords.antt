-- The classes of the keywords that are printed: by computing.
use Rattle.std.proofs.Common.{◌≡◌, ℕ, List, codes, refl}
use Rattle.sh_base.specs.declared.places.Place.{Place}
use Rattle.sh_grammar.specs.Lexemes.{bangs, class_count, class_of, class_of_keyword, dims, first_class, former_bangs, former_words, hashes, signs, words}
use Rattle.sh_lex.specs.declared.tokens.TokenKind.{TokenKind}
use Rattle.sh_lex.specs.declared.tokens.TokenKind.TheVariants as kind
use Rattle.sh_print_laws.specs.TokensOf.{lexeme}

-- such a token is this keyword
abbrev pub IsKeyword : TokenKind → List ℕ → Type 0
IsKeyword k text = (place : Place) → class_of (lexeme k text place) ≡ class_of_keyword text

pub the-i1 : IsKeyword kind.Word (codes "i1")
unfolding bangs class_count class_of dims first_class former_bangs former_words hashes signs words
the-i1 place = refl

pub the-i8 : IsKeyword kind.Word (codes "i8")
unfolding bangs class_count class_of dims first_class former_bangs former_words hashes signs words
the-i8 place = refl

pub the-i16 : IsKeyword kind.Word (codes "i16")
unfolding bangs class_count class_of dims first_class former_bangs former_words hashes signs words
the-i16 place = refl

pub the-i32 : IsKeyword kind.Word (codes "i32")
unfolding bangs class_count class_of dims first_class former_bangs former_words hashes signs words
the-i32 place = refl

pub the-i64 : IsKeyword kind.Word (codes "i64")
unfolding bangs class_count class_of dims first_class former_bangs former_words hashes signs words
the-i64 place = refl

pub the-tensor : IsKeyword kind.Word (codes "tensor")
unfolding bangs class_count class_of dims first_class former_bangs former_words hashes signs words
the-tensor place = refl

pub the-ins : IsKeyword kind.Word (codes "ins")
unfolding bangs class_count class_of dims first_class former_bangs former_words hashes signs words
the-ins place = refl

pub the-outs : IsKeyword kind.Word (codes "outs")
unfolding bangs class_count class_of dims first_class former_bangs former_words hashes signs words
the-outs place = refl

pub the-dense : IsKeyword kind.Word (codes "dense")
unfolding bangs class_count class_of dims first_class former_bangs former_words hashes signs words
the-dense place = refl

pub the-to : IsKeyword kind.Word (codes "to")
unfolding bangs class_count class_of dims first_class former_bangs former_words hashes signs words
the-to place = refl

pub the-true : IsKeyword kind.Word (codes "true")
unfolding bangs class_count class_of dims first_class former_bangs former_words hashes signs words
the-true place = refl

pub the-false : IsKeyword kind.Word (codes "false")
unfolding bangs class_count class_of dims first_class former_bangs former_words hashes signs words
the-false place = refl

pub the-module : IsKeyword kind.Word (codes "module")
unfolding bangs class_count class_of dims first_class former_bangs former_words hashes signs words
the-module place = refl

pub the-return : IsKeyword kind.Word (codes "return")
unfolding bangs class_count class_of dims first_class former_bangs former_words hashes signs words
the-return place = refl

pub the-call : IsKeyword kind.Word (codes "call")
unfolding bangs class_count class_of dims first_class former_bangs former_words hashes signs words
the-call place = refl

pub the-private : IsKeyword kind.Word (codes "private")
unfolding bangs class_count class_of dims first_class former_bangs former_words hashes signs words
the-private place = refl

pub the-on : IsKeyword kind.Word (codes "on")
unfolding bangs class_count class_of dims first_class former_bangs former_words hashes signs words
the-on place = refl

pub the-offset : IsKeyword kind.Word (codes "offset")
unfolding bangs class_count class_of dims first_class former_bangs former_words hashes signs words
the-offset place = refl

pub the-rotate : IsKeyword kind.Word (codes "rotate")
unfolding bangs class_count class_of dims first_class former_bangs former_words hashes signs words
the-rotate place = refl

pub the-axis : IsKeyword kind.Word (codes "axis")
unfolding bangs class_count class_of dims first_class former_bangs former_words hashes signs words
the-axis place = refl

pub the-starts : IsKeyword kind.Word (codes "starts")
unfolding bangs class_count class_of dims first_class former_bangs former_words hashes signs words
the-starts place = refl

pub the-sizes : IsKeyword kind.Word (codes "sizes")
unfolding bangs class_count class_of dims first_class former_bangs former_words hashes signs words
the-sizes place = refl

pub the-low : IsKeyword kind.Word (codes "low")
unfolding bangs class_count class_of dims first_class former_bangs former_words hashes signs words
the-low place = refl

pub the-high : IsKeyword kind.Word (codes "high")
unfolding bangs class_count class_of dims first_class former_bangs former_words hashes signs words
the-high place = refl

pub the-shape : IsKeyword kind.Word (codes "shape")
unfolding bangs class_count class_of dims first_class former_bangs former_words hashes signs words
the-shape place = refl

pub the-into : IsKeyword kind.Word (codes "into")
unfolding bangs class_count class_of dims first_class former_bangs former_words hashes signs words
the-into place = refl

pub the-reduction : IsKeyword kind.Word (codes "reduction")
unfolding bangs class_count class_of dims first_class former_bangs former_words hashes signs words
the-reduction place = refl

pub the-permutation : IsKeyword kind.Word (codes "permutation")
unfolding bangs class_count class_of dims first_class former_bangs former_words hashes signs words
the-permutation place = refl

pub the-dimensions : IsKeyword kind.Word (codes "dimensions")
unfolding bangs class_count class_of dims first_class former_bangs former_words hashes signs words
the-dimensions place = refl

pub the-index : IsKeyword kind.Word (codes "index")
unfolding bangs class_count class_of dims first_class former_bangs former_words hashes signs words
the-index place = refl

pub the-indexing_maps : IsKeyword kind.Word (codes "indexing_maps")
unfolding bangs class_count class_of dims first_class former_bangs former_words hashes signs words
the-indexing_maps place = refl

pub the-iterator_types : IsKeyword kind.Word (codes "iterator_types")
unfolding bangs class_count class_of dims first_class former_bangs former_words hashes signs words
the-iterator_types place = refl

pub the-affine_map : IsKeyword kind.Word (codes "affine_map")
unfolding bangs class_count class_of dims first_class former_bangs former_words hashes signs words
the-affine_map place = refl

pub the-annotate_for_users : IsKeyword kind.Word (codes "annotate_for_users")
unfolding bangs class_count class_of dims first_class former_bangs former_words hashes signs words
the-annotate_for_users place = refl

pub the-grid_axes : IsKeyword kind.Word (codes "grid_axes")
unfolding bangs class_count class_of dims first_class former_bangs former_words hashes signs words
the-grid_axes place = refl

pub the-gather_axis : IsKeyword kind.Word (codes "gather_axis")
unfolding bangs class_count class_of dims first_class former_bangs former_words hashes signs words
the-gather_axis place = refl

pub the-slice_axis : IsKeyword kind.Word (codes "slice_axis")
unfolding bangs class_count class_of dims first_class former_bangs former_words hashes signs words
the-slice_axis place = refl

pub the-scatter_axis : IsKeyword kind.Word (codes "scatter_axis")
unfolding bangs class_count class_of dims first_class former_bangs former_words hashes signs words
the-scatter_axis place = refl

pub the-split_axis : IsKeyword kind.Word (codes "split_axis")
unfolding bangs class_count class_of dims first_class former_bangs former_words hashes signs words
the-split_axis place = refl

pub the-concat_axis : IsKeyword kind.Word (codes "concat_axis")
unfolding bangs class_count class_of dims first_class former_bangs former_words hashes signs words
the-concat_axis place = refl

pub the-shift_axis : IsKeyword kind.Word (codes "shift_axis")
unfolding bangs class_count class_of dims first_class former_bangs former_words hashes signs words
the-shift_axis place = refl

pub the-split_axes : IsKeyword kind.Word (codes "split_axes")
unfolding bangs class_count class_of dims first_class former_bangs former_words hashes signs words
the-split_axes place = refl

pub the-halo_sizes : IsKeyword kind.Word (codes "halo_sizes")
unfolding bangs class_count class_of dims first_class former_bangs former_words hashes signs words
the-halo_sizes place = refl

pub the-sharded_dims_offsets : IsKeyword kind.Word (codes "sharded_dims_offsets")
unfolding bangs class_count class_of dims first_class former_bangs former_words hashes signs words
the-sharded_dims_offsets place = refl

pub the-output_shape : IsKeyword kind.Word (codes "output_shape")
unfolding bangs class_count class_of dims first_class former_bangs former_words hashes signs words
the-output_shape place = refl

pub the-sum : IsKeyword kind.Word (codes "sum")
unfolding bangs class_count class_of dims first_class former_bangs former_words hashes signs words
the-sum place = refl

pub the-product : IsKeyword kind.Word (codes "product")
unfolding bangs class_count class_of dims first_class former_bangs former_words hashes signs words
the-product place = refl

pub the-max : IsKeyword kind.Word (codes "max")
unfolding bangs class_count class_of dims first_class former_bangs former_words hashes signs words
the-max place = refl

pub the-min : IsKeyword kind.Word (codes "min")
unfolding bangs class_count class_of dims first_class former_bangs former_words hashes signs words
the-min place = refl

pub the-bitwise_and : IsKeyword kind.Word (codes "bitwise_and")
unfolding bangs class_count class_of dims first_class former_bangs former_words hashes signs words
the-bitwise_and place = refl

pub the-bitwise_or : IsKeyword kind.Word (codes "bitwise_or")
unfolding bangs class_count class_of dims first_class former_bangs former_words hashes signs words
the-bitwise_or place = refl

pub the-bitwise_xor : IsKeyword kind.Word (codes "bitwise_xor")
unfolding bangs class_count class_of dims first_class former_bangs former_words hashes signs words
the-bitwise_xor place = refl

pub the-eq : IsKeyword kind.Word (codes "eq")
unfolding bangs class_count class_of dims first_class former_bangs former_words hashes signs words
the-eq place = refl

pub the-ne : IsKeyword kind.Word (codes "ne")
unfolding bangs class_count class_of dims first_class former_bangs former_words hashes signs words
the-ne place = refl

pub the-slt : IsKeyword kind.Word (codes "slt")
unfolding bangs class_count class_of dims first_class former_bangs former_words hashes signs words
the-slt place = refl

pub the-sle : IsKeyword kind.Word (codes "sle")
unfolding bangs class_count class_of dims first_class former_bangs former_words hashes signs words
the-sle place = refl

pub the-sgt : IsKeyword kind.Word (codes "sgt")
unfolding bangs class_count class_of dims first_class former_bangs former_words hashes signs words
the-sgt place = refl

pub the-sge : IsKeyword kind.Word (codes "sge")
unfolding bangs class_count class_of dims first_class former_bangs former_words hashes signs words
the-sge place = refl

pub the-ult : IsKeyword kind.Word (codes "ult")
unfolding bangs class_count class_of dims first_class former_bangs former_words hashes signs words
the-ult place = refl

pub the-ule : IsKeyword kind.Word (codes "ule")
unfolding bangs class_count class_of dims first_class former_bangs former_words hashes signs words
the-ule place = refl

pub the-ugt : IsKeyword kind.Word (codes "ugt")
unfolding bangs class_count class_of dims first_class former_bangs former_words hashes signs words
the-ugt place = refl

pub the-uge : IsKeyword kind.Word (codes "uge")
unfolding bangs class_count class_of dims first_class former_bangs former_words hashes signs words
the-uge place = refl

pub the-func_func : IsKeyword kind.Word (codes "func.func")
unfolding bangs class_count class_of dims first_class former_bangs former_words hashes signs words
the-func_func place = refl

pub the-tensor_empty : IsKeyword kind.Word (codes "tensor.empty")
unfolding bangs class_count class_of dims first_class former_bangs former_words hashes signs words
the-tensor_empty place = refl

pub the-tensor_extract_slice : IsKeyword kind.Word (codes "tensor.extract_slice")
unfolding bangs class_count class_of dims first_class former_bangs former_words hashes signs words
the-tensor_extract_slice place = refl

pub the-tensor_insert_slice : IsKeyword kind.Word (codes "tensor.insert_slice")
unfolding bangs class_count class_of dims first_class former_bangs former_words hashes signs words
the-tensor_insert_slice place = refl

pub the-tensor_collapse_shape : IsKeyword kind.Word (codes "tensor.collapse_shape")
unfolding bangs class_count class_of dims first_class former_bangs former_words hashes signs words
the-tensor_collapse_shape place = refl

pub the-tensor_expand_shape : IsKeyword kind.Word (codes "tensor.expand_shape")
unfolding bangs class_count class_of dims first_class former_bangs former_words hashes signs words
the-tensor_expand_shape place = refl

pub the-linalg_fill : IsKeyword kind.Word (codes "linalg.fill")
unfolding bangs class_count class_of dims first_class former_bangs former_words hashes signs words
the-linalg_fill place = refl

pub the-linalg_matmul : IsKeyword kind.Word (codes "linalg.matmul")
unfolding bangs class_count class_of dims first_class former_bangs former_words hashes signs words
the-linalg_matmul place = refl

pub the-linalg_batch_matmul : IsKeyword kind.Word (codes "linalg.batch_matmul")
unfolding bangs class_count class_of dims first_class former_bangs former_words hashes signs words
the-linalg_batch_matmul place = refl

pub the-linalg_matvec : IsKeyword kind.Word (codes "linalg.matvec")
unfolding bangs class_count class_of dims first_class former_bangs former_words hashes signs words
the-linalg_matvec place = refl

pub the-linalg_vecmat : IsKeyword kind.Word (codes "linalg.vecmat")
unfolding bangs class_count class_of dims first_class former_bangs former_words hashes signs words
the-linalg_vecmat place = refl

pub the-linalg_dot : IsKeyword kind.Word (codes "linalg.dot")
unfolding bangs class_count class_of dims first_class former_bangs former_words hashes signs words
the-linalg_dot place = refl

pub the-linalg_conv_1d : IsKeyword kind.Word (codes "linalg.conv_1d")
unfolding bangs class_count class_of dims first_class former_bangs former_words hashes signs words
the-linalg_conv_1d place = refl

pub the-linalg_conv_2d : IsKeyword kind.Word (codes "linalg.conv_2d")
unfolding bangs class_count class_of dims first_class former_bangs former_words hashes signs words
the-linalg_conv_2d place = refl

pub the-linalg_transpose : IsKeyword kind.Word (codes "linalg.transpose")
unfolding bangs class_count class_of dims first_class former_bangs former_words hashes signs words
the-linalg_transpose place = refl

pub the-linalg_broadcast : IsKeyword kind.Word (codes "linalg.broadcast")
unfolding bangs class_count class_of dims first_class former_bangs former_words hashes signs words
the-linalg_broadcast place = refl

pub the-linalg_reduce : IsKeyword kind.Word (codes "linalg.reduce")
unfolding bangs class_count class_of dims first_class former_bangs former_words hashes signs words
the-linalg_reduce place = refl

pub the-linalg_generic : IsKeyword kind.Word (codes "linalg.generic")
unfolding bangs class_count class_of dims first_class former_bangs former_words hashes signs words
the-linalg_generic place = refl

pub the-linalg_yield : IsKeyword kind.Word (codes "linalg.yield")
unfolding bangs class_count class_of dims first_class former_bangs former_words hashes signs words
the-linalg_yield place = refl

pub the-linalg_index : IsKeyword kind.Word (codes "linalg.index")
unfolding bangs class_count class_of dims first_class former_bangs former_words hashes signs words
the-linalg_index place = refl

pub the-shard_sharding : IsKeyword kind.Word (codes "shard.sharding")
unfolding bangs class_count class_of dims first_class former_bangs former_words hashes signs words
the-shard_sharding place = refl

pub the-shard_shard : IsKeyword kind.Word (codes "shard.shard")
unfolding bangs class_count class_of dims first_class former_bangs former_words hashes signs words
the-shard_shard place = refl

pub the-shard_grid : IsKeyword kind.Word (codes "shard.grid")
unfolding bangs class_count class_of dims first_class former_bangs former_words hashes signs words
the-shard_grid place = refl

pub the-shard_all_gather : IsKeyword kind.Word (codes "shard.all_gather")
unfolding bangs class_count class_of dims first_class former_bangs former_words hashes signs words
the-shard_all_gather place = refl

pub the-shard_all_slice : IsKeyword kind.Word (codes "shard.all_slice")
unfolding bangs class_count class_of dims first_class former_bangs former_words hashes signs words
the-shard_all_slice place = refl

pub the-shard_all_reduce : IsKeyword kind.Word (codes "shard.all_reduce")
unfolding bangs class_count class_of dims first_class former_bangs former_words hashes signs words
the-shard_all_reduce place = refl

pub the-shard_reduce_scatter : IsKeyword kind.Word (codes "shard.reduce_scatter")
unfolding bangs class_count class_of dims first_class former_bangs former_words hashes signs words
the-shard_reduce_scatter place = refl

pub the-shard_all_to_all : IsKeyword kind.Word (codes "shard.all_to_all")
unfolding bangs class_count class_of dims first_class former_bangs former_words hashes signs words
the-shard_all_to_all place = refl

pub the-shard_shift : IsKeyword kind.Word (codes "shard.shift")
unfolding bangs class_count class_of dims first_class former_bangs former_words hashes signs words
the-shard_shift place = refl

pub the-shard_update_halo : IsKeyword kind.Word (codes "shard.update_halo")
unfolding bangs class_count class_of dims first_class former_bangs former_words hashes signs words
the-shard_update_halo place = refl

pub the-shardrun_take : IsKeyword kind.Word (codes "shardrun.take")
unfolding bangs class_count class_of dims first_class former_bangs former_words hashes signs words
the-shardrun_take place = refl

pub the-shardrun_pad : IsKeyword kind.Word (codes "shardrun.pad")
unfolding bangs class_count class_of dims first_class former_bangs former_words hashes signs words
the-shardrun_pad place = refl

pub the-shardrun_join : IsKeyword kind.Word (codes "shardrun.join")
unfolding bangs class_count class_of dims first_class former_bangs former_words hashes signs words
the-shardrun_join place = refl

pub the-shardrun_call : IsKeyword kind.Word (codes "shardrun.call")
unfolding bangs class_count class_of dims first_class former_bangs former_words hashes signs words
the-shardrun_call place = refl

pub the-shardrun_device : IsKeyword kind.Word (codes "shardrun.device")
unfolding bangs class_count class_of dims first_class former_bangs former_words hashes signs words
the-shardrun_device place = refl

pub the-arith_constant : IsKeyword kind.Word (codes "arith.constant")
unfolding bangs class_count class_of dims first_class former_bangs former_words hashes signs words
the-arith_constant place = refl

pub the-arith_cmpi : IsKeyword kind.Word (codes "arith.cmpi")
unfolding bangs class_count class_of dims first_class former_bangs former_words hashes signs words
the-arith_cmpi place = refl

pub the-arith_select : IsKeyword kind.Word (codes "arith.select")
unfolding bangs class_count class_of dims first_class former_bangs former_words hashes signs words
the-arith_select place = refl

pub the-arith_index_cast : IsKeyword kind.Word (codes "arith.index_cast")
unfolding bangs class_count class_of dims first_class former_bangs former_words hashes signs words
the-arith_index_cast place = refl

pub the-arith_addi : IsKeyword kind.Word (codes "arith.addi")
unfolding bangs class_count class_of dims first_class former_bangs former_words hashes signs words
the-arith_addi place = refl

pub the-arith_subi : IsKeyword kind.Word (codes "arith.subi")
unfolding bangs class_count class_of dims first_class former_bangs former_words hashes signs words
the-arith_subi place = refl

pub the-arith_muli : IsKeyword kind.Word (codes "arith.muli")
unfolding bangs class_count class_of dims first_class former_bangs former_words hashes signs words
the-arith_muli place = refl

pub the-arith_divui : IsKeyword kind.Word (codes "arith.divui")
unfolding bangs class_count class_of dims first_class former_bangs former_words hashes signs words
the-arith_divui place = refl

pub the-arith_divsi : IsKeyword kind.Word (codes "arith.divsi")
unfolding bangs class_count class_of dims first_class former_bangs former_words hashes signs words
the-arith_divsi place = refl

pub the-arith_remui : IsKeyword kind.Word (codes "arith.remui")
unfolding bangs class_count class_of dims first_class former_bangs former_words hashes signs words
the-arith_remui place = refl

pub the-arith_remsi : IsKeyword kind.Word (codes "arith.remsi")
unfolding bangs class_count class_of dims first_class former_bangs former_words hashes signs words
the-arith_remsi place = refl

pub the-arith_andi : IsKeyword kind.Word (codes "arith.andi")
unfolding bangs class_count class_of dims first_class former_bangs former_words hashes signs words
the-arith_andi place = refl

pub the-arith_ori : IsKeyword kind.Word (codes "arith.ori")
unfolding bangs class_count class_of dims first_class former_bangs former_words hashes signs words
the-arith_ori place = refl

pub the-arith_xori : IsKeyword kind.Word (codes "arith.xori")
unfolding bangs class_count class_of dims first_class former_bangs former_words hashes signs words
the-arith_xori place = refl

pub the-arith_maxsi : IsKeyword kind.Word (codes "arith.maxsi")
unfolding bangs class_count class_of dims first_class former_bangs former_words hashes signs words
the-arith_maxsi place = refl

pub the-arith_minsi : IsKeyword kind.Word (codes "arith.minsi")
unfolding bangs class_count class_of dims first_class former_bangs former_words hashes signs words
the-arith_minsi place = refl

pub the-arith_maxui : IsKeyword kind.Word (codes "arith.maxui")
unfolding bangs class_count class_of dims first_class former_bangs former_words hashes signs words
the-arith_maxui place = refl

pub the-arith_minui : IsKeyword kind.Word (codes "arith.minui")
unfolding bangs class_count class_of dims first_class former_bangs former_words hashes signs words
the-arith_minui place = refl

pub the-arith_shli : IsKeyword kind.Word (codes "arith.shli")
unfolding bangs class_count class_of dims first_class former_bangs former_words hashes signs words
the-arith_shli place = refl

pub the-arith_shrui : IsKeyword kind.Word (codes "arith.shrui")
unfolding bangs class_count class_of dims first_class former_bangs former_words hashes signs words
the-arith_shrui place = refl

pub the-arith_shrsi : IsKeyword kind.Word (codes "arith.shrsi")
unfolding bangs class_count class_of dims first_class former_bangs former_words hashes signs words
the-arith_shrsi place = refl

pub the-arith_extsi : IsKeyword kind.Word (codes "arith.extsi")
unfolding bangs class_count class_of dims first_class former_bangs former_words hashes signs words
the-arith_extsi place = refl

pub the-arith_extui : IsKeyword kind.Word (codes "arith.extui")
unfolding bangs class_count class_of dims first_class former_bangs former_words hashes signs words
the-arith_extui place = refl

pub the-arith_trunci : IsKeyword kind.Word (codes "arith.trunci")
unfolding bangs class_count class_of dims first_class former_bangs former_words hashes signs words
the-arith_trunci place = refl

pub the-comma : IsKeyword kind.Sign (codes ",")
unfolding bangs class_count class_of dims first_class former_bangs former_words hashes signs words
the-comma place = refl

pub the-colon : IsKeyword kind.Sign (codes ":")
unfolding bangs class_count class_of dims first_class former_bangs former_words hashes signs words
the-colon place = refl

pub the-equals : IsKeyword kind.Sign (codes "=")
unfolding bangs class_count class_of dims first_class former_bangs former_words hashes signs words
the-equals place = refl

pub the-open : IsKeyword kind.Sign (codes "(")
unfolding bangs class_count class_of dims first_class former_bangs former_words hashes signs words
the-open place = refl

pub the-close : IsKeyword kind.Sign (codes ")")
unfolding bangs class_count class_of dims first_class former_bangs former_words hashes signs words
the-close place = refl

pub the-less : IsKeyword kind.Sign (codes "<")
unfolding bangs class_count class_of dims first_class former_bangs former_words hashes signs words
the-less place = refl

pub the-greater : IsKeyword kind.Sign (codes ">")
unfolding bangs class_count class_of dims first_class former_bangs former_words hashes signs words
the-greater place = refl

pub the-arrow : IsKeyword kind.Sign (codes "->")
unfolding bangs class_count class_of dims first_class former_bangs former_words hashes signs words
the-arrow place = refl

pub the-open_bracket : IsKeyword kind.Sign (codes "[")
unfolding bangs class_count class_of dims first_class former_bangs former_words hashes signs words
the-open_bracket place = refl

pub the-close_bracket : IsKeyword kind.Sign (codes "]")
unfolding bangs class_count class_of dims first_class former_bangs former_words hashes signs words
the-close_bracket place = refl

pub the-open_brace : IsKeyword kind.Sign (codes "{")
unfolding bangs class_count class_of dims first_class former_bangs former_words hashes signs words
the-open_brace place = refl

pub the-close_brace : IsKeyword kind.Sign (codes "}")
unfolding bangs class_count class_of dims first_class former_bangs former_words hashes signs words
the-close_brace place = refl

pub the-minus : IsKeyword kind.Sign (codes "-")
unfolding bangs class_count class_of dims first_class former_bangs former_words hashes signs words
the-minus place = refl

pub the-sharding_type : IsKeyword kind.Bang (codes "!shard.sharding")
unfolding bangs class_count class_of dims first_class former_bangs former_words hashes signs words
the-sharding_type place = refl

pub the-unknown_dim : IsKeyword kind.Dim (codes "?x")
unfolding bangs class_count class_of dims first_class former_bangs former_words hashes signs words
the-unknown_dim place = refl
