use Rattle.std.proofs.Common.{refl}
use Rattle.std.specs.Fmt.{digits}
use Rattle.sh_print.specs.Layout.{layout_behind}
use Rattle.sh_print.specs.Spellings.{in_brackets, type_pieces, number_pieces, cell_pieces, cell_between, cells_pieces, dense, dense_pieces}
use Rattle.sh_print.specs.Tokens.{types, value_in, values, pair, of_type, attribute, to_type, from_to, extents, grid_pieces, numbers_pieces, listed, splits, sharding_pieces, cut_pieces, cuts, carry_pieces, device_pieces, call_pieces, scalar_pieces, literal_pieces, constant_pieces, binary_pieces, compare_pieces, condition_pieces, types_of_select, select_pieces, cast_pieces, slice_pieces, empty_pieces, into_pieces, extract_pieces, insert_pieces, collapse_pieces, expand_pieces, typed_values, operands_pieces, ins, outs, ins_outs, maybe_ins, structured_pieces, along_pieces, block_argument, block_arguments, index_pieces, index_cast_pieces, body_kind_pieces, body_op_pieces, yield_pieces, body_pieces, reduce_pieces, loops_pieces, map_pieces, maps_pieces, iterators_pieces, generic_attributes, header_pieces, generic_pieces, over, axis_pieces, reduction_pieces, flag, sharding_op_pieces, shard_pieces, all_gather_pieces, all_slice_pieces, all_reduce_pieces, reduce_scatter_pieces, all_to_all_pieces, shift_pieces, update_halo_pieces, take_pieces, pad_pieces, join_pieces, call_types, call_op_pieces, return_pieces, kind_pieces, defined, op_pieces, parameter, several_pieces, results_pieces, parameters_pieces, ops_pieces, signature_pieces, func_pieces, module_name, items_pieces, tokens_of}
use Rattle.sh_print.proofs.laws.examples.Goals as goal

pub returns-clause-sum : goal.returns-clause-sum
unfolding digits types value_in values pair of_type attribute to_type from_to extents grid_pieces numbers_pieces listed splits sharding_pieces cut_pieces cuts carry_pieces device_pieces call_pieces scalar_pieces literal_pieces constant_pieces binary_pieces compare_pieces condition_pieces types_of_select select_pieces cast_pieces slice_pieces empty_pieces into_pieces extract_pieces insert_pieces collapse_pieces expand_pieces typed_values operands_pieces ins outs ins_outs maybe_ins structured_pieces along_pieces block_argument block_arguments index_pieces index_cast_pieces body_kind_pieces body_op_pieces yield_pieces body_pieces reduce_pieces loops_pieces map_pieces maps_pieces iterators_pieces generic_attributes header_pieces generic_pieces over axis_pieces reduction_pieces flag sharding_op_pieces shard_pieces all_gather_pieces all_slice_pieces all_reduce_pieces reduce_scatter_pieces all_to_all_pieces shift_pieces update_halo_pieces take_pieces pad_pieces join_pieces call_types call_op_pieces return_pieces kind_pieces defined op_pieces parameter several_pieces results_pieces parameters_pieces ops_pieces signature_pieces func_pieces module_name items_pieces tokens_of in_brackets type_pieces number_pieces cell_pieces cell_between cells_pieces dense dense_pieces layout_behind
returns-clause-sum c = refl

pub returns-clause-called : goal.returns-clause-called
unfolding digits types value_in values pair of_type attribute to_type from_to extents grid_pieces numbers_pieces listed splits sharding_pieces cut_pieces cuts carry_pieces device_pieces call_pieces scalar_pieces literal_pieces constant_pieces binary_pieces compare_pieces condition_pieces types_of_select select_pieces cast_pieces slice_pieces empty_pieces into_pieces extract_pieces insert_pieces collapse_pieces expand_pieces typed_values operands_pieces ins outs ins_outs maybe_ins structured_pieces along_pieces block_argument block_arguments index_pieces index_cast_pieces body_kind_pieces body_op_pieces yield_pieces body_pieces reduce_pieces loops_pieces map_pieces maps_pieces iterators_pieces generic_attributes header_pieces generic_pieces over axis_pieces reduction_pieces flag sharding_op_pieces shard_pieces all_gather_pieces all_slice_pieces all_reduce_pieces reduce_scatter_pieces all_to_all_pieces shift_pieces update_halo_pieces take_pieces pad_pieces join_pieces call_types call_op_pieces return_pieces kind_pieces defined op_pieces parameter several_pieces results_pieces parameters_pieces ops_pieces signature_pieces func_pieces module_name items_pieces tokens_of in_brackets type_pieces number_pieces cell_pieces cell_between cells_pieces dense dense_pieces layout_behind
returns-clause-called c = refl

pub returns-clause-empty : goal.returns-clause-empty
unfolding digits types value_in values pair of_type attribute to_type from_to extents grid_pieces numbers_pieces listed splits sharding_pieces cut_pieces cuts carry_pieces device_pieces call_pieces scalar_pieces literal_pieces constant_pieces binary_pieces compare_pieces condition_pieces types_of_select select_pieces cast_pieces slice_pieces empty_pieces into_pieces extract_pieces insert_pieces collapse_pieces expand_pieces typed_values operands_pieces ins outs ins_outs maybe_ins structured_pieces along_pieces block_argument block_arguments index_pieces index_cast_pieces body_kind_pieces body_op_pieces yield_pieces body_pieces reduce_pieces loops_pieces map_pieces maps_pieces iterators_pieces generic_attributes header_pieces generic_pieces over axis_pieces reduction_pieces flag sharding_op_pieces shard_pieces all_gather_pieces all_slice_pieces all_reduce_pieces reduce_scatter_pieces all_to_all_pieces shift_pieces update_halo_pieces take_pieces pad_pieces join_pieces call_types call_op_pieces return_pieces kind_pieces defined op_pieces parameter several_pieces results_pieces parameters_pieces ops_pieces signature_pieces func_pieces module_name items_pieces tokens_of in_brackets type_pieces number_pieces cell_pieces cell_between cells_pieces dense dense_pieces layout_behind
returns-clause-empty c = refl
