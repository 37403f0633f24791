-- The samples of modules are decided by computation.
use mathlib.Core.Path.{refl}
use Rattle.std.specs.Prelude.{◌≡◌, []}
use Rattle.sh_ir_tests.specs.Network.{the_network}
use Rattle.sh_ir.specs.Agreement.{types_agree, same_types}
use Rattle.sh_ir.specs.Attributes.{slice_fits, groups_fit, expansion_fits, axes_fit, along_fits, shifts_along, pieces_fit, halos_fit, numbers_fit}
use Rattle.sh_ir.specs.Faults.{keeps_grid, has_form, keeps_func, returned_types, keeps_return, func_faults, keeps_call, faults_by, limit_faults}
use Rattle.sh_ir.specs.Limits.{has_few_dims, has_few_cells, has_few_loops, has_few_inputs, operation_count, instruction_count, has_few_devices}
use Rattle.sh_ir.specs.Loops.{structure_of, generic_of}
use Rattle.sh_ir.specs.Maps.{is_projection, has_all_maps, operands_follow, iterators_fit, maps_fit}
use Rattle.sh_ir.specs.Operands.{extents_fit, follows_maps, can_multiply, all_of_bits, is_test_of, is_part_of, can_join, callee_takes, operands_fit}
use Rattle.sh_ir.specs.RegionRules.{body_typing, is_scalar_op, region_fits, body_number_fits, keeps_in_region, keeps_at_yield}
use Rattle.sh_ir.specs.Results.{is_cast, is_slice, products_fit, is_expanded, exchanged, along, joined_dim, callee_gives, result_fits}
use Rattle.sh_ir.specs.Rules.{uses_defined, defines_new, takes_operands, names_known, has_region_in_order, calls_source, is_in_form, keeps, region_faults, op_faults}
use Rattle.sh_ir.specs.Scope.{group_size}
use Rattle.sh_ir.specs.Typing.{counts_fit, typing_of, tensor_types}
use Rattle.sh_verify_tests.specs.Modules.{AreModulesRight, CountsRight, LengthsRight, module_samples}

pub modules_right : AreModulesRight module_samples
unfolding types_agree same_types structure_of generic_of counts_fit typing_of tensor_types slice_fits groups_fit expansion_fits axes_fit along_fits shifts_along pieces_fit halos_fit numbers_fit extents_fit follows_maps can_multiply all_of_bits is_test_of is_part_of can_join callee_takes operands_fit is_cast is_slice products_fit is_expanded exchanged along joined_dim callee_gives result_fits is_projection has_all_maps operands_follow iterators_fit maps_fit body_typing is_scalar_op region_fits body_number_fits keeps_in_region keeps_at_yield group_size has_few_dims has_few_cells has_few_loops has_few_inputs operation_count instruction_count has_few_devices uses_defined defines_new takes_operands names_known has_region_in_order calls_source is_in_form keeps region_faults op_faults keeps_grid has_form keeps_func returned_types keeps_return func_faults keeps_call faults_by
modules_right = refl

pub counts_right : CountsRight
unfolding operation_count instruction_count
counts_right = record { operations = refl; instructions = refl }

pub lengths_right : LengthsRight
unfolding types_agree same_types structure_of generic_of counts_fit typing_of tensor_types slice_fits groups_fit expansion_fits axes_fit along_fits shifts_along pieces_fit halos_fit numbers_fit extents_fit follows_maps can_multiply all_of_bits is_test_of is_part_of can_join callee_takes operands_fit is_cast is_slice products_fit is_expanded exchanged along joined_dim callee_gives result_fits is_projection has_all_maps operands_follow iterators_fit maps_fit body_typing is_scalar_op region_fits body_number_fits keeps_in_region keeps_at_yield group_size has_few_dims has_few_cells has_few_loops has_few_inputs operation_count instruction_count has_few_devices uses_defined defines_new takes_operands names_known has_region_in_order calls_source is_in_form keeps region_faults op_faults keeps_grid has_form keeps_func returned_types keeps_return func_faults keeps_call faults_by
lengths_right = record { few = refl; many = refl; others = refl; device = refl; most = refl; more = refl }

pub network_within : limit_faults the_network ≡ []
unfolding types_agree same_types structure_of generic_of counts_fit typing_of tensor_types slice_fits groups_fit expansion_fits axes_fit along_fits shifts_along pieces_fit halos_fit numbers_fit extents_fit follows_maps can_multiply all_of_bits is_test_of is_part_of can_join callee_takes operands_fit is_cast is_slice products_fit is_expanded exchanged along joined_dim callee_gives result_fits is_projection has_all_maps operands_follow iterators_fit maps_fit body_typing is_scalar_op region_fits body_number_fits keeps_in_region keeps_at_yield group_size has_few_dims has_few_cells has_few_loops has_few_inputs operation_count instruction_count has_few_devices uses_defined defines_new takes_operands names_known has_region_in_order calls_source is_in_form keeps region_faults op_faults keeps_grid has_form keeps_func returned_types keeps_return func_faults keeps_call faults_by
network_within = refl
