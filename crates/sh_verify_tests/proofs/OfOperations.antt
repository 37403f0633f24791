-- The samples of operations are decided by computation.
use mathlib.Core.Path.{refl}
use Rattle.sh_ir.specs.Agreement.{types_agree}
use Rattle.sh_ir.specs.Attributes.{slice_fits, groups_fit, expansion_fits, axes_fit, along_fits, shifts_along, pieces_fit, halos_fit, numbers_fit}
use Rattle.sh_ir.specs.Limits.{has_few_dims, has_few_cells, has_few_loops, has_few_inputs}
use Rattle.sh_ir.specs.Loops.{structure_of, generic_of}
use Rattle.sh_ir.specs.Maps.{is_projection, has_all_maps, operands_follow, iterators_fit, maps_fit}
use Rattle.sh_ir.specs.Operands.{extents_fit, follows_maps, can_multiply, all_of_bits, is_test_of, is_part_of, can_join, callee_takes, operands_fit}
use Rattle.sh_ir.specs.RegionRules.{body_typing, is_scalar_op, region_fits, body_number_fits, keeps_in_region, keeps_at_yield}
use Rattle.sh_ir.specs.Results.{is_cast, is_slice, products_fit, is_expanded, exchanged, along, joined_dim, callee_gives, result_fits}
use Rattle.sh_ir.specs.Rules.{uses_defined, defines_new, takes_operands, names_known, has_region_in_order, calls_source, is_in_form, keeps, region_faults, op_faults}
use Rattle.sh_ir.specs.Scope.{group_size}
use Rattle.sh_ir.specs.Typing.{counts_fit, typing_of, tensor_types}
use Rattle.sh_verify_tests.specs.Samples.{AreRight, device_counts, device_samples, element_samples, in_device, in_source, layout_samples, region_samples, return_samples, source_counts, source_samples, structured_samples}

pub record AllRight : Type 0 where
  pub elements : AreRight in_source element_samples
  pub layouts : AreRight in_source layout_samples
  pub structured : AreRight in_source structured_samples
  pub regions : AreRight in_source region_samples
  pub sources : AreRight in_source source_samples
  pub devices : AreRight in_device device_samples
  pub source_counts : AreRight in_source source_counts
  pub device_counts : AreRight in_device device_counts
  pub returns : AreRight in_source return_samples

pub all_right : AllRight
unfolding types_agree structure_of generic_of counts_fit typing_of tensor_types slice_fits groups_fit expansion_fits axes_fit along_fits shifts_along pieces_fit halos_fit numbers_fit extents_fit follows_maps can_multiply all_of_bits is_test_of is_part_of can_join callee_takes operands_fit is_cast is_slice products_fit is_expanded exchanged along joined_dim callee_gives result_fits is_projection has_all_maps operands_follow iterators_fit maps_fit body_typing is_scalar_op region_fits body_number_fits keeps_in_region keeps_at_yield group_size has_few_dims has_few_cells has_few_loops has_few_inputs uses_defined defines_new takes_operands names_known has_region_in_order calls_source is_in_form keeps region_faults op_faults
all_right = record {
  elements = refl;
  layouts = refl;
  structured = refl;
  regions = refl;
  sources = refl;
  devices = refl;
  source_counts = refl;
  device_counts = refl;
  returns = refl;
}
