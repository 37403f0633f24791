-- A function in source form that keeps the limits and the rules: one whose region uses a constant of the function.
use Rattle.std.proofs.Common.{ℕ, [], ◌∷◌, Some, None, refl}
use Rattle.std.specs.Prelude.{codes, false}
use Rattle.sh_base.specs.declared.numbers.Cell.TheVariants.{Val}
use Rattle.sh_base.specs.declared.numbers.Width.TheVariants.{I32}
use Rattle.sh_base.specs.declared.operations.BinOp.TheVariants.{Addi}
use Rattle.sh_base.specs.declared.places.Place.{Place}
use Rattle.sh_ir.specs.declared.arith_ops.Contents.TheVariants.{Held}
use Rattle.sh_ir.specs.declared.bodies.Body.{Body}
use Rattle.sh_ir.specs.declared.bodies.BodyKind.TheVariants as body_kind
use Rattle.sh_ir.specs.declared.functions.Func.{Func}
use Rattle.sh_ir.specs.declared.linalg_ops.AffineMap.{AffineMap}
use Rattle.sh_ir.specs.declared.linalg_ops.InsOuts.{InsOuts}
use Rattle.sh_ir.specs.declared.linalg_ops.IteratorType.TheVariants.{Parallel}
use Rattle.sh_ir.specs.declared.modules.Module.{Module}
use Rattle.sh_ir.specs.declared.operations.Op.{Op}
use Rattle.sh_ir.specs.declared.operations.OpKind.TheVariants as op_kind
use Rattle.sh_ir.specs.declared.types.Dim.TheVariants.{Known}
use Rattle.sh_ir.specs.declared.types.ValueType.{ValueType}
use Rattle.sh_ir.specs.declared.types.ValueType.TheVariants as value_type
use Rattle.sh_ir.specs.Faults.{faults_by, func_faults, has_form, keeps_func, keeps_return, returned_types}
use Rattle.sh_ir.specs.Formed.{IsFormed}
use Rattle.sh_ir.specs.Agreement.{same_types, types_agree}
use Rattle.sh_ir.specs.Attributes.{numbers_fit}
use Rattle.sh_ir.specs.Limits.{has_few_cells, has_few_dims, has_few_inputs, has_few_loops, operation_count}
use Rattle.sh_ir.specs.Loops.{generic_of, structure_of}
use Rattle.sh_ir.specs.Maps.{has_all_maps, is_projection, iterators_fit, maps_fit, operands_follow}
use Rattle.sh_ir.specs.Operands.{extents_fit, operands_fit}
use Rattle.sh_ir.specs.RegionRules.{body_number_fits, body_typing, is_scalar_op, keeps_at_yield, keeps_in_region, region_fits}
use Rattle.sh_ir.specs.Results.{result_fits}
use Rattle.sh_ir.specs.Rules.{calls_source, defines_new, has_region_in_order, is_in_form, keeps, names_known, op_faults, region_faults, takes_operands, uses_defined}
use Rattle.sh_ir.specs.Typing.{counts_fit, tensor_types, typing_of}
use Rattle.sh_eval.specs.Sources.{IsOfSource}
use Rattle.sh_eval.proofs.AskedRules.{KeepsAsked, of_source}

abbrev on_line : ℕ → Place
on_line line = record { line = line; column = 5 }

abbrev vector : ValueType
vector = value_type.Tensor (record { dims = Known 4 ∷ []; width = I32 })

-- arith.constant 5 : i32
abbrev five : Op
five = record {
  kind = op_kind.Constant (record { value_type = value_type.Scalar I32; contents = Held (Val 5 ∷ []) });
  operands = [];
  defines = Some 1;
  result = value_type.Scalar I32;
  place = on_line 2;
}

-- each cell and the constant
abbrev sum_body : Body
sum_body = record {
  args = 3 ∷ 4 ∷ [];
  widths = I32 ∷ I32 ∷ [];
  ops =
      record { kind = body_kind.Binary Addi; operands = 3 ∷ 1 ∷ []; defines = 5; result = value_type.Scalar I32; place = on_line 4 }
      ∷ [];
  yields = 5;
  width = I32;
  place = on_line 5;
}

abbrev identity : AffineMap
identity = record { loops = 0 ∷ []; results = 0 ∷ [] }

abbrev one_each : InsOuts
one_each = record { ins_count = 1; ins_types = vector ∷ []; outs_count = 1; outs_types = vector ∷ [] }

abbrev sum : Op
sum = record {
  kind =
      op_kind.Generic (record {
        ins_outs = one_each;
        indexing_maps = identity ∷ identity ∷ [];
        iterator_types = Parallel ∷ [];
        body =
            sum_body;
      });
  operands = 0 ∷ 0 ∷ 1 ∷ [];
  defines = Some 2;
  result = vector;
  place = on_line 3;
}

abbrev last : Op
last = record {
  kind = op_kind.Return (record { operand_types = vector ∷ [] });
  operands = 2 ∷ [];
  defines = None;
  result = value_type.Nothing;
  place = on_line 6;
}

abbrev pub example_func : Func
example_func = record {
  name = codes "f";
  private = false;
  args = record { id = 0; value_type = vector } ∷ [];
  results = vector ∷ [];
  ops = five ∷ sum ∷ last ∷ [];
  carry = None;
  place = on_line 1;
}

abbrev example_module : Module
example_module = record { name = None; grids = []; funcs = example_func ∷ []; calls = [] }

formed_example : IsFormed example_module
formed_example = record {
  names = refl;
  numbers = refl;
  types = refl;
  grids = refl;
  cuts = (tt, tt);
  operands = (refl, (refl, (tt, tt)));
  body_operands = (refl, tt);
  captures = (tt, (refl, (tt, tt)));
  defines = (refl, (refl, (refl, tt)));
  results = (refl, (tt, (refl, tt)));
  body_results = (tt, tt);
  returns = refl;
  literals = refl;
  calls = refl;
  maps = refl;
  blocks = refl;
  indices = refl;
  body_names = refl;
}

keeps_example : KeepsAsked example_module
unfolding faults_by func_faults keeps_func has_form keeps_return returned_types same_types types_agree numbers_fit has_few_cells
    has_few_dims has_few_inputs has_few_loops operation_count generic_of structure_of has_all_maps is_projection iterators_fit maps_fit
    operands_follow extents_fit operands_fit body_number_fits body_typing is_scalar_op keeps_at_yield keeps_in_region region_fits result_fits
    calls_source defines_new has_region_in_order is_in_form keeps names_known op_faults region_faults takes_operands uses_defined counts_fit
    tensor_types typing_of
keeps_example = record {
  keeps_L2 = refl;
  keeps_L3 = refl;
  keeps_L4 = refl;
  keeps_L5 = refl;
  keeps_L6 = refl;
  keeps_L7 = refl;
  keeps_V1 = refl;
  keeps_V2 = refl;
  keeps_V3 = refl;
  keeps_V4 = refl;
  keeps_V5 = refl;
  keeps_V6 = refl;
  keeps_V7 = refl;
  keeps_V8 = refl;
  keeps_V9 = refl;
  keeps_V10 = refl;
}

pub example_of_source : IsOfSource example_func
example_of_source = of_source example_module 0 example_func formed_example keeps_example refl refl
