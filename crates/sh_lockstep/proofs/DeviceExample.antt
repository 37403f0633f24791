-- A function in device form that keeps the limits and the rules, with extents that differ among devices: it can be run in step on parts of two sizes.
use Rattle.std.proofs.Common.{◌≡◌, ℕ, zero, suc, ◌<◌, List, [], ◌∷◌, Option, Some, None, refl, ap, ◌∙◌, arith, subst, sym}
use Rattle.std.proofs.lemmas.Option.{none-some, same_Some}
use Rattle.std.specs.Prelude.{IfSome, codes, false, get_or, pos}
use Rattle.std.specs.List.{AllByRecursion}
use Rattle.sh_base.specs.Cells.{IsCellOf}
use Rattle.sh_base.specs.Shape.{flat_of}
use Rattle.sh_base.specs.declared.numbers.Cell.{Cell}
use Rattle.sh_base.specs.declared.numbers.Cell.TheVariants.{Undef, Val}
use Rattle.sh_base.specs.declared.numbers.Width.TheVariants.{I32}
use Rattle.sh_base.specs.declared.places.Place.{Place}
use Rattle.sh_collectives.specs.DeviceForms.{HasNoExchange, IsOfDevice}
use Rattle.sh_grid.specs.Grid.{group_of, group_size_of, member_of, on_axes, place_in}
use Rattle.sh_ir.specs.declared.functions.Carry.{Carry}
use Rattle.sh_ir.specs.declared.functions.Cut.{Cut}
use Rattle.sh_ir.specs.declared.functions.Func.{Func}
use Rattle.sh_ir.specs.declared.modules.GridItem.{GridItem}
use Rattle.sh_ir.specs.declared.modules.Module.{Module}
use Rattle.sh_ir.specs.declared.operations.Op.{Op}
use Rattle.sh_ir.specs.declared.operations.OpKind.TheVariants as op_kind
use Rattle.sh_ir.specs.declared.shard_ops.GridAxes.{GridAxes}
use Rattle.sh_ir.specs.declared.types.Dim.TheVariants.{Differs, Known}
use Rattle.sh_ir.specs.declared.types.ValueType.{ValueType}
use Rattle.sh_ir.specs.declared.types.ValueType.TheVariants as value_type
use Rattle.sh_ir.specs.Agreement.{same_types, types_agree}
use Rattle.sh_ir.specs.Attributes.{along_fits, axes_fit, numbers_fit, pieces_fit}
use Rattle.sh_ir.specs.Faults.{faults_by, func_faults, has_form, keeps_func, keeps_grid, keeps_return, returned_types}
use Rattle.sh_ir.specs.Formed.{IsFormed}
use Rattle.sh_ir.specs.Limits.{has_few_cells, has_few_devices, has_few_dims, has_few_inputs, has_few_loops, instruction_count}
use Rattle.sh_ir.specs.Loops.{generic_of, structure_of}
use Rattle.sh_ir.specs.Operands.{operands_fit}
use Rattle.sh_ir.specs.Results.{along, result_fits}
use Rattle.sh_ir.specs.Rules.{calls_source, defines_new, has_region_in_order, is_in_form, keeps, names_known, op_faults, region_faults, takes_operands, uses_defined}
use Rattle.sh_ir.specs.Scope.{group_size}
use Rattle.sh_ir.specs.Typing.{counts_fit, tensor_types, typing_of}
use Rattle.sh_sem.specs.Collected.{collected, collecting, gathers, shapes_collected}
use Rattle.sh_sem.specs.Given.{gives_piece, giving, shape_given}
use Rattle.sh_sem.specs.Steps.{device_function, steps_on}
use Rattle.sh_tensor.specs.Tensor.{IsTensor, TensorValue, at, cells_of}
use Rattle.sh_eval.specs.Devices.{AreLocalArguments, GivesFewAlong, shape_on, values_at}
use Rattle.sh_eval.specs.Values.{IsFew}
use Rattle.sh_eval.proofs.AskedRules.{KeepsAsked, of_device}
use Rattle.sh_lockstep.specs.Behind.{CanLock, arguments_in}
use Rattle.sh_lockstep.proofs.Verified.{can_lock}

abbrev on_line : ℕ → Place
on_line line = record { line = line; column = 5 }

abbrev part : ValueType
part = value_type.Tensor (record { dims = Differs ∷ []; width = I32 })

abbrev whole : ValueType
whole = value_type.Tensor (record { dims = Known 3 ∷ []; width = I32 })

-- @g(shape = 2)
abbrev pair : GridItem
pair = record { name = codes "g"; extents = pos 2 ∷ []; place = on_line 1 }

abbrev on_pair : GridAxes
on_pair = record { grid = codes "g"; grid_axes = pos 0 ∷ [] }

abbrev cut : Cut
cut = record { whole = whole; sharding = record { grid = codes "g"; split = (pos 0 ∷ []) ∷ []; halos = []; offsets = [] } }

abbrev carry : Carry
carry = record { grid = codes "g"; args = cut ∷ []; results = cut ∷ [] }

-- all parts, one after the other
abbrev gather : Op
gather = record {
  kind = op_kind.AllGather (record { on = on_pair; gather_axis = 0; operand_type = part });
  operands = 0 ∷ [];
  defines = Some 1;
  result = whole;
  place = on_line 3;
}

-- and of these the first two cells, or the last one
abbrev keep : Op
keep = record {
  kind =
      op_kind.Take (record { on = on_pair; axis = 0; starts = pos 0 ∷ pos 2 ∷ []; sizes = pos 2 ∷ pos 1 ∷ []; operand_type = whole });
  operands = 1 ∷ [];
  defines = Some 2;
  result = part;
  place = on_line 4;
}

abbrev last : Op
last = record {
  kind = op_kind.Return (record { operand_types = part ∷ [] });
  operands = 2 ∷ [];
  defines = None;
  result = value_type.Nothing;
  place = on_line 5;
}

abbrev func : Func
func = record {
  name = codes "f";
  private = false;
  args = record { id = 0; value_type = part } ∷ [];
  results = part ∷ [];
  ops = gather ∷ keep ∷ last ∷ [];
  carry = Some carry;
  place = on_line 2;
}

abbrev text : Module
text = record { name = None; grids = pair ∷ []; funcs = func ∷ []; calls = [] }

formed : IsFormed text
formed = record {
  names = refl;
  numbers = refl;
  types = refl;
  grids = refl;
  cuts = ((refl, (refl, tt)), tt);
  operands = (refl, (refl, (tt, tt)));
  body_operands = tt;
  captures = (tt, (tt, (tt, tt)));
  defines = (refl, (refl, (refl, tt)));
  results = (tt, (tt, (refl, tt)));
  body_results = tt;
  returns = refl;
  literals = refl;
  calls = refl;
  maps = refl;
  blocks = refl;
  indices = refl;
  body_names = refl;
}

keeps_asked : KeepsAsked text
unfolding faults_by func_faults keeps_grid keeps_func has_form keeps_return returned_types same_types types_agree numbers_fit along_fits
    axes_fit pieces_fit group_size has_few_cells has_few_devices has_few_dims has_few_inputs has_few_loops instruction_count generic_of
    structure_of operands_fit result_fits along calls_source defines_new has_region_in_order is_in_form keeps names_known op_faults
    region_faults takes_operands uses_defined counts_fit tensor_types typing_of
keeps_asked = record {
  keeps_L2 = refl;
  keeps_L3 = refl;
  keeps_L4 = refl;
  keeps_L5 = refl;
  keeps_L6 = refl;
  keeps_L7 = refl;
  keeps_V1 = refl;
  keeps_V2 = refl;
  keeps_V3 = refl;
  keeps_V4 = refl;
  keeps_V5 = refl;
  keeps_V6 = refl;
  keeps_V7 = refl;
  keeps_V8 = refl;
  keeps_V9 = refl;
  keeps_V10 = refl;
}

is_of_device : IsOfDevice func (2 ∷ [])
is_of_device = of_device text 0 func carry pair (2 ∷ []) formed keeps_asked refl refl refl refl

no_exchange : HasNoExchange func
unfolding device_function
no_exchange zero op x at is = let e : gather.kind ≡ op_kind.UpdateHalo x = ap (λ (o : Op). o.kind) (same_Some gather op at) ∙ is in absurd (cc)
no_exchange (suc zero) op x at is = let e : keep.kind ≡ op_kind.UpdateHalo x = ap (λ (o : Op). o.kind) (same_Some keep op at) ∙ is in absurd (cc)
no_exchange (suc (suc k)) op x at is = absurd (none-some op at)

-- ---- two cells on the first device, and one on the second

abbrev vector : ℕ → List Cell → TensorValue
vector n cells = record { shape = n ∷ []; width = I32; cells = cells }

abbrev parts : List (List TensorValue)
parts = (vector 2 (Val 10 ∷ Val 20 ∷ []) ∷ []) ∷ (vector 1 (Val 30 ∷ []) ∷ []) ∷ []

cell_within : (cells : List Cell) (k : ℕ) → AllByRecursion (IsCellOf I32) cells → IsCellOf I32 (get_or cells k Undef)
cell_within [] k h = tt
cell_within (c ∷ cells) zero h = h.0
cell_within (c ∷ cells) (suc k) h = cell_within cells k h.1

first_whole : IsTensor (vector 2 (Val 10 ∷ Val 20 ∷ []))
unfolding at
first_whole = record {
  counted = refl;
  fitting = λ i inside. cell_within (Val 10 ∷ Val 20 ∷ []) (flat_of (2 ∷ []) i) (omega arith, (omega arith, tt));
}

second_whole : IsTensor (vector 1 (Val 30 ∷ []))
unfolding at
second_whole = record {
  counted = refl;
  fitting = λ i inside. cell_within (Val 30 ∷ []) (flat_of (1 ∷ []) i) (omega arith, tt);
}

are_local : AreLocalArguments func (2 ∷ []) (arguments_in parts)
are_local zero l = (record { extents = refl; width = refl; whole = first_whole; few = omega arith }, tt)
are_local (suc zero) l = (record { extents = refl; width = refl; whole = second_whole; few = omega arith }, tt)
are_local (suc (suc c)) l = absurd (omega (arith, l))

few_shape : (o : Option (List ℕ)) (n : ℕ) → o ≡ Some (n ∷ []) → IsFew (n ∷ []) → IfSome o IsFew
few_shape o n e few = subst (λ p. IfSome p IsFew) (sym e) few

gathered_shape : (c : ℕ) → c < 2 → shape_on (2 ∷ []) gather (values_at func (2 ∷ []) (arguments_in parts) 0) c ≡ Some (3 ∷ [])
unfolding steps_on device_function typing_of collected shapes_collected collecting gathers group_of member_of place_in group_size_of on_axes
gathered_shape zero l = refl
gathered_shape (suc zero) l = refl
gathered_shape (suc (suc c)) l = absurd (omega (arith, l))

kept_first : shape_on (2 ∷ []) keep (values_at func (2 ∷ []) (arguments_in parts) 1) 0 ≡ Some (2 ∷ [])
unfolding steps_on device_function typing_of collected shapes_collected collecting gathers group_of member_of place_in group_size_of on_axes
    shape_given giving gives_piece at cells_of
kept_first = refl

kept_second : shape_on (2 ∷ []) keep (values_at func (2 ∷ []) (arguments_in parts) 1) 1 ≡ Some (1 ∷ [])
unfolding steps_on device_function typing_of collected shapes_collected collecting gathers group_of member_of place_in group_size_of on_axes
    shape_given giving gives_piece at cells_of
kept_second = refl

few_along : GivesFewAlong func (2 ∷ []) (arguments_in parts)
unfolding device_function
few_along zero op at reached c l =
    subst (λ o. IfSome (shape_on (2 ∷ []) o (values_at func (2 ∷ []) (arguments_in parts) 0) c) IsFew) (same_Some gather op at)
    (few_shape (shape_on (2 ∷ []) gather (values_at func (2 ∷ []) (arguments_in parts) 0) c) 3 (gathered_shape c (omega (arith, l))) (omega arith))
few_along (suc zero) op at reached zero l =
    subst (λ o. IfSome (shape_on (2 ∷ []) o (values_at func (2 ∷ []) (arguments_in parts) 1) 0) IsFew) (same_Some keep op at)
    (few_shape (shape_on (2 ∷ []) keep (values_at func (2 ∷ []) (arguments_in parts) 1) 0) 2 kept_first (omega arith))
few_along (suc zero) op at reached (suc zero) l =
    subst (λ o. IfSome (shape_on (2 ∷ []) o (values_at func (2 ∷ []) (arguments_in parts) 1) 1) IsFew) (same_Some keep op at)
    (few_shape (shape_on (2 ∷ []) keep (values_at func (2 ∷ []) (arguments_in parts) 1) 1) 1 kept_second (omega arith))
few_along (suc zero) op at reached (suc (suc c)) l = absurd (omega (arith, l))
few_along (suc (suc k)) op at reached c l = absurd (none-some op at)

-- what is asked of a run in step holds
pub can_be_run : CanLock func (2 ∷ []) parts
can_be_run = can_lock func (2 ∷ []) parts is_of_device no_exchange refl are_local few_along
