-- The laws of an interface by computation, on a grid of 2: a collapse, and a sum along one dimension whose parts are combined.
use Rattle.std.proofs.Common.{◌≡◌, ◌≤◌, ℕ, zero, suc, pos, true, List, [], ◌∷◌, map, Some, None, ap, refl, rules, sym, arith}
use Rattle.std.proofs.lemmas.Option.{none-some, same_Some}
use Rattle.std.specs.Prelude.{Bool, ◌&&◌, Option, is_some, length, slice_get}
use Rattle.std.specs.List.{range_with_len}
use Rattle.sh_base.specs.declared.numbers.Cell.TheVariants.{Val}
use Rattle.sh_base.specs.declared.numbers.Width.TheVariants.{I32}
use Rattle.sh_base.specs.declared.operations.BinOp.TheVariants.{Addi}
use Rattle.sh_base.specs.declared.operations.Kind.TheVariants.{Sum}
use Rattle.sh_base.specs.declared.rules.Rule.{Rule}
use Rattle.sh_base.specs.declared.rules.Rule.TheVariants.{L2, L4, L6, V1, V2, V3, V4, V5, V6, V8, V9, V10}
use Rattle.sh_grid.specs.Grid.{GridValue, IsGrid, group_of, group_size_of, member_of, on_axes, place_in}
use Rattle.sh_int.specs.Elements.{element_of, cast_of}
use Rattle.sh_int.specs.Reduction.{combine_of}
use Rattle.sh_ir.specs.declared.arith_ops.Contents.TheVariants.{Held}
use Rattle.sh_ir.specs.declared.bodies.BodyKind.TheVariants as body_kind
use Rattle.sh_base.specs.declared.places.Refusal.{Refusal}
use Rattle.sh_ir.specs.declared.modules.GridItem.{GridItem}
use Rattle.sh_ir.specs.declared.operations.Op.{Op}
use Rattle.sh_ir.specs.declared.operations.OpKind.{OpKind}
use Rattle.sh_ir.specs.declared.operations.OpKind.TheVariants.{CollapseShape, Constant, Fill, Reduce}
use Rattle.sh_ir.specs.declared.types.ValueType.{ValueType}
use Rattle.sh_ir.specs.declared.types.ValueType.TheVariants.{Scalar}
use Rattle.sh_ir.specs.Formed.{is_scalar}
use Rattle.sh_ir.specs.Agreement.{types_agree}
use Rattle.sh_ir.specs.Loops.{generic_of, structure_of}
use Rattle.sh_ir.specs.Attributes.{along_fits, axes_fit, groups_fit, numbers_fit}
use Rattle.sh_ir.specs.Limits.{has_few_cells, has_few_dims, has_few_inputs, has_few_loops}
use Rattle.sh_ir.specs.Operands.{all_of_bits, operands_fit, follows_maps, extents_fit}
use Rattle.sh_ir.specs.RegionRules.{body_number_fits, body_typing, is_scalar_op, keeps_at_yield, keeps_in_region, region_fits}
use Rattle.sh_ir.specs.Results.{is_expanded, products_fit, result_fits}
use Rattle.sh_ir.specs.Rules.{calls_source, defines_new, has_region_in_order, is_in_form, keeps, names_known, op_faults, ops_faults, region_faults, takes_operands, uses_defined}
use Rattle.sh_ir.specs.Scope.{Scope, Value, group_size}
use Rattle.sh_ir.specs.Typing.{counts_fit, tensor_types, typing_of}
use Rattle.sh_pieces.specs.Instructions.{State, gives}
use Rattle.sh_pieces.specs.Promises.{cuts}
use Rattle.sh_pieces.specs.Runs.{at_start, next_state, state_after}
use Rattle.sh_sem.specs.Collected.{collected, collecting, reduces, shapes_collected}
use Rattle.sh_sem.specs.Given.{alone, built_of, cell_given, given, gives_cells, gives_collapse, gives_constant, gives_nest, giving, shape_given}
use Rattle.sh_sem.specs.Nest.{folded_cell}
use Rattle.sh_sem.specs.Region.{body_cell, placed, region_cell}
use Rattle.sh_sem.specs.Scalars.{formula_cell}
use Rattle.sh_sem.specs.Steps.{steps_on}
use Rattle.sh_sharding.specs.Cut.{cut_of}
use Rattle.sh_sharding.specs.LocalTypes.{local_dim, part_sizes}
use Rattle.sh_sharding.specs.OffsetLists.{normal_mark}
use Rattle.sh_sharding.specs.Sharding.{local_extent, offset_at, offset_of, offsets_of, part_of, part_size, parts_of, size_in, size_of_part, start_in}
use Rattle.sh_sharding.specs.Splits.{tensor_splitting}
use Rattle.sh_tensor.specs.Tensor.{TensorValue, at, cells_of}
use Rattle.sh_iface.specs.declared.options.Split.{Split}
use Rattle.sh_iface.specs.declared.parts.LocalPart.{LocalPart}
use Rattle.sh_iface.specs.declared.options.How.TheVariants.{Same}
use Rattle.sh_iface.specs.Lawful.{IsFollowed, IsNest, IsNestValue, operand_types}
use Rattle.sh_iface.specs.LoopNest.{Loop, LoopNest, value_at}
use Rattle.sh_iface.specs.Meaning.{Meaning, instructions, local_type, operand_splits, result_split}
use Rattle.sh_iface.specs.Splits.{OptionValue, implied_of, split_at, split_of}
use Rattle.sh_iface.specs.Table.{follows, parallel}
use Rattle.sh_iface.specs.Valid.{IsValid, unsplit_loops}
use Rattle.sh_iface.proofs.Implied.{unsplit_valid}
use Rattle.sh_iface.proofs.Examples.{tensor, here, one, sum_nest, collapse_nest, grid, along}

-- ---- words

abbrev does : OpKind → List ℕ → ℕ → ValueType → Op
does kind operands name result =
    record { kind = kind; operands = operands; defines = Some name; result = result; place = here }

-- the local type of operand v, or of the result, under an option
abbrev local : LoopNest → GridValue → OptionValue → ℕ → ValueType
local nest g o v = local_type (split_of g nest o (value_at nest v))

-- the first loop in halves, or the second; in parts of other lengths
abbrev halves : Option Split
halves = along (pos 0 ∷ pos 2 ∷ pos 4 ∷ [])

abbrev uneven : Option Split
uneven = along (pos 0 ∷ pos 1 ∷ pos 4 ∷ [])

abbrev numbers : List ℕ → List ℕ → TensorValue
numbers shape ns = record { shape = shape; width = I32; cells = map (λ n. Val n) ns }

-- ---- rules, in a scope where the operands have their local types

abbrev pub asked : List Rule
asked = L2 ∷ L4 ∷ L6 ∷ V1 ∷ V2 ∷ V3 ∷ V4 ∷ V5 ∷ V6 ∷ V8 ∷ V9 ∷ V10 ∷ []

abbrev item : GridItem
item = record { name = grid.name; extents = pos 2 ∷ []; place = here }

abbrev values_from : ℕ → List ValueType → List Value
values_from name [] = []
values_from name (t ∷ types) = record { name = name; value_type = t; is_constant = is_scalar t } ∷ values_from (suc name) types

abbrev scope_of : List ValueType → Scope
scope_of types = record { grids = item ∷ []; funcs = []; device = Some grid.name; values = values_from 0 types }

abbrev faults : Meaning → OptionValue → List Refusal
faults m o = ops_faults asked (scope_of (operand_types m grid o)) (instructions m grid o)

-- ---- what two devices have

-- each of them has a value of each instruction
abbrev all_run : List Op → State TensorValue → Bool
all_run [] s = true
all_run (i ∷ is) s =
    (is_some (gives (steps_on (2 ∷ [])) i s 0) && is_some (gives (steps_on (2 ∷ [])) i s 1))
    && all_run is (next_state (steps_on (2 ∷ [])) i s)

-- with the cuts of whole operands
abbrev start : Meaning → OptionValue → List TensorValue → State TensorValue
start m o ts = at_start (range_with_len 0 (length ts)) (cuts tensor_splitting (operand_splits m grid o) ts)

-- what a device has under a name after all instructions
abbrev behind : Meaning → OptionValue → List TensorValue → ℕ → ℕ → Option TensorValue
behind m o ts = state_after (steps_on (2 ∷ [])) (instructions m grid o) (start m o ts)

-- its cut of a whole result
abbrev own_cut : Meaning → OptionValue → TensorValue → ℕ → TensorValue
own_cut m o t c = cut_of (result_split m grid o).sharding t c

-- the grid is in order
grid_order : IsGrid grid.extents
grid_order = record { some = omega arith; few = omega arith; positive = search rules; small = omega arith }

abbrev reducing : Loop
reducing = record { extent = 4; splittable = true; kind = Some Sum }

-- ---- a collapse: three cells a row

abbrev collapsing : ValueType → OpKind
collapsing source = CollapseShape (record { reassociation = (pos 0 ∷ pos 1 ∷ []) ∷ []; source_type = source })

abbrev collapse_part : GridValue → OptionValue → LocalPart
collapse_part g o = record {
  ops = does (collapsing (local collapse_nest g o 0)) (0 ∷ []) 1 (local collapse_nest g o 1) ∷ [];
  combine = None;
}

abbrev collapse : Meaning
collapse = record {
  nest = collapse_nest;
  scalars = [];
  whole = given (does (collapsing (tensor (4 ∷ 3 ∷ []))) (0 ∷ []) 1 (tensor (12 ∷ []))) alone;
  place = here;
  part = collapse_part;
}

-- where no loop is split the option is a valid one
collapse_order : IsNest collapse_nest
collapse_order = record { few = omega arith; small = (omega arith, tt); values = values; splittable = followed }
  where
    values : (v : ℕ) → v ≤ 1 → IsNestValue 1 (value_at collapse_nest v)
    values zero l = record { short = omega arith; small = omega arith; below = (omega arith, (tt, tt)) }
    values (suc zero) l = record { short = omega arith; small = omega arith; below = (omega arith, tt) }
    values (suc (suc v)) l = absurd (omega arith)

    followed : (l : ℕ) (loop : Loop) → slice_get collapse_nest.loops l ≡ Some loop → loop.splittable ≡ true → IsFollowed collapse_nest l
    followed zero loop e h = record {
      value = 0;
      there = omega arith;
      dim = 0;
      found = follows Same 0 4;
      at = refl;
      follows = refl;
      extent = λ other f. ap (λ (x : Loop). x.extent) (sym (same_Some (parallel true 4) other f));
    }
    followed (suc l) loop e h = absurd (none-some loop e)

collapse_replicated : IsValid collapse_nest grid (unsplit_loops collapse_nest)
collapse_replicated = unsplit_valid collapse_nest collapse_order grid grid_order

collapse_halves_keep : faults collapse (halves ∷ []) ≡ []
unfolding instructions local_type implied_of normal_mark offsets_of offset_of local_dim part_sizes parts_of group_size_of on_axes part_size size_of_part types_agree structure_of generic_of counts_fit typing_of tensor_types along_fits axes_fit groups_fit numbers_fit all_of_bits operands_fit follows_maps extents_fit is_expanded products_fit result_fits body_number_fits body_typing is_scalar_op keeps_at_yield keeps_in_region region_fits group_size has_few_cells has_few_dims has_few_inputs has_few_loops calls_source defines_new has_region_in_order is_in_form keeps names_known op_faults region_faults takes_operands uses_defined
collapse_halves_keep = refl

-- parts of one row and of three
collapse_uneven_keep : faults collapse (uneven ∷ []) ≡ []
unfolding instructions local_type implied_of normal_mark offsets_of offset_of local_dim part_sizes parts_of group_size_of on_axes part_size size_of_part types_agree structure_of generic_of counts_fit typing_of tensor_types along_fits axes_fit groups_fit numbers_fit all_of_bits operands_fit follows_maps extents_fit is_expanded products_fit result_fits body_number_fits body_typing is_scalar_op keeps_at_yield keeps_in_region region_fits group_size has_few_cells has_few_dims has_few_inputs has_few_loops calls_source defines_new has_region_in_order is_in_form keeps names_known op_faults region_faults takes_operands uses_defined
collapse_uneven_keep = refl

collapse_whole_keeps : faults collapse (None ∷ []) ≡ []
unfolding instructions local_type implied_of normal_mark offsets_of offset_of local_dim part_sizes parts_of group_size_of on_axes part_size size_of_part types_agree structure_of generic_of counts_fit typing_of tensor_types along_fits axes_fit groups_fit numbers_fit all_of_bits operands_fit follows_maps extents_fit is_expanded products_fit result_fits body_number_fits body_typing is_scalar_op keeps_at_yield keeps_in_region region_fits group_size has_few_cells has_few_dims has_few_inputs has_few_loops calls_source defines_new has_region_in_order is_in_form keeps names_known op_faults region_faults takes_operands uses_defined
collapse_whole_keeps = refl

abbrev rows : TensorValue
rows = numbers (4 ∷ 3 ∷ []) (1 ∷ 2 ∷ 3 ∷ 4 ∷ 5 ∷ 6 ∷ 7 ∷ 8 ∷ 9 ∷ 10 ∷ 11 ∷ 12 ∷ [])

abbrev cells : TensorValue
cells = numbers (12 ∷ []) (1 ∷ 2 ∷ 3 ∷ 4 ∷ 5 ∷ 6 ∷ 7 ∷ 8 ∷ 9 ∷ 10 ∷ 11 ∷ 12 ∷ [])

collapsed_whole : collapse.whole (rows ∷ []) ≡ Some cells
unfolding instructions steps_on given shape_given typing_of local_type implied_of cut_of local_dim part_sizes parts_of group_size_of on_axes part_size size_of_part offset_of normal_mark offsets_of local_extent group_of member_of place_in cast_of element_of combine_of structure_of collected collecting reduces shapes_collected built_of cell_given gives_cells gives_collapse gives_constant gives_nest giving folded_cell body_cell placed region_cell formula_cell offset_at part_of size_in start_in at cells_of
collapsed_whole = refl

collapse_first : behind collapse (uneven ∷ []) (rows ∷ []) 0 1 ≡ Some (numbers (3 ∷ []) (1 ∷ 2 ∷ 3 ∷ []))
unfolding instructions steps_on given shape_given typing_of local_type implied_of cut_of local_dim part_sizes parts_of group_size_of on_axes part_size size_of_part offset_of normal_mark offsets_of local_extent group_of member_of place_in cast_of element_of combine_of structure_of collected collecting reduces shapes_collected built_of cell_given gives_cells gives_collapse gives_constant gives_nest giving folded_cell body_cell placed region_cell formula_cell offset_at part_of size_in start_in at cells_of
collapse_first = refl

collapse_first_cut : own_cut collapse (uneven ∷ []) cells 0 ≡ numbers (3 ∷ []) (1 ∷ 2 ∷ 3 ∷ [])
unfolding instructions steps_on given shape_given typing_of local_type implied_of cut_of local_dim part_sizes parts_of group_size_of on_axes part_size size_of_part offset_of normal_mark offsets_of local_extent group_of member_of place_in cast_of element_of combine_of structure_of collected collecting reduces shapes_collected built_of cell_given gives_cells gives_collapse gives_constant gives_nest giving folded_cell body_cell placed region_cell formula_cell offset_at part_of size_in start_in at cells_of
collapse_first_cut = refl

-- ---- a sum along the second dimension

-- the names of its region stand behind those of the values: the part defines one value, or three
abbrev adding : ValueType → ValueType → ℕ → OpKind
adding source outs first = Reduce (record {
  ins_outs = one source outs;
  dimensions = pos 1 ∷ [];
  body = record {
    args = first ∷ suc first ∷ [];
    widths = I32 ∷ I32 ∷ [];
    ops = record { kind = body_kind.Binary Addi; operands = suc first ∷ first ∷ []; defines = suc (suc first); result = Scalar I32; place = here } ∷ [];
    yields = suc (suc first);
    width = I32;
    place = here;
  };
})

-- the neutral of a sum, the outs filled with it, and the sum of the part
abbrev sum_in_parts : ValueType → ValueType → LocalPart
sum_in_parts source outs = record {
  ops =
      does (Constant (record { value_type = Scalar I32; contents = Held (Val 0 ∷ []) })) [] 2 (Scalar I32)
      ∷ does (Fill (one (Scalar I32) outs)) (2 ∷ 1 ∷ []) 3 outs
      ∷ does (adding source outs 5) (0 ∷ 3 ∷ []) 4 outs
      ∷ [];
  combine = Some Sum;
}

abbrev sum_alone : ValueType → ValueType → LocalPart
sum_alone source outs = record { ops = does (adding source outs 3) (0 ∷ 1 ∷ []) 2 outs ∷ []; combine = None }

sum_order : IsNest sum_nest
sum_order = record { few = omega arith; small = (omega arith, (omega arith, tt)); values = values; splittable = followed }
  where
    values : (v : ℕ) → v ≤ 2 → IsNestValue 2 (value_at sum_nest v)
    values zero l = record { short = omega arith; small = omega arith; below = (omega arith, (omega arith, tt)) }
    values (suc zero) l = record { short = omega arith; small = omega arith; below = (omega arith, tt) }
    values (suc (suc zero)) l = record { short = omega arith; small = omega arith; below = (omega arith, tt) }
    values (suc (suc (suc v))) l = absurd (omega arith)

    followed : (l : ℕ) (loop : Loop) → slice_get sum_nest.loops l ≡ Some loop → loop.splittable ≡ true → IsFollowed sum_nest l
    followed zero loop e h = record {
      value = 0;
      there = omega arith;
      dim = 0;
      found = follows Same 0 2;
      at = refl;
      follows = refl;
      extent = λ other f. ap (λ (x : Loop). x.extent) (sym (same_Some (parallel true 2) other f));
    }
    followed (suc zero) loop e h = record {
      value = 0;
      there = omega arith;
      dim = 1;
      found = follows Same 1 4;
      at = refl;
      follows = refl;
      extent = λ other f. ap (λ (x : Loop). x.extent) (sym (same_Some reducing other f));
    }
    followed (suc (suc l)) loop e h = absurd (none-some loop e)

sum_replicated : IsValid sum_nest grid (unsplit_loops sum_nest)
sum_replicated = unsplit_valid sum_nest sum_order grid grid_order

-- the reduction loop is the second
abbrev sum_part : GridValue → OptionValue → LocalPart
sum_part g o =
    elim (split_at o 1) [
      | None ↦ sum_alone (local sum_nest g o 0) (local sum_nest g o 1)
      | Some split ↦ sum_in_parts (local sum_nest g o 0) (local sum_nest g o 1)
    ]

abbrev sum : Meaning
sum = record {
  nest = sum_nest;
  scalars = [];
  whole = given (does (adding (tensor (2 ∷ 4 ∷ [])) (tensor (2 ∷ [])) 3) (0 ∷ 1 ∷ []) 2 (tensor (2 ∷ []))) alone;
  place = here;
  part = sum_part;
}

sum_halves_keep : faults sum (None ∷ halves ∷ []) ≡ []
unfolding instructions local_type implied_of normal_mark offsets_of offset_of local_dim part_sizes parts_of group_size_of on_axes part_size size_of_part types_agree structure_of generic_of counts_fit typing_of tensor_types along_fits axes_fit groups_fit numbers_fit all_of_bits operands_fit follows_maps extents_fit is_expanded products_fit result_fits body_number_fits body_typing is_scalar_op keeps_at_yield keeps_in_region region_fits group_size has_few_cells has_few_dims has_few_inputs has_few_loops calls_source defines_new has_region_in_order is_in_form keeps names_known op_faults region_faults takes_operands uses_defined
sum_halves_keep = refl

sum_uneven_keep : faults sum (None ∷ uneven ∷ []) ≡ []
unfolding instructions local_type implied_of normal_mark offsets_of offset_of local_dim part_sizes parts_of group_size_of on_axes part_size size_of_part types_agree structure_of generic_of counts_fit typing_of tensor_types along_fits axes_fit groups_fit numbers_fit all_of_bits operands_fit follows_maps extents_fit is_expanded products_fit result_fits body_number_fits body_typing is_scalar_op keeps_at_yield keeps_in_region region_fits group_size has_few_cells has_few_dims has_few_inputs has_few_loops calls_source defines_new has_region_in_order is_in_form keeps names_known op_faults region_faults takes_operands uses_defined
sum_uneven_keep = refl

-- rows on devices: no loop of the reduction is split
sum_rows_keep : faults sum (along (pos 0 ∷ pos 1 ∷ pos 2 ∷ []) ∷ None ∷ []) ≡ []
unfolding instructions local_type implied_of normal_mark offsets_of offset_of local_dim part_sizes parts_of group_size_of on_axes part_size size_of_part types_agree structure_of generic_of counts_fit typing_of tensor_types along_fits axes_fit groups_fit numbers_fit all_of_bits operands_fit follows_maps extents_fit is_expanded products_fit result_fits body_number_fits body_typing is_scalar_op keeps_at_yield keeps_in_region region_fits group_size has_few_cells has_few_dims has_few_inputs has_few_loops calls_source defines_new has_region_in_order is_in_form keeps names_known op_faults region_faults takes_operands uses_defined
sum_rows_keep = refl

abbrev terms : List TensorValue
terms = numbers (2 ∷ 4 ∷ []) (1 ∷ 2 ∷ 3 ∷ 4 ∷ 5 ∷ 6 ∷ 7 ∷ 8 ∷ []) ∷ numbers (2 ∷ []) (100 ∷ 200 ∷ []) ∷ []

summed_whole : sum.whole terms ≡ Some (numbers (2 ∷ []) (110 ∷ 226 ∷ []))
unfolding instructions steps_on given shape_given typing_of local_type implied_of cut_of local_dim part_sizes parts_of group_size_of on_axes part_size size_of_part offset_of normal_mark offsets_of local_extent group_of member_of place_in cast_of element_of combine_of structure_of collected collecting reduces shapes_collected built_of cell_given gives_cells gives_collapse gives_constant gives_nest giving folded_cell body_cell placed region_cell formula_cell offset_at part_of size_in start_in at cells_of
summed_whole = refl

sum_run : all_run (instructions sum grid (None ∷ uneven ∷ [])) (start sum (None ∷ uneven ∷ []) terms) ≡ true
unfolding instructions steps_on given shape_given typing_of local_type implied_of cut_of local_dim part_sizes parts_of group_size_of on_axes part_size size_of_part offset_of normal_mark offsets_of local_extent group_of member_of place_in cast_of element_of combine_of structure_of collected collecting reduces shapes_collected built_of cell_given gives_cells gives_collapse gives_constant gives_nest giving folded_cell body_cell placed region_cell formula_cell offset_at part_of size_in start_in at cells_of
sum_run = refl

-- each device's own sum, and behind the combination and the outs the whole one, on both
sum_first : behind sum (None ∷ uneven ∷ []) terms 0 4 ≡ Some (numbers (2 ∷ []) (1 ∷ 5 ∷ []))
unfolding instructions steps_on given shape_given typing_of local_type implied_of cut_of local_dim part_sizes parts_of group_size_of on_axes part_size size_of_part offset_of normal_mark offsets_of local_extent group_of member_of place_in cast_of element_of combine_of structure_of collected collecting reduces shapes_collected built_of cell_given gives_cells gives_collapse gives_constant gives_nest giving folded_cell body_cell placed region_cell formula_cell offset_at part_of size_in start_in at cells_of
sum_first = refl

sum_both : map (λ c. behind sum (None ∷ uneven ∷ []) terms c 6) (0 ∷ 1 ∷ []) ≡ Some (numbers (2 ∷ []) (110 ∷ 226 ∷ [])) ∷ Some (numbers (2 ∷ []) (110 ∷ 226 ∷ [])) ∷ []
unfolding instructions steps_on given shape_given typing_of local_type implied_of cut_of local_dim part_sizes parts_of group_size_of on_axes part_size size_of_part offset_of normal_mark offsets_of local_extent group_of member_of place_in cast_of element_of combine_of structure_of collected collecting reduces shapes_collected built_of cell_given gives_cells gives_collapse gives_constant gives_nest giving folded_cell body_cell placed region_cell formula_cell offset_at part_of size_in start_in at cells_of
sum_both = refl
