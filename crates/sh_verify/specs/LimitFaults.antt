-- What breaks a limit, without what is known where it stands: no limit asks for it but for the form.
use Rattle.std.specs.Prelude.{List, [], ◌++◌, Bool, true, false, ◌&&◌, ◌||◌, flat_map, length, nat_le, not}
use Rattle.std.specs.List.{list_all}
use Rattle.std.specs.Option.{option_map_or}
use Rattle.sh_base.specs.declared.places.Refusal.{Refusal}
use Rattle.sh_base.specs.declared.rules.Rule.TheVariants.{L2, L3, L4, L5, L6, L7}
use Rattle.sh_ir.specs.declared.bodies.BodyOp.{BodyOp}
use Rattle.sh_ir.specs.declared.functions.Func.{Func}
use Rattle.sh_ir.specs.declared.modules.CallItem.{CallItem}
use Rattle.sh_ir.specs.declared.modules.GridItem.{GridItem}
use Rattle.sh_ir.specs.declared.modules.Module.{Module}
use Rattle.sh_ir.specs.declared.operations.Op.{Op}
use Rattle.sh_ir.specs.declared.types.ValueType.{ValueType}
use Rattle.sh_ir.specs.Formed.{cuts_in, types_in}
use Rattle.sh_ir.specs.Limits.{has_few_cells, has_few_devices, has_few_dims, has_few_inputs, has_few_loops, instructions_in, is_source, max_instructions, max_operations, operations_in}
use Rattle.sh_base.specs.Limits.{max_axes}
use Rattle.sh_ir.specs.Rules.{op_types_of}
use Rattle.sh_ir.specs.Written.{ResultText, written_by, written_in_body}
use Rattle.sh_ir.specs.Written.ResultText.{a_type, a_width, unwritten}
use Rattle.sh_verify.specs.Least.{fault_unless}

abbrev pub are_few_dims : List ValueType → Bool
are_few_dims types = list_all has_few_dims types

abbrev pub are_few_cells : List ValueType → Bool
are_few_cells types = list_all has_few_cells types

unfoldable pub grid_limits : GridItem → List Refusal
grid_limits g =
    fault_unless (nat_le (length g.extents) max_axes) g.place L2
    ++ fault_unless (has_few_devices g) g.place L3

abbrev pub body_op_types : BodyOp → List ValueType
body_op_types op = types_in (written_in_body op.kind) op.result

unfoldable pub body_op_limits : BodyOp → List Refusal
body_op_limits op =
    fault_unless (are_few_dims (body_op_types op)) op.place L2
    ++ fault_unless (are_few_cells (body_op_types op)) op.place L4

-- those of the operations of the region
unfoldable pub region_limits : Op → List Refusal
region_limits op =
    option_map_or (λ body. flat_map body_op_limits body.ops) (written_by op.kind).body []

unfoldable pub op_limits : Bool → Op → List Refusal
op_limits in_device op =
    fault_unless (are_few_dims (op_types_of op) && has_few_loops op.kind) op.place L2
    ++ (fault_unless (are_few_cells (op_types_of op)) op.place L4
    ++ (fault_unless (has_few_inputs in_device op.kind) op.place L6 ++ region_limits op))

-- what is counted of a function in each form
unfoldable pub has_few_operations : Func → Bool
has_few_operations f = not (is_source f) || nat_le (operations_in f) max_operations

unfoldable pub has_few_instructions : Func → Bool
has_few_instructions f = is_source f || nat_le (instructions_in f) max_instructions

-- a test of all types of arguments, results and cuts
abbrev pub all_in_func : (ValueType → Bool) → Func → Bool
all_in_func test f =
    (list_all (λ arg. test arg.value_type) f.args && list_all test f.results)
    && list_all (λ cut. test cut.whole) (cuts_in f)

unfoldable pub func_head_limits : Func → List Refusal
func_head_limits f =
    fault_unless (all_in_func has_few_dims f) f.place L2
    ++ (fault_unless (all_in_func has_few_cells f) f.place L4
    ++ (fault_unless (has_few_operations f) f.place L5
    ++ fault_unless (has_few_instructions f) f.place L7))

unfoldable pub func_limits : Func → List Refusal
func_limits f = func_head_limits f ++ flat_map (op_limits (not (is_source f))) f.ops

unfoldable pub call_limits : CallItem → List Refusal
call_limits item =
    fault_unless (list_all (λ c. has_few_dims c.value_type) item.args) item.place L2
    ++ fault_unless (list_all (λ c. has_few_cells c.value_type) item.args) item.place L4

-- all of them
unfoldable pub module_limits : Module → List Refusal
module_limits m =
    flat_map grid_limits m.grids ++ (flat_map func_limits m.funcs ++ flat_map call_limits m.calls)

-- whether the text gives the type of the value
abbrev pub is_written : ResultText → Bool
is_written a_type = true
is_written a_width = true
is_written (unwritten its) = false
