-- The faults of a module: each limit and each rule that it breaks, at its place.
use Rattle.std.specs.Prelude.{◌≡◌, List, [], ◌∷◌, ◌++◌, Option, Some, None, Bool, true, not, ◌&&◌, ◌||◌, nat_eq, nat_le, length, map, flat_map, is_none, is_some}
use Rattle.std.specs.List.{list_all, list_any}
use Rattle.std.specs.Option.{option_map_or}
use Rattle.sh_base.specs.declared.places.Refusal.{Refusal}
use Rattle.sh_base.specs.declared.rules.Rule.{Rule}
use Rattle.sh_base.specs.declared.rules.Rule.TheVariants.{L2, L3, L4, L5, L6, L7, V1, V2, V3, V4, V5, V6, V7, V8, V9, V10}
use Rattle.sh_ir.specs.declared.functions.Carry.{Carry}
use Rattle.sh_ir.specs.declared.functions.Func.{Func}
use Rattle.sh_ir.specs.declared.modules.CallItem.{CallItem}
use Rattle.sh_ir.specs.declared.modules.GridItem.{GridItem}
use Rattle.sh_ir.specs.declared.modules.Module.{Module}
use Rattle.sh_ir.specs.declared.operations.Op.{Op}
use Rattle.sh_ir.specs.declared.operations.OpKind.{OpKind}
use Rattle.sh_ir.specs.declared.types.ValueType.{ValueType}
use Rattle.sh_ir.specs.Agreement.{has_differing, is_tensor, same_types}
use Rattle.sh_ir.specs.Formed.{cuts_in, func_types, is_scalar}
use Rattle.sh_ir.specs.Limits.{has_few_dims, has_few_cells, has_few_devices, instructions_in, is_source, max_instructions, max_operations, operations_in}
use Rattle.sh_base.specs.Limits.{max_axes}
use Rattle.sh_ir.specs.Literals.{is_broken}
use Rattle.sh_ir.specs.declared.operations.OpKind.TheVariants.{Constant, Binary, Compare, Select, Cast, Empty, ExtractSlice, InsertSlice, CollapseShape, ExpandShape, Fill, Matmul, BatchMatmul, Matvec, Vecmat, Dot, Conv1d, Conv2d, Transpose, Broadcast, Reduce, Generic, Sharding, Shard, AllGather, AllSlice, AllReduce, ReduceScatter, AllToAll, Shift, UpdateHalo, Take, Pad, Join, Call, Return}
use Rattle.sh_ir.specs.Numbers.{are_distinct, is_positive}
use Rattle.sh_ir.specs.Rules.{faults_at, ops_faults}
use Rattle.sh_ir.specs.Scope.{func_item, grid_item, scope_of}
use Rattle.sh_ir.specs.Shapes.{argument_types}

-- The limits, and the rules, in the order in which the least is taken at one place.
abbrev pub the_limits : List Rule
the_limits = L2 ∷ L3 ∷ L4 ∷ L5 ∷ L6 ∷ L7 ∷ []

abbrev pub the_rules : List Rule
the_rules = V1 ∷ V2 ∷ V3 ∷ V4 ∷ V5 ∷ V6 ∷ V7 ∷ V8 ∷ V9 ∷ V10 ∷ []

-- ---- grids

-- the first of its name; `before` are the grids that stand before it
abbrev pub is_new_grid : List GridItem → GridItem → Bool
is_new_grid before g = is_none (grid_item before g.name)

unfoldable pub keeps_grid : Rule → List GridItem → GridItem → Bool
keeps_grid L2 before g = nat_le (length g.extents) max_axes
keeps_grid L3 before g = has_few_devices g
keeps_grid V2 before g = is_new_grid before g
keeps_grid V5 before g = list_all is_positive g.extents
keeps_grid _ before g = true

abbrev pub grid_faults : List Rule → List GridItem → List GridItem → List Refusal
grid_faults asked before [] = []
grid_faults asked before (g ∷ grids) =
    faults_at g.place asked (λ rule. keeps_grid rule before g)
    ++ grid_faults asked (before ++ g ∷ []) grids

-- ---- functions

-- the types of a function's arguments and results
abbrev pub signature_of : Func → List ValueType
signature_of f = argument_types f ++ f.results

-- one cut for each argument and one for each result
abbrev pub has_all_cuts : Func → Carry → Bool
has_all_cuts f carry =
    nat_eq (length carry.args) (length f.args) && nat_eq (length carry.results) (length f.results)

-- no whole type with an extent that differs
abbrev pub are_whole : Func → Bool
are_whole f = not (list_any has_differing (map (λ cut. cut.whole) (cuts_in f)))

-- In source form no type with `?`. In device form a cut for each argument and each result, of a
-- whole tensor. What else the cuts are asked stands with shardings.
unfoldable pub has_form : Func → Bool
has_form f =
    option_map_or (λ carry. has_all_cuts f carry && are_whole f) f.carry
    (not (list_any has_differing (signature_of f)))

abbrev pub is_new_func : List Func → Func → Bool
is_new_func before f = is_none (func_item before f.name)

-- the grid that it is carried on is there
abbrev pub has_grid : Module → Func → Bool
has_grid m f = option_map_or (λ carry. is_some (grid_item m.grids carry.grid)) f.carry true

-- at the place of the function
unfoldable pub keeps_func : Rule → Module → List Func → Func → Bool
keeps_func L2 m before f = list_all has_few_dims (func_types f)
keeps_func L4 m before f = list_all has_few_cells (func_types f)
keeps_func L5 m before f = not (is_source f) || nat_le (operations_in f) max_operations
keeps_func L7 m before f = is_source f || nat_le (instructions_in f) max_instructions
keeps_func V2 m before f = is_new_func before f && are_distinct (map (λ arg. arg.id) f.args)
keeps_func V3 m before f = not (list_any is_scalar (map (λ cut. cut.whole) (cuts_in f)))
keeps_func V6 m before f = has_grid m f
keeps_func V7 m before f = list_all is_tensor (signature_of f)
keeps_func V10 m before f = has_form f
keeps_func _ m before f = true

-- the types that a return writes
unfoldable pub returned_types : OpKind → Option (List ValueType)
returned_types (Constant x) = None
returned_types (Binary x) = None
returned_types (Compare x) = None
returned_types (Select x) = None
returned_types (Cast x) = None
returned_types Empty = None
returned_types (ExtractSlice x) = None
returned_types (InsertSlice x) = None
returned_types (CollapseShape x) = None
returned_types (ExpandShape x) = None
returned_types (Fill x) = None
returned_types (Matmul x) = None
returned_types (BatchMatmul x) = None
returned_types (Matvec x) = None
returned_types (Vecmat x) = None
returned_types (Dot x) = None
returned_types (Conv1d x) = None
returned_types (Conv2d x) = None
returned_types (Transpose x) = None
returned_types (Broadcast x) = None
returned_types (Reduce x) = None
returned_types (Generic x) = None
returned_types (Sharding x) = None
returned_types (Shard x) = None
returned_types (AllGather x) = None
returned_types (AllSlice x) = None
returned_types (AllReduce x) = None
returned_types (ReduceScatter x) = None
returned_types (AllToAll x) = None
returned_types (Shift x) = None
returned_types (UpdateHalo x) = None
returned_types (Take x) = None
returned_types (Pad x) = None
returned_types (Join x) = None
returned_types (Call x) = None
returned_types (Return x) = Some x.operand_types

-- at the return: what is returned is of the function's result types, and `?` is `?`
unfoldable pub keeps_return : Rule → List ValueType → Op → Bool
keeps_return V7 results op = option_map_or (same_types results) (returned_types op.kind) true
keeps_return _ results op = true

abbrev pub return_faults : List Rule → List ValueType → List Op → List Refusal
return_faults asked results ops =
    flat_map (λ op. faults_at op.place asked (λ rule. keeps_return rule results op)) ops

unfoldable pub func_faults : List Rule → Module → List Func → Func → List Refusal
func_faults asked m before f =
    faults_at f.place asked (λ rule. keeps_func rule m before f)
    ++ (ops_faults asked (scope_of m f) f.ops ++ return_faults asked f.results f.ops)

abbrev pub funcs_faults : List Rule → Module → List Func → List Func → List Refusal
funcs_faults asked m before [] = []
funcs_faults asked m before (f ∷ funcs) =
    func_faults asked m before f ++ funcs_faults asked m (before ++ f ∷ []) funcs

-- ---- call items

unfoldable pub keeps_call : Rule → CallItem → Bool
keeps_call L2 item = list_all (λ c. has_few_dims c.value_type) item.args
keeps_call L4 item = list_all (λ c. has_few_cells c.value_type) item.args
keeps_call V5 item = list_all (λ c. not (is_broken c.contents)) item.args
keeps_call _ item = true

abbrev pub call_faults : List Rule → List CallItem → List Refusal
call_faults asked items =
    flat_map (λ item. faults_at item.place asked (λ rule. keeps_call rule item)) items

-- ---- the module

unfoldable pub faults_by : List Rule → Module → List Refusal
faults_by asked m =
    grid_faults asked [] m.grids ++ (funcs_faults asked m [] m.funcs ++ call_faults asked m.calls)

-- what breaks a limit
abbrev pub limit_faults : Module → List Refusal
limit_faults m = faults_by the_limits m

-- What breaks a rule. More is asked of the cuts of device form where shardings are known.
abbrev pub rule_faults : Module → List Refusal
rule_faults m = faults_by the_rules m

-- ---- modules that keep them

abbrev pub KeepsModule : Rule → Module → Type 0
KeepsModule rule m = faults_by (rule ∷ []) m ≡ []
