-- What breaks a rule, item by item: of operations it is asked where they stand.
use Rattle.std.specs.Prelude.{List, [], ◌∷◌, ◌++◌, Bool, true, false, not, ◌&&◌, ◌||◌, flat_map, map}
use Rattle.std.specs.List.{list_all, list_any}
use Rattle.std.specs.Option.{option_map_or}
use Rattle.sh_base.specs.declared.places.Refusal.{Refusal}
use Rattle.sh_base.specs.declared.rules.Rule.TheVariants.{V2, V3, V5, V6, V7, V10}
use Rattle.sh_ir.specs.declared.functions.Carry.{Carry}
use Rattle.sh_ir.specs.declared.functions.Cut.{Cut}
use Rattle.sh_ir.specs.declared.functions.Func.{Func}
use Rattle.sh_ir.specs.declared.modules.CallItem.{CallItem}
use Rattle.sh_ir.specs.declared.modules.GridItem.{GridItem}
use Rattle.sh_ir.specs.declared.modules.Module.{Module}
use Rattle.sh_ir.specs.declared.operations.Op.{Op}
use Rattle.sh_ir.specs.declared.types.ValueType.{ValueType}
use Rattle.sh_ir.specs.Agreement.{has_differing, is_tensor, same_types}
use Rattle.sh_ir.specs.Faults.{has_all_cuts, has_grid, is_new_func, is_new_grid, returned_types, the_rules}
use Rattle.sh_ir.specs.Formed.{is_scalar}
use Rattle.sh_ir.specs.Literals.{is_broken}
use Rattle.sh_ir.specs.Numbers.{are_distinct, is_positive}
use Rattle.sh_ir.specs.Rules.{ops_faults}
use Rattle.sh_ir.specs.Scope.{scope_of}
use Rattle.sh_verify.specs.Least.{fault_unless}

unfoldable pub grid_rules : List GridItem → GridItem → List Refusal
grid_rules before g =
    fault_unless (is_new_grid before g) g.place V2
    ++ fault_unless (list_all is_positive g.extents) g.place V5

abbrev pub grids_rules : List GridItem → List GridItem → List Refusal
grids_rules before [] = []
grids_rules before (g ∷ grids) = grid_rules before g ++ grids_rules (before ++ g ∷ []) grids

-- the name is new, and so is that of each argument
abbrev pub has_new_names : List Func → Func → Bool
has_new_names before f = is_new_func before f && are_distinct (map (λ arg. arg.id) f.args)

-- ---- the types at the head of a function

abbrev pub all_in_signature : (ValueType → Bool) → Func → Bool
all_in_signature test f = list_all (λ arg. test arg.value_type) f.args && list_all test f.results

abbrev pub any_in_signature : (ValueType → Bool) → Func → Bool
any_in_signature test f = list_any (λ arg. test arg.value_type) f.args || list_any test f.results

abbrev pub any_cut : (ValueType → Bool) → List Cut → Bool
any_cut test cuts = list_any (λ cut. test cut.whole) cuts

abbrev pub any_in_carry : (ValueType → Bool) → Carry → Bool
any_in_carry test carry = any_cut test carry.args || any_cut test carry.results

abbrev pub any_in_cuts : (ValueType → Bool) → Func → Bool
any_in_cuts test f = option_map_or (any_in_carry test) f.carry false

abbrev pub cuts_tensors : Func → Bool
cuts_tensors f = not (any_in_cuts is_scalar f)

-- what its form asks of its types
abbrev pub has_types_of_form : Func → Bool
has_types_of_form f =
    option_map_or (λ carry. has_all_cuts f carry && not (any_in_carry has_differing carry)) f.carry
    (not (any_in_signature has_differing f))

-- ---- functions

unfoldable pub head_rules : Module → List Func → Func → List Refusal
head_rules m before f =
    fault_unless (has_new_names before f) f.place V2
    ++ (fault_unless (cuts_tensors f) f.place V3
    ++ (fault_unless (has_grid m f) f.place V6
    ++ (fault_unless (all_in_signature is_tensor f) f.place V7
    ++ fault_unless (has_types_of_form f) f.place V10)))

-- what is returned is of the result types
abbrev pub returns_types : List ValueType → Op → Bool
returns_types results op = option_map_or (same_types results) (returned_types op.kind) true

unfoldable pub return_rules : List ValueType → Op → List Refusal
return_rules results op = fault_unless (returns_types results op) op.place V7

unfoldable pub func_rules : Module → List Func → Func → List Refusal
func_rules m before f =
    head_rules m before f
    ++ (ops_faults the_rules (scope_of m f) f.ops ++ flat_map (return_rules f.results) f.ops)

abbrev pub funcs_rules : Module → List Func → List Func → List Refusal
funcs_rules m before [] = []
funcs_rules m before (f ∷ funcs) = func_rules m before f ++ funcs_rules m (before ++ f ∷ []) funcs

unfoldable pub call_rules : CallItem → List Refusal
call_rules item = fault_unless (list_all (λ c. not (is_broken c.contents)) item.args) item.place V5

-- all of them
unfoldable pub module_rules : Module → List Refusal
module_rules m =
    grids_rules [] m.grids ++ (funcs_rules m [] m.funcs ++ flat_map call_rules m.calls)
