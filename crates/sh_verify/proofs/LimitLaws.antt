-- The limits as they are defined are those that are found: no limit asks for what is known before.
use mathlib.Core.Path.{◌∙◌, ap, refl}
use Rattle.std.proofs.Common.{◌≡◌, ℕ, List, [], ◌∷◌, ◌++◌, Bool, true, false, ◌&&◌, not, length}
use Rattle.std.proofs.lemmas.List.{append-nil, append_assoc}
use Rattle.std.proofs.lemmas.List.Folds.{list_all-append, list_all-map}
use Rattle.std.specs.Prelude.{Option, Some, None, flat_map, map, is_some, is_none, if◌then◌else◌, nat_le}
use Rattle.std.specs.List.{list_all}
use Rattle.std.specs.Option.{option_map_or}
use Rattle.sh_base.specs.declared.places.Place.{Place}
use Rattle.sh_base.specs.declared.places.Refusal.{Refusal}
use Rattle.sh_base.specs.declared.rules.Rule.{Rule}
use Rattle.sh_base.specs.declared.rules.Rule.TheVariants.{L2, L3, L4, L5, L6, L7}
use Rattle.sh_ir.specs.declared.bodies.Body.{Body}
use Rattle.sh_ir.specs.declared.bodies.BodyOp.{BodyOp}
use Rattle.sh_ir.specs.declared.functions.Carry.{Carry}
use Rattle.sh_ir.specs.declared.functions.Func.{Func}
use Rattle.sh_ir.specs.declared.modules.CallItem.{CallItem}
use Rattle.sh_ir.specs.declared.modules.GridItem.{GridItem}
use Rattle.sh_ir.specs.declared.modules.Module.{Module}
use Rattle.sh_ir.specs.declared.operations.Op.{Op}
use Rattle.sh_ir.specs.declared.types.ValueType.{ValueType}
use Rattle.sh_ir.specs.Faults.{call_faults, faults_by, func_faults, funcs_faults, grid_faults, keeps_call, keeps_func, keeps_grid, keeps_return, limit_faults, return_faults, the_limits}
use Rattle.sh_ir.specs.Formed.{cuts_in, func_types}
use Rattle.sh_ir.specs.Limits.{has_few_cells, has_few_devices, has_few_dims, has_few_inputs, has_few_loops}
use Rattle.sh_base.specs.Limits.{max_axes}
use Rattle.sh_ir.specs.RegionRules.{keeps_at_yield, keeps_in_region}
use Rattle.sh_ir.specs.Rules.{loop_count, op_types_of, body_faults, faults_at, keeps, op_faults, ops_faults, refusal_at, region_faults}
use Rattle.sh_ir.specs.RegionRules.{block_of, own_after}
use Rattle.sh_ir.specs.Scope.{Scope, Value, scope_after, scope_of}
use Rattle.sh_ir.specs.Shapes.{argument_types}
use Rattle.sh_ir.specs.Written.{written_by}
use Rattle.sh_verify.specs.Least.{fault_unless}
use Rattle.sh_verify.specs.LimitFaults.{are_few_cells, are_few_dims, body_op_types, all_in_func, body_op_limits, call_limits, func_head_limits, func_limits, grid_limits, has_few_instructions, has_few_operations, module_limits, op_limits, region_limits}

-- rule by rule
abbrev pub each_unless : Place → (Rule → Bool) → List Rule → List Refusal
each_unless place kept asked = flat_map (λ rule. fault_unless (kept rule) place rule) asked

one_more : (b : Bool) (r : Refusal) (rs : List Refusal) → (if b then rs else r ∷ rs) ≡ (if b then [] else r ∷ []) ++ rs
one_more true r rs = refl
one_more false r rs = refl

pub each_fault : (place : Place) (asked : List Rule) (kept : Rule → Bool) → faults_at place asked kept ≡ each_unless place kept asked
each_fault place [] kept = refl
each_fault place (rule ∷ asked) kept =
    one_more (kept rule) (refusal_at place rule) (faults_at place asked kept)
    ∙ ap (λ rs. fault_unless (kept rule) place rule ++ rs) (each_fault place asked kept)

both : {a b c d : List Refusal} → a ≡ c → b ≡ d → a ++ b ≡ c ++ d
both {a} {b} {c} {d} p q = ap (λ x. x ++ b) p ∙ ap (λ y. c ++ y) q

two : (a b : List Refusal) → a ++ (b ++ []) ≡ a ++ b
two a b = ap (λ rs. a ++ rs) (append-nil b)

-- ---- regions

one_body_op : (loops : ℕ) (outer own : List Value) (op : BodyOp)
    → faults_at op.place the_limits (λ rule. keeps_in_region rule loops outer own op) ≡ body_op_limits op
unfolding keeps_in_region body_op_limits
one_body_op loops outer own op =
    each_fault op.place the_limits (λ rule. keeps_in_region rule loops outer own op)
    ∙ two (fault_unless (are_few_dims (body_op_types op)) op.place L2) (fault_unless (are_few_cells (body_op_types op)) op.place L4)

body_limits : (loops : ℕ) (outer own : List Value) (ops : List BodyOp) (body : Body)
    → body_faults the_limits loops outer own ops body ≡ flat_map body_op_limits ops
unfolding keeps_at_yield
body_limits loops outer own [] body = refl
body_limits loops outer own (op ∷ ops) body =
    both (one_body_op loops outer own op) (body_limits loops outer (own_after own op) ops body)

region_of : (scope : Scope) (loops : ℕ) (body : Option Body)
    → option_map_or (λ body. body_faults the_limits loops scope.values (block_of body) body.ops body) body []
    ≡ option_map_or (λ body. flat_map body_op_limits body.ops) body []
region_of scope loops None = refl
region_of scope loops (Some body) = body_limits loops scope.values (block_of body) body.ops body

-- ---- operations

one_op : (scope : Scope) (op : Op) → op_faults the_limits scope op ≡ op_limits (is_some scope.device) op
unfolding op_faults region_faults keeps op_limits region_limits
one_op scope op =
    let ranks = fault_unless (are_few_dims (op_types_of op) && has_few_loops op.kind) op.place L2 in
    let cells = fault_unless (are_few_cells (op_types_of op)) op.place L4 in
    let inputs = fault_unless (has_few_inputs (is_some scope.device) op.kind) op.place L6 in
    both (each_fault op.place the_limits (λ rule. keeps rule scope op)) (region_of scope (loop_count op.kind) (written_by op.kind).body)
    ∙ (append_assoc ranks (cells ++ (inputs ++ [])) _ ∙ ap (λ rs. ranks ++ rs) (append_assoc cells (inputs ++ []) _
    ∙ ap (λ rs. cells ++ rs) (append_assoc inputs [] _)))

all_ops : (scope : Scope) (ops : List Op) → ops_faults the_limits scope ops ≡ flat_map (op_limits (is_some scope.device)) ops
all_ops scope [] = refl
all_ops scope (op ∷ ops) = both (one_op scope op) (all_ops (scope_after scope op) ops)

-- ---- functions

no_returns : (results : List ValueType) (ops : List Op) → return_faults the_limits results ops ≡ []
unfolding keeps_return
no_returns results [] = refl
no_returns results (op ∷ ops) = no_returns results ops

in_all : (test : ValueType → Bool) (f : Func) → list_all test (func_types f) ≡ all_in_func test f
in_all test f =
    let cuts = map (λ cut. cut.whole) (cuts_in f) in
    let of_args : list_all test (argument_types f) ≡ list_all (λ arg. test arg.value_type) f.args = list_all-map test (λ arg. arg.value_type) f.args in
    let of_cuts : list_all test cuts ≡ list_all (λ cut. test cut.whole) (cuts_in f) = list_all-map test (λ cut. cut.whole) (cuts_in f) in
    let signature : list_all test (argument_types f ++ f.results) ≡ (list_all (λ arg. test arg.value_type) f.args && list_all test f.results) =
    list_all-append test (argument_types f) f.results ∙ ap (λ b. b && list_all test f.results) of_args in
    list_all-append test (argument_types f ++ f.results) cuts
    ∙ (ap (λ b. b && list_all test cuts) signature
    ∙ ap (λ b. (list_all (λ arg. test arg.value_type) f.args && list_all test f.results) && b) of_cuts)

in_form : (carry : Option Carry) → is_some (option_map_or (λ c. Some c.grid) carry None) ≡ not (is_none carry)
in_form None = refl
in_form (Some c) = refl

four : (a b c d : List Refusal) → a ++ (b ++ (c ++ (d ++ []))) ≡ a ++ (b ++ (c ++ d))
four a b c d = ap (λ rs. a ++ (b ++ (c ++ rs))) (append-nil d)

head : (m : Module) (before : List Func) (f : Func)
    → faults_at f.place the_limits (λ rule. keeps_func rule m before f) ≡ func_head_limits f
unfolding keeps_func func_head_limits has_few_operations has_few_instructions
head m before f =
    let operations = fault_unless (has_few_operations f) f.place L5 in
    let instructions = fault_unless (has_few_instructions f) f.place L7 in
    let more = operations ++ (instructions ++ []) in
    let ranks = fault_unless (all_in_func has_few_dims f) f.place L2 in
    each_fault f.place the_limits (λ rule. keeps_func rule m before f)
    ∙ (ap (λ b. fault_unless b f.place L2 ++ (fault_unless (list_all has_few_cells (func_types f)) f.place L4 ++ more)) (in_all has_few_dims f)
    ∙ (ap (λ b. ranks ++ (fault_unless b f.place L4 ++ more)) (in_all has_few_cells f)
    ∙ four ranks (fault_unless (all_in_func has_few_cells f) f.place L4) operations instructions))

one_func : (m : Module) (before : List Func) (f : Func) → func_faults the_limits m before f ≡ func_limits f
unfolding func_faults func_limits
one_func m before f =
    both (head m before f)
    (both (all_ops (scope_of m f) f.ops) (no_returns f.results f.ops)
    ∙ (append-nil _ ∙ ap (λ b. flat_map (op_limits b) f.ops) (in_form f.carry)))

all_funcs : (m : Module) (before funcs : List Func) → funcs_faults the_limits m before funcs ≡ flat_map func_limits funcs
all_funcs m before [] = refl
all_funcs m before (f ∷ funcs) = both (one_func m before f) (all_funcs m (before ++ f ∷ []) funcs)

-- ---- grids and call items

one_grid : (before : List GridItem) (g : GridItem) → faults_at g.place the_limits (λ rule. keeps_grid rule before g) ≡ grid_limits g
unfolding keeps_grid grid_limits
one_grid before g =
    each_fault g.place the_limits (λ rule. keeps_grid rule before g)
    ∙ two (fault_unless (nat_le (length g.extents) max_axes) g.place L2) (fault_unless (has_few_devices g) g.place L3)

all_grids : (before grids : List GridItem) → grid_faults the_limits before grids ≡ flat_map grid_limits grids
all_grids before [] = refl
all_grids before (g ∷ grids) = both (one_grid before g) (all_grids (before ++ g ∷ []) grids)

one_call : (item : CallItem) → faults_at item.place the_limits (λ rule. keeps_call rule item) ≡ call_limits item
unfolding keeps_call call_limits
one_call item =
    each_fault item.place the_limits (λ rule. keeps_call rule item)
    ∙ two (fault_unless (list_all (λ c. has_few_dims c.value_type) item.args) item.place L2) (fault_unless (list_all (λ c. has_few_cells c.value_type) item.args) item.place L4)

all_calls : (items : List CallItem) → call_faults the_limits items ≡ flat_map call_limits items
all_calls [] = refl
all_calls (item ∷ items) = both (one_call item) (all_calls items)

pub limits_found : (m : Module) → limit_faults m ≡ module_limits m
unfolding faults_by module_limits
limits_found m = both (all_grids [] m.grids) (both (all_funcs m [] m.funcs) (all_calls m.calls))
