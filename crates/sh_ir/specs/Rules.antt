-- What each limit and rule asks of an operation where it stands.
use Rattle.std.specs.Prelude.{◌≡◌, ℕ, List, [], ◌∷◌, ◌++◌, Bool, true, false, not, ◌&&◌, is_none, is_some, if◌then◌else◌}
use Rattle.std.specs.List.{list_all, list_any}
use Rattle.std.specs.Option.{option_map_or}
use Rattle.sh_base.specs.declared.places.Place.{Place}
use Rattle.sh_base.specs.declared.places.Refusal.{Refusal}
use Rattle.sh_base.specs.declared.rules.Rule.{Rule}
use Rattle.sh_base.specs.declared.rules.Rule.TheVariants.{L2, L4, L6, V1, V2, V3, V4, V5, V6, V8, V9, V10}
use Rattle.sh_ir.specs.declared.bodies.Body.{Body}
use Rattle.sh_ir.specs.declared.bodies.BodyOp.{BodyOp}
use Rattle.sh_ir.specs.declared.classification.OpClass.{OpClass}
use Rattle.sh_ir.specs.declared.classification.OpClass.TheVariants as class
use Rattle.sh_ir.specs.declared.operations.Op.{Op}
use Rattle.sh_ir.specs.declared.operations.OpKind.{OpKind}
use Rattle.sh_ir.specs.declared.types.ValueType.{ValueType}
use Rattle.sh_ir.specs.Agreement.{has_differing}
use Rattle.sh_ir.specs.Attributes.{numbers_fit}
use Rattle.sh_ir.specs.Classes.{class_of}
use Rattle.sh_ir.specs.Formed.{types_in}
use Rattle.sh_ir.specs.Limits.{has_few_dims, has_few_cells, has_few_loops, has_few_inputs}
use Rattle.sh_ir.specs.Loops.{generic_of, structure_of}
use Rattle.sh_ir.specs.Maps.{maps_fit}
use Rattle.sh_ir.specs.Numbers.{are_distinct}
use Rattle.sh_ir.specs.Operands.{operands_fit}
use Rattle.sh_ir.specs.RegionRules.{block_of, own_after, region_fits, keeps_in_region, keeps_at_yield}
use Rattle.sh_ir.specs.Results.{result_fits}
use Rattle.sh_ir.specs.Scope.{Scope, Value, same_text, grid_item, func_item, is_defined, scope_after}
use Rattle.sh_ir.specs.Typing.{written_operands, counts_fit, typing_of, are_of_types, has_no_scalars, operand_types}
use Rattle.sh_ir.specs.Written.{written_by}

-- the types that the text of an operation gives, the value's included
abbrev pub op_types_of : Op → List ValueType
op_types_of op = types_in (written_by op.kind) op.result

-- ---- V1 to V6

-- each written operand is defined before
unfoldable pub uses_defined : Scope → Op → Bool
uses_defined scope op = list_all (is_defined scope.values) (written_operands op)

-- the value's name is new, and so is that of each block argument
unfoldable pub defines_new : Scope → Op → Bool
defines_new scope op =
    option_map_or (λ name. not (is_defined scope.values name)) op.defines true
    && option_map_or (λ body. are_distinct body.args) (written_by op.kind).body true

-- as many operands as the kind has, of the types that are written, which are types that it takes
unfoldable pub takes_operands : Scope → Op → Bool
takes_operands scope op =
    counts_fit op.kind op.operands
    && (are_of_types scope.values (typing_of op.kind op.result) (written_operands op)
    && (has_no_scalars op.kind op.result && operands_fit scope op.kind op.result))

-- the grids and functions that it names are there
unfoldable pub names_known : Scope → OpKind → Bool
names_known scope kind =
    list_all (λ name. is_some (grid_item scope.grids name)) (written_by kind).grids
    && list_all (λ name. is_some (func_item scope.funcs name)) (written_by kind).callees

-- ---- V9

-- the operands of a structured operation
abbrev pub loop_operands : OpKind → List ValueType
loop_operands kind = option_map_or (λ s. operand_types s.ins_outs) (structure_of kind) []

unfoldable pub has_region_in_order : Scope → OpKind → Bool
has_region_in_order scope kind =
    option_map_or (region_fits scope.values (loop_operands kind)) (written_by kind).body true

-- ---- V10

abbrev pub is_of_source : OpClass → Bool
is_of_source class.Creator = true
is_of_source class.Element = true
is_of_source class.Layout = true
is_of_source class.Structured = true
is_of_source class.Convolution = true
is_of_source class.Sharding = true
is_of_source class.Note = true
is_of_source class.DeviceLayout = false
is_of_source class.Collective = false
is_of_source class.Call = true
is_of_source class.Return = true

abbrev pub is_of_device : OpClass → Bool
is_of_device class.Creator = true
is_of_device class.Element = true
is_of_device class.Layout = true
is_of_device class.Structured = true
is_of_device class.Convolution = true
is_of_device class.Sharding = false
is_of_device class.Note = false
is_of_device class.DeviceLayout = true
is_of_device class.Collective = true
is_of_device class.Call = false
is_of_device class.Return = true

-- a function that is called is in source form, if it is there
unfoldable pub calls_source : Scope → OpKind → Bool
calls_source scope kind =
    list_all (λ name. option_map_or (λ f. is_none f.carry) (func_item scope.funcs name) true)
    (written_by kind).callees

-- in source form no `?` and no operation of devices, and in device form no other grid than the
-- carried one, no sharding, no note and no call
unfoldable pub is_in_form : Scope → Op → Bool
is_in_form scope op =
    calls_source scope op.kind
    && option_map_or
    (λ grid. is_of_device (class_of op.kind)
    && list_all (same_text grid) (written_by op.kind).grids)
    scope.device
    (is_of_source (class_of op.kind) && not (list_any has_differing (op_types_of op)))

-- ---- rule by rule, at the place of the operation

unfoldable pub keeps : Rule → Scope → Op → Bool
keeps L2 scope op = list_all has_few_dims (op_types_of op) && has_few_loops op.kind
keeps L4 scope op = list_all has_few_cells (op_types_of op)
keeps L6 scope op = has_few_inputs (is_some scope.device) op.kind
keeps V1 scope op = uses_defined scope op
keeps V2 scope op = defines_new scope op
keeps V3 scope op = takes_operands scope op
keeps V4 scope op = result_fits scope op.kind op.result
keeps V5 scope op = numbers_fit scope op.kind op.result
keeps V6 scope op = names_known scope op.kind
keeps V8 scope op = option_map_or maps_fit (generic_of op.kind) true
keeps V9 scope op = has_region_in_order scope op.kind
keeps V10 scope op = is_in_form scope op
keeps _ scope op = true

-- ---- faults

abbrev pub refusal_at : Place → Rule → Refusal
refusal_at place rule = record { place = place; rule = rule }

-- those of the asked rules that aren't kept at a place
abbrev pub faults_at : Place → List Rule → (Rule → Bool) → List Refusal
faults_at place [] kept = []
faults_at place (rule ∷ asked) kept =
    if kept rule then faults_at place asked kept
    else refusal_at place rule ∷ faults_at place asked kept

-- those of a region from these operations on
abbrev pub body_faults : List Rule → ℕ → List Value → List Value → List BodyOp → Body → List Refusal
body_faults asked loops outer own [] body =
    faults_at body.place asked (λ rule. keeps_at_yield rule outer own body.yields)
body_faults asked loops outer own (op ∷ ops) body =
    faults_at op.place asked (λ rule. keeps_in_region rule loops outer own op)
    ++ body_faults asked loops outer (own_after own op) ops body

abbrev pub loop_count : OpKind → ℕ
loop_count kind = option_map_or (λ s. s.loops) (structure_of kind) 0

unfoldable pub region_faults : List Rule → Scope → OpKind → List Refusal
region_faults asked scope kind =
    option_map_or
    (λ body. body_faults asked (loop_count kind) scope.values (block_of body) body.ops body)
    (written_by kind).body []

-- those of an operation and of its region
unfoldable pub op_faults : List Rule → Scope → Op → List Refusal
op_faults asked scope op =
    faults_at op.place asked (λ rule. keeps rule scope op) ++ region_faults asked scope op.kind

-- those of operations, one after the other
abbrev pub ops_faults : List Rule → Scope → List Op → List Refusal
ops_faults asked scope [] = []
ops_faults asked scope (op ∷ ops) =
    op_faults asked scope op ++ ops_faults asked (scope_after scope op) ops

-- ---- a rule that is kept

abbrev pub KeepsOp : Rule → Scope → Op → Type 0
KeepsOp rule scope op = op_faults (rule ∷ []) scope op ≡ []

abbrev pub KeepsOps : Rule → Scope → List Op → Type 0
KeepsOps rule scope ops = ops_faults (rule ∷ []) scope ops ≡ []
