-- What breaks a rule in an operation, rule by rule.
use Rattle.std.specs.Prelude.{List, ◌++◌, true}
use Rattle.std.specs.Option.{option_map_or}
use Rattle.sh_base.specs.declared.places.Refusal.{Refusal}
use Rattle.sh_base.specs.declared.rules.Rule.TheVariants.{V1, V2, V3, V4, V5, V6, V8, V9, V10}
use Rattle.sh_ir.specs.declared.operations.Op.{Op}
use Rattle.sh_ir.specs.Attributes.{numbers_fit}
use Rattle.sh_ir.specs.Loops.{generic_of}
use Rattle.sh_ir.specs.Maps.{maps_fit}
use Rattle.sh_ir.specs.Results.{result_fits}
use Rattle.sh_ir.specs.Rules.{defines_new, has_region_in_order, is_in_form, names_known, takes_operands, uses_defined}
use Rattle.sh_ir.specs.Scope.{Scope}
use Rattle.sh_verify.specs.Least.{fault_unless}

unfoldable pub name_rules : Scope → Op → List Refusal
name_rules scope op =
    fault_unless (uses_defined scope op) op.place V1
    ++ fault_unless (defines_new scope op) op.place V2

unfoldable pub type_rules : Scope → Op → List Refusal
type_rules scope op =
    fault_unless (takes_operands scope op) op.place V3
    ++ (fault_unless (result_fits scope op.kind op.result) op.place V4
    ++ (fault_unless (numbers_fit scope op.kind op.result) op.place V5
    ++ fault_unless (names_known scope op.kind) op.place V6))

unfoldable pub form_rules : Scope → Op → List Refusal
form_rules scope op =
    fault_unless (option_map_or maps_fit (generic_of op.kind) true) op.place V8
    ++ (fault_unless (has_region_in_order scope op.kind) op.place V9
    ++ fault_unless (is_in_form scope op) op.place V10)
