-- What breaks a rule in a region, rule by rule.
use Rattle.std.specs.Prelude.{ℕ, List, ◌++◌, not}
use Rattle.std.specs.List.{list_all}
use Rattle.sh_base.specs.declared.places.Refusal.{Refusal}
use Rattle.sh_base.specs.declared.rules.Rule.TheVariants.{V1, V2, V5}
use Rattle.sh_ir.specs.declared.bodies.BodyOp.{BodyOp}
use Rattle.sh_ir.specs.RegionRules.{body_number_fits, is_there}
use Rattle.sh_ir.specs.Scope.{Value, is_defined}
use Rattle.sh_verify.specs.Least.{fault_unless}

unfoldable pub body_op_rules : ℕ → List Value → List Value → BodyOp → List Refusal
body_op_rules loops outer own op =
    fault_unless (list_all (is_there outer own) op.operands) op.place V1
    ++ (fault_unless (not (is_defined own op.defines)) op.place V2
    ++ fault_unless (body_number_fits loops op.kind) op.place V5)
