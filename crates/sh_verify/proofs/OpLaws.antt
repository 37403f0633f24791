-- What breaks a rule in an operation, rule by rule.
use mathlib.Core.Path.{◌∙◌, ap, sym}
use Rattle.std.proofs.Common.{◌≡◌, List, [], ◌++◌}
use Rattle.std.proofs.lemmas.List.{append-nil, append_assoc}
use Rattle.std.specs.Prelude.{Option}
use Rattle.sh_base.specs.declared.places.Refusal.{Refusal}
use Rattle.sh_base.specs.declared.rules.Rule.{Rule}
use Rattle.sh_base.specs.declared.rules.Rule.TheVariants.{V1, V2, V3, V4, V5, V6, V8, V9, V10}
use Rattle.sh_ir.specs.declared.operations.Op.{Op}
use Rattle.sh_ir.specs.Faults.{the_rules}
use Rattle.sh_ir.specs.Rules.{faults_at, keeps, op_faults, region_faults}
use Rattle.sh_ir.specs.Scope.{Scope}
use Rattle.sh_verify.specs.Least.{by_place, fault_unless, least_of}
use Rattle.sh_verify.specs.OpFaults.{form_rules, name_rules, type_rules}
use Rattle.sh_verify.proofs.LeastLaws.{least_of_both}
use Rattle.sh_verify.proofs.LimitLaws.{each_fault}

nine : (a b c d e f g h k : List Refusal) → a ++ (b ++ (c ++ (d ++ (e ++ (f ++ (g ++ (h ++ (k ++ []))))))))
    ≡ (a ++ b) ++ ((c ++ (d ++ (e ++ f))) ++ (g ++ (h ++ k)))
nine a b c d e f g h k = simp (append_assoc, append-nil)

op_by_rules : (scope : Scope) (op : Op)
    → faults_at op.place the_rules (λ rule. keeps rule scope op) ≡ name_rules scope op ++ (type_rules scope op ++ form_rules scope op)
unfolding keeps name_rules type_rules form_rules
op_by_rules scope op =
    let at = λ (rule : Rule). fault_unless (keeps rule scope op) op.place rule in
    each_fault op.place the_rules (λ rule. keeps rule scope op) ∙ nine (at V1) (at V2) (at V3) (at V4) (at V5) (at V6) (at V8) (at V9) (at V10)

-- names first, then types, then forms, then the region
pub op_found : (scope : Scope) (op : Op) (least names types forms whole : Option Refusal)
    → names ≡ least_of by_place least (name_rules scope op) → types ≡ least_of by_place names (type_rules scope op)
    → forms ≡ least_of by_place types (form_rules scope op) → whole ≡ least_of by_place forms (region_faults the_rules scope op.kind)
    → whole ≡ least_of by_place least (op_faults the_rules scope op)
unfolding op_faults
op_found scope op least names types forms whole a b d e =
    let region = region_faults the_rules scope op.kind in
    e
    ∙ (ap (λ n. least_of by_place n region)
    (d ∙ (ap (λ n. least_of by_place n (form_rules scope op)) (b ∙ ap (λ n. least_of by_place n (type_rules scope op)) a)
    ∙ (sym (least_of_both by_place (least_of by_place least (name_rules scope op)) (type_rules scope op) (form_rules scope op))
    ∙ (sym (least_of_both by_place least (name_rules scope op) (type_rules scope op ++ form_rules scope op))
    ∙ ap (λ rs. least_of by_place least rs) (sym (op_by_rules scope op))))))
    ∙ sym (least_of_both by_place least (faults_at op.place the_rules (λ rule. keeps rule scope op)) region))
