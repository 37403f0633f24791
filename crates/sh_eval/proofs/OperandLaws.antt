-- The operands of an operation of a verified function are there, and are of the types that are written for them.
use Rattle.std.proofs.Common.{◌≡◌, ℕ, true, List, ◌++◌, length, take, ap, sym, ◌∙◌, arith, subst, inl, inr}
use Rattle.std.proofs.lemmas.List.{append-nil, take_all}
use Rattle.std.specs.List.{list_all}
use Rattle.std.specs.Option.{option_map_or}
use Rattle.sh_ir.specs.declared.operations.Op.{Op}
use Rattle.sh_ir.specs.declared.types.ValueType.{ValueType}
use Rattle.sh_ir.specs.Classes.{class_of}
use Rattle.sh_ir.specs.Formed.{captured_in}
use Rattle.sh_ir.specs.Scope.{Scope, is_defined}
use Rattle.sh_ir.specs.Typing.{are_of_types, typing_of, written_operands}
use Rattle.sh_ir.specs.Written.{written_by}
use Rattle.sh_sem.specs.Meaning.{Values}
use Rattle.sh_eval.specs.Sources.{HaveTypes}
use Rattle.sh_collectives.specs.VerifiedOps.{IsOfVerifiedOp}
use Rattle.sh_eval.specs.VerifiedOps.{GivesTensor}
use Rattle.sh_collectives.proofs.CapturedLaws.{are_parted, captured_usable}
use Rattle.sh_eval.proofs.CapturedTypes.{captured_types, usable_named}
use Rattle.sh_collectives.proofs.RuleLaws.{sound}
use Rattle.sh_eval.proofs.RuleFacts.{HasArity, arity, typing_values}
use Rattle.sh_eval.proofs.TypeLaws.{AreNamed, Found, found, named_both, named_by}

-- the types of all operands, those that a region uses behind the others
abbrev pub all_types : Scope → Op → List ValueType
all_types scope op = typing_of op.kind op.result ++ captured_types scope.values op.kind

-- the operands are those of the types, and behind them those that a region uses
record AreWritten (scope : Scope) (op : Op) (n : ℕ) : Type 0 where
  all : take n op.operands ++ captured_in (written_by op.kind) ≡ op.operands
  long : length (take n op.operands) ≡ n
  written : written_operands op ≡ take n op.operands

are_written : (scope : Scope) (op : Op) (n : ℕ) → IsOfVerifiedOp scope op → HasArity op.kind op.operands n → AreWritten scope op n
are_written scope op n v (inl count) =
    let p = are_parted (written_by op.kind) n op.operands count v.counted v.captures in
    record { all = p.all; long = p.long; written = ap (λ o. option_map_or (λ m. take m op.operands) o op.operands) count }
are_written scope op n v (inr free) =
    let whole : take n op.operands ≡ op.operands = subst (λ m. take m op.operands ≡ op.operands) free.long (take_all (length op.operands) op.operands (omega arith)) in
    record {
      all = ap (λ names. take n op.operands ++ names) free.alone ∙ append-nil (take n op.operands) ∙ whole;
      long = ap length whole ∙ free.long;
      written = ap (λ o. option_map_or (λ m. take m op.operands) o op.operands) free.free ∙ sym whole;
    }

-- each is there, and of its type
pub operands_named : (scope : Scope) (op : Op) (values : Values) → IsOfVerifiedOp scope op → GivesTensor (class_of op.kind)
    → HaveTypes scope.values values → AreNamed values (all_types scope op) op.operands
operands_named scope op values v has have =
    let s = sound scope op v in
    let types = typing_of op.kind op.result in
    let p = are_written scope op (length types) v (arity op.kind op.operands op.result has s.counts) in
    let named = named_by scope.values values have types (take (length types) op.operands) p.long
    (typing_values op.kind op.result has v.spelled)
    (subst (λ names. list_all (is_defined scope.values) names ≡ true) p.written s.there)
    (subst (λ names. are_of_types scope.values types names ≡ true) p.written s.types) in
    let captured = usable_named scope.values values have v.constants (captured_in (written_by op.kind)) (captured_usable scope op v) in
    subst (AreNamed values (all_types scope op)) p.all
    (named_both values types (captured_types scope.values op.kind) (take (length types) op.operands)
    (captured_in (written_by op.kind)) named captured)

pub operands_there : (scope : Scope) (op : Op) (values : Values) → IsOfVerifiedOp scope op → GivesTensor (class_of op.kind)
    → HaveTypes scope.values values → Found values (all_types scope op) op.operands
operands_there scope op values v has have =
    found values (all_types scope op) op.operands (operands_named scope op values v has have)
