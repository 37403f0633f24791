-- An operation of a verified function, where it stands.
use Rattle.std.specs.Prelude.{◌≡◌, ℕ, true, List, Some, ⊤, MatchOption}
use Rattle.std.specs.List.{AllByRecursion, list_all}
use Rattle.sh_base.specs.declared.rules.Rule.{Rule}
use Rattle.sh_ir.specs.declared.bodies.Body.{Body}
use Rattle.sh_ir.specs.declared.bodies.BodyOp.{BodyOp}
use Rattle.sh_ir.specs.declared.operations.Op.{Op}
use Rattle.sh_ir.specs.Formed.{Captures, Defines, OperandsFit, ResultFits, is_block, is_scalar, is_spelled_type}
use Rattle.sh_ir.specs.Literals.{is_held}
use Rattle.sh_ir.specs.Rules.{KeepsOp, op_types_of}
use Rattle.sh_ir.specs.Scope.{Scope, Value, value_named}
use Rattle.sh_ir.specs.Written.{written_by, written_in_body}

-- an operation of a region is as a text can spell it
pub record IsBodyOp (op : BodyOp) : Type 0 where
  pub counted : OperandsFit (written_in_body op.kind) op.operands
  pub result : ResultFits (written_in_body op.kind).result op.result
  pub held : list_all is_held (written_in_body op.kind).constants ≡ true

-- and so is a region
pub record IsBody (body : Body) : Type 0 where
  pub block : is_block body ≡ true
  pub ops : AllByRecursion IsBodyOp body.ops

-- the values that regions may use are scalars
abbrev pub HaveScalarConstants : List Value → Type 0
HaveScalarConstants scope =
    (name : ℕ) (v : Value) → value_named scope name ≡ Some v → v.is_constant ≡ true
    → is_scalar v.value_type ≡ true

-- in a scope of source form or of device form
pub record IsOfVerifiedOp (scope : Scope) (op : Op) : Type 0 where
  -- it keeps the rules there
  pub keeps : (rule : Rule) → KeepsOp rule scope op
  pub constants : HaveScalarConstants scope.values
  -- and it is as a text can spell it
  pub counted : OperandsFit (written_by op.kind) op.operands
  pub captures : Captures (written_by op.kind) op.operands
  pub defines : Defines op
  pub result : ResultFits (written_by op.kind).result op.result
  pub spelled : list_all is_spelled_type (op_types_of op) ≡ true
  pub held : list_all is_held (written_by op.kind).constants ≡ true
  pub body : MatchOption (written_by op.kind).body ⊤ IsBody
