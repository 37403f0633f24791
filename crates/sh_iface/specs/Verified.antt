-- An operation of a verified function in source form: what an interface may ask of it.
use Rattle.std.specs.Prelude.{◌≡◌, true, ◌++◌, None, option_to_list}
use Rattle.std.specs.List.{list_all}
use Rattle.std.specs.Option.{option_map_or}
use Rattle.sh_base.specs.declared.rules.Rule.{Rule}
use Rattle.sh_ir.specs.declared.operations.Op.{Op}
use Rattle.sh_ir.specs.Formed.{Captures, OperandsFit, ResultFits, is_block, is_spelled_type}
use Rattle.sh_ir.specs.Regions.{are_disjoint, own_names}
use Rattle.sh_ir.specs.Rules.{KeepsOp, op_types_of}
use Rattle.sh_ir.specs.Scope.{Scope}
use Rattle.sh_ir.specs.Written.{written_by}

pub record IsOfVerified (op : Op) : Type 0 where
  -- it keeps the rules in a scope of source form
  pub scope : Scope
  pub source : scope.device ≡ None
  pub keeps : (rule : Rule) → KeepsOp rule scope op
  -- and it is as a text can spell it
  pub counted : OperandsFit (written_by op.kind) op.operands
  pub captures : Captures (written_by op.kind) op.operands
  pub result : ResultFits (written_by op.kind).result op.result
  pub spelled : list_all is_spelled_type (op_types_of op) ≡ true
  pub block : option_map_or is_block (written_by op.kind).body true ≡ true
  pub own : option_map_or
      (λ body. are_disjoint (op.operands ++ option_to_list op.defines) (own_names body))
      (written_by op.kind).body true ≡ true
