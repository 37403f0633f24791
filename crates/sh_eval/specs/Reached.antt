-- Operations that are reached, with the values before them.
use Rattle.std.specs.Prelude.{◌≡◌, ℕ, zero, suc, List, [], ◌∷◌, map, slice_get, Option, Some, None, option_and_then}
use Rattle.sh_ir.specs.declared.functions.Func.{Func}
use Rattle.sh_ir.specs.declared.operations.Op.{Op}
use Rattle.sh_ir.specs.Classes.{class_of}
use Rattle.sh_pieces.specs.Runs.{argument_under}
use Rattle.sh_sem.specs.Meaning.{Values, after_class}
use Rattle.sh_sem.specs.Types.{AreOfTypes}
use Rattle.sh_tensor.specs.Tensor.{TensorValue}
use Rattle.sh_eval.specs.Sources.{IsOfSource}

abbrev pub values_at_start : Func → List TensorValue → Values
values_at_start f arguments = argument_under (map (λ a. a.id) f.args) arguments

-- the values behind the first k operations. None: one of them is stuck
abbrev pub values_behind : ℕ → List Op → Values → Option Values
values_behind zero ops values = Some values
values_behind (suc k) [] values = None
values_behind (suc k) (op ∷ ops) values =
    option_and_then (values_behind k ops) (after_class (class_of op.kind) op values)

-- an operation of a verified function in source form is reached with these values, on arguments of
-- the parameters' types
pub record IsReachedOp (f : Func) (arguments : List TensorValue) (op : Op) (values : Values)
    : Type 0 where
  pub verified : IsOfSource f
  pub typed : AreOfTypes (map (λ a. a.value_type) f.args) arguments
  pub place : ℕ
  pub stands : slice_get f.ops place ≡ Some op
  pub before : values_behind place f.ops (values_at_start f arguments) ≡ Some values
