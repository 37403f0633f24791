-- What a function in source form means: its results on given tensors, operation by operation, or
-- the first operation that is stuck. Calls have no meaning here.
use Rattle.std.specs.Prelude.{ℕ, suc, List, [], ◌∷◌, map, Option, Some, None, option_map, option_and_then, slice_get, if◌then◌else◌}
use Rattle.sh_ir.specs.declared.classification.OpClass.{OpClass}
use Rattle.sh_ir.specs.declared.classification.OpClass.TheVariants as class
use Rattle.sh_ir.specs.declared.functions.Func.{Func}
use Rattle.sh_ir.specs.declared.operations.Op.{Op}
use Rattle.sh_ir.specs.Classes.{class_of}
use Rattle.sh_tensor.specs.Tensor.{TensorValue}
use Rattle.sh_turns.specs.Program.{all_there}
use Rattle.sh_pieces.specs.Instructions.{is_name}
use Rattle.sh_pieces.specs.Runs.{argument_under}
use Rattle.sh_sem.specs.Given.{alone, given}
use Rattle.sh_sem.specs.Returned.{returned}

-- tensors by the names of values
abbrev pub Values : Type 0
Values = ℕ → Option TensorValue

-- what an operation gives of these values. None: it is stuck
abbrev pub value_in : Op → Values → Option TensorValue
value_in op values = option_and_then (given op alone) (all_there (map values op.operands))

-- a note gives its operand
abbrev pub noted_in : Op → Values → Option TensorValue
noted_in op values = option_and_then values (slice_get op.operands 0)

abbrev pub with_value : Option ℕ → TensorValue → Values → Values
with_value defined t values name = if is_name defined name then Some t else values name

-- the values once an operation has its own. None: it is stuck
abbrev pub with_own : Op → Values → Option TensorValue → Option Values
with_own op values own = option_map (λ t. with_value op.defines t values) own

-- a sharding and the return have no value
abbrev pub after_class : OpClass → Op → Values → Option Values
after_class class.Sharding op values = Some values
after_class class.Return op values = Some values
after_class class.Note op values = with_own op values (noted_in op values)
after_class class.Creator op values = with_own op values (value_in op values)
after_class class.Element op values = with_own op values (value_in op values)
after_class class.Layout op values = with_own op values (value_in op values)
after_class class.Structured op values = with_own op values (value_in op values)
after_class class.Convolution op values = with_own op values (value_in op values)
after_class class.DeviceLayout op values = with_own op values (value_in op values)
after_class class.Collective op values = with_own op values (value_in op values)
after_class class.Call op values = with_own op values (value_in op values)

-- ---- the outcome

pub data Evaluation : Type 0 where
  Results : List TensorValue → Evaluation
  StuckAt : ℕ → Evaluation  -- the first operation that is stuck

abbrev pub results_in : ℕ → List ℕ → Values → Evaluation
results_in k names values =
    elim (all_there (map values names)) [ None ↦ StuckAt k | Some ts ↦ Results ts ]

-- from operation k on, with the names that are returned
abbrev pub evaluated_from : ℕ → List Op → List ℕ → Values → Evaluation
evaluated_from k [] names values = results_in k names values
evaluated_from k (op ∷ ops) names values =
    elim (after_class (class_of op.kind) op values) [
      | None ↦ StuckAt k
      | Some after ↦ evaluated_from (suc k) ops names after
    ]

unfoldable pub evaluated : Func → List TensorValue → Evaluation
evaluated f arguments =
    evaluated_from 0 f.ops (returned f.ops) (argument_under (map (λ a. a.id) f.args) arguments)

abbrev pub results_of : Evaluation → Option (List TensorValue)
results_of (Results ts) = Some ts
results_of (StuckAt k) = None

-- the results of a function on these arguments; none where an operation is stuck
unfoldable pub means : Func → List TensorValue → Option (List TensorValue)
means f arguments = results_of (evaluated f arguments)
