-- The evaluation of functions, as the code holds it.
use Rattle.std.specs.Prelude.{◌≡◌, ℕ, ◌+◌, ◌≤◌, true, false, List, [], ◌∷◌, map, Option, Some, None, IfSome}
use Rattle.sh_ir.specs.Classes.{class_of}
use Rattle.sh_ir.specs.declared.classification.OpClass.TheVariants as class
use Rattle.sh_ir.specs.declared.operations.Op.{Op}
use Rattle.sh_sem.specs.Given.{alone, given}
use Rattle.sh_sem.specs.Meaning.{Results, StuckAt, Values, after_class, value_in}
use Rattle.sh_tensor.specs.Tensor.{TensorValue}
use Rattle.sh_turns.specs.Program.{all_there}
use Rattle.sh_eval.specs.Evaluations.{CanEvaluate}
use Rattle.sh_eval.specs.Values.{shapes_of}
use Rattle.sh_eval.specs.VerifiedOps.{HasTensor}
use Rattle.sh_eval.specs.Work.{Load, Outcome, Ended, TooMuchAt, load_given, load_in, max_work, passes}
use Rattle.sh_eval.specs.declared.functions.Evaluated.{Evaluated}
use Rattle.sh_eval.specs.declared.functions.Evaluated.TheVariants as memory
use Rattle.sh_eval.specs.declared.steps.Reached.{Reached}
use Rattle.sh_eval.specs.declared.steps.Reached.TheVariants as reached
use Rattle.sh_eval.specs.declared.steps.Step.{Step}
use Rattle.sh_eval.specs.declared.steps.Step.TheVariants.{Done, Stuck, TooMuch}

-- what the code answers
abbrev pub outcome_in : Evaluated → Outcome
outcome_in (memory.Results ts) = Ended (Results (map (λ t. t.value) ts))
outcome_in (memory.Stuck op) = Ended (StuckAt op)
outcome_in (memory.TooMuch op) = TooMuchAt op

-- ---- one operation

-- An operation can be evaluated on these values: it isn't one that a device does alone, and if it
-- gives a tensor, it can be evaluated on its operands where they are there.
pub record CanStep (op : Op) (values : Values) : Type 0 where
  pub source : class_of op.kind ≡ class.DeviceLayout → ⊥
  pub evaluates : HasTensor (class_of op.kind)
      → IfSome (all_there (map values op.operands)) (CanEvaluate op alone)

-- and so can each that is reached behind it
abbrev pub CanEvaluateFrom : List Op → Values → Type 0
CanEvaluateFrom [] values = Unit {0}
CanEvaluateFrom (op ∷ ops) values =
    CanStep op values × IfSome (after_class (class_of op.kind) op values) (CanEvaluateFrom ops)

-- an operation is done, with so much work behind it
pub record IsDone (op : Op) (old : Values) (so_far : ℕ) (work : ℕ) (new : Values) : Type 0 where
  pub few : passes so_far (load_in op old) ≡ false
  pub after : after_class (class_of op.kind) op old ≡ Some new
  pub work_is : work ≡ so_far + (load_in op old).work
  pub small : work ≤ max_work

-- it is stuck
pub record IsStuck (op : Op) (old : Values) (so_far : ℕ) : Type 0 where
  pub few : passes so_far (load_in op old) ≡ false
  pub after : after_class (class_of op.kind) op old ≡ None

-- what the code says of an operation
abbrev pub IsStep : Op → Values → ℕ → Step → Values → Type 0
IsStep op old so_far (Done work) new = IsDone op old so_far work new
IsStep op old so_far Stuck new = IsStuck op old so_far
IsStep op old so_far TooMuch new = passes so_far (load_in op old) ≡ true

-- ---- an operation that has work

-- it has this value, with so much work behind it
pub record HasValue (value : Option TensorValue) (load : Load) (so_far : ℕ) (t : TensorValue)
    (work : ℕ) : Type 0 where
  pub few : passes so_far load ≡ false
  pub value_is : value ≡ Some t
  pub work_is : work ≡ so_far + load.work
  pub small : work ≤ max_work

pub record HasNone (value : Option TensorValue) (load : Load) (so_far : ℕ) : Type 0 where
  pub few : passes so_far load ≡ false
  pub value_is : value ≡ None

-- what the code says of a value and its load
abbrev pub IsReachedAt : Option TensorValue → Load → ℕ → Reached → Type 0
IsReachedAt value load so_far (reached.Value t work) = HasValue value load so_far t work
IsReachedAt value load so_far reached.Stuck = HasNone value load so_far
IsReachedAt value load so_far reached.TooMuch = passes so_far load ≡ true

-- on the operands
abbrev pub IsReachedOn : Op → List TensorValue → ℕ → Reached → Type 0
IsReachedOn op ts so_far r =
    IsReachedAt (given op alone ts) (load_given op alone (shapes_of ts)) so_far r

-- on the values
abbrev pub IsReached : Op → Values → ℕ → Reached → Type 0
IsReached op values so_far r = IsReachedAt (value_in op values) (load_in op values) so_far r
