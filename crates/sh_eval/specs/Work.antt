-- The work of evaluating a function, its limit, and how an evaluation ends under it.
use Rattle.std.specs.Prelude.{◌≡◌, ◌<◌, ℕ, zero, suc, ◌+◌, Bool, true, false, ◌||◌, List, [], ◌∷◌, map, max, nat_lt, slice_get, Some, None, if◌then◌else◌}
use Rattle.std.specs.Option.{option_map_or}
use Rattle.sh_base.specs.Shape.{cell_count, max_cells}
use Rattle.sh_ir.specs.Classes.{class_of}
use Rattle.sh_ir.specs.Loops.{structure_of}
use Rattle.sh_ir.specs.declared.classification.OpClass.{OpClass}
use Rattle.sh_ir.specs.declared.classification.OpClass.TheVariants as class
use Rattle.sh_ir.specs.declared.functions.Func.{Func}
use Rattle.sh_ir.specs.declared.operations.Op.{Op}
use Rattle.sh_sem.specs.Given.{Seat, alone, shape_given}
use Rattle.sh_sem.specs.Meaning.{Evaluation, Results, StuckAt, Values, after_class, evaluated, means, results_in}
use Rattle.sh_sem.specs.Nest.{extents_by}
use Rattle.sh_sem.specs.Returned.{returned}
use Rattle.sh_tensor.specs.Tensor.{TensorValue}
use Rattle.sh_turns.specs.Program.{all_there}
use Rattle.sh_eval.specs.Reached.{values_at_start, values_behind}
use Rattle.sh_eval.specs.Values.{shapes_of}

-- ---- the limit

-- the greatest running sum of work in one evaluation
abbrev pub max_work : ℕ
max_work = 67108864

-- the work of each operation, beside its cells and its loop points
abbrev pub base_work : ℕ
base_work = 16

-- ---- the load of an operation

-- what an operation asks of the evaluator
pub record Load : Type 0 where
  pub cells : ℕ  -- of its result, an extent of 0 counted as 1
  pub work : ℕ

abbrev pub no_load : Load
no_load = record { cells = 0; work = 0 }

-- the loop points of a structured operation; others have none
abbrev pub loop_points : Op → List (List ℕ) → ℕ
loop_points op shapes =
    option_map_or (λ s. cell_count (extents_by s shapes)) (structure_of op.kind) 0

-- the work, where the operation gives a result of this shape
unfoldable pub work_of : Op → List (List ℕ) → List ℕ → ℕ
work_of op shapes shape = base_work + cell_count shape + loop_points op shapes

abbrev pub load_of : Op → List (List ℕ) → List ℕ → Load
load_of op shapes shape = record {
  cells = cell_count (map (λ n. max n 1) shape);
  work = work_of op shapes shape;
}

-- there is none where the operation is stuck by the shapes
abbrev pub load_given : Op → Seat → List (List ℕ) → Load
load_given op seat shapes = option_map_or (load_of op shapes) (shape_given op seat shapes) no_load

-- shardings, notes and the return have no work
abbrev pub has_work : OpClass → Bool
has_work class.Sharding = false
has_work class.Note = false
has_work class.Return = false
has_work class.Creator = true
has_work class.Element = true
has_work class.Layout = true
has_work class.Structured = true
has_work class.Convolution = true
has_work class.DeviceLayout = true
has_work class.Collective = true
has_work class.Call = true

-- the load on these values
unfoldable pub load_in : Op → Values → Load
load_in op values =
    if has_work (class_of op.kind)
    then option_map_or (λ ts. load_given op alone (shapes_of ts)) (all_there (map values op.operands)) no_load
    else no_load

-- the sum of work passes the limit, or the result has too many cells
unfoldable pub passes : ℕ → Load → Bool
passes so_far load = nat_lt max_work (so_far + load.work) || nat_lt max_cells load.cells

-- ---- the outcome

pub data Outcome : Type 0 where
  Ended : Evaluation → Outcome
  TooMuchAt : ℕ → Outcome  -- the first operation that passes the limit

-- from operation k on, after so much work; the limit is asked before the operation's cells are
abbrev pub outcome_from : ℕ → ℕ → List Op → List ℕ → Values → Outcome
outcome_from so_far k [] names values = Ended (results_in k names values)
outcome_from so_far k (op ∷ ops) names values =
    if passes so_far (load_in op values)
    then TooMuchAt k
    else elim (after_class (class_of op.kind) op values) [
      | None ↦ Ended (StuckAt k)
      | Some after ↦ outcome_from (so_far + (load_in op values).work) (suc k) ops names after
    ]

-- how the evaluation of a function on these arguments ends
unfoldable pub outcome : Func → List TensorValue → Outcome
outcome f arguments =
    outcome_from 0 0 f.ops (returned f.ops) (values_at_start f arguments)

-- ---- what an outcome says

-- the work of the first k operations
abbrev pub work_behind : ℕ → List Op → Values → ℕ
work_behind zero ops values = 0
work_behind (suc k) [] values = 0
work_behind (suc k) (op ∷ ops) values =
    (load_in op values).work
    + option_map_or (work_behind k ops) (after_class (class_of op.kind) op values) 0

-- operation k is reached, and passes the limit
pub record PassesAt (ops : List Op) (start : Values) (k : ℕ) : Type 0 where
  pub op : Op
  pub stands : slice_get ops k ≡ Some op
  pub values : Values
  pub reached : values_behind k ops start ≡ Some values
  pub passes : passes (work_behind k ops start) (load_in op values) ≡ true

-- and none before it does
pub record IsFirstTooMuch (ops : List Op) (start : Values) (k : ℕ) : Type 0 where
  pub here : PassesAt ops start k
  pub first : (j : ℕ) → j < k → PassesAt ops start j → ⊥

-- an outcome as the meaning of the function has it
abbrev pub IsOutcome : Func → List TensorValue → Outcome → Type 0
IsOutcome f arguments (Ended (Results ts)) = means f arguments ≡ Some ts
IsOutcome f arguments (Ended (StuckAt k)) = evaluated f arguments ≡ StuckAt k
IsOutcome f arguments (TooMuchAt k) = IsFirstTooMuch f.ops (values_at_start f arguments) k
