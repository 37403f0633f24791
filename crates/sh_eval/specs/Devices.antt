-- Functions in device form, run on all devices of a grid: the instructions that are reached, and
-- what is so of each there.
use Rattle.std.specs.Prelude.{◌≡◌, ℕ, suc, ◌<◌, true, false, List, fold, map, take, slice_get, Option, Some, IfSome, IsSome, IsSomeAnd, option_and_then, if◌then◌else◌}
use Rattle.sh_base.specs.Shape.{cell_count}
use Rattle.sh_collectives.specs.DeviceForms.{IsOfDevice}
use Rattle.sh_collectives.specs.VerifiedOps.{IsOfVerifiedOp}
use Rattle.sh_collectives.specs.Operands.{AreGroupOperands, shape_collected}
use Rattle.sh_eval.specs.Evaluations.{CanEvaluate}
use Rattle.sh_eval.specs.Sources.{AreOfValueTypes, IsOfValueType}
use Rattle.sh_eval.specs.Values.{IsFew, shapes_of}
use Rattle.sh_eval.specs.VerifiedOps.{GivesTensor}
use Rattle.sh_grid.specs.Grid.{group_of, place_in}
use Rattle.sh_ir.specs.Classes.{class_of}
use Rattle.sh_ir.specs.Scope.{Scope, scope_after, scope_of}
use Rattle.sh_ir.specs.Typing.{typing_of}
use Rattle.sh_ir.specs.Written.{first_type}
use Rattle.sh_ir.specs.declared.types.ValueType.{ValueType}
use Rattle.sh_ir.specs.declared.functions.Func.{Func}
use Rattle.sh_ir.specs.declared.operations.Op.{Op}
use Rattle.sh_pieces.specs.Instructions.{State, gives}
use Rattle.sh_pieces.specs.Runs.{state_before}
use Rattle.sh_sem.specs.Given.{Seat, given, shape_given}
use Rattle.sh_sem.specs.Meaning.{Values}
use Rattle.sh_sem.specs.Steps.{axes_of, device_function, is_collective_class, seat_of, steps_on}
use Rattle.sh_tensor.specs.Tensor.{TensorValue}
use Rattle.sh_turns.specs.Program.{all_there}

-- ---- an instruction in its scope

-- an operation of a verified function in device form that isn't the return, in the scope before it
pub record IsInstructionOf (scope : Scope) (op : Op) : Type 0 where
  pub verified : IsOfVerifiedOp scope op
  pub gives : GivesTensor (class_of op.kind)

-- the scope before instruction k
pub record IsScopeAt (f : Func) (grid : List ℕ) (k : ℕ) (scope : Scope) : Type 0 where
  pub device : IsOfDevice f grid
  pub behind : scope
      ≡ fold scope_after (scope_of device.verified.whole f) (take k (device_function f).instructions)

-- there is one
pub record HasScope (f : Func) (grid : List ℕ) (k : ℕ) : Type 0 where
  pub scope : Scope
  pub at : IsScopeAt f grid k scope

-- and the next one is that behind the instruction
pub record GoesOn (f : Func) (grid : List ℕ) (k : ℕ) (scope : Scope) (op : Op) : Type 0 where
  pub here : IsInstructionOf scope op
  pub next : IsScopeAt f grid (suc k) (scope_after scope op)

-- operands of a local instruction, on which it can be done where what it gives has few cells; and
-- that is of the type of its value
pub record CanGive (op : Op) (seat : Seat) (ts : List TensorValue) : Type 0 where
  pub can : IfSome (shape_given op seat (shapes_of ts)) IsFew → CanEvaluate op seat ts
  pub typed : IfSome (shape_given op seat (shapes_of ts)) IsFew → (t : TensorValue)
      → given op seat ts ≡ Some t → IsOfValueType op.result t

-- the type that is written for the operand of a collective
abbrev pub operand_type : Op → ValueType
operand_type op = first_type (typing_of op.kind op.result)

-- ---- an instruction, with these values of all devices

-- what a device gives to a collective
abbrev pub operand_of : Op → Values → Option TensorValue
operand_of op values = option_and_then values (slice_get op.operands 0)

-- and what its group gives
abbrev pub group_operands : List ℕ → Op → State TensorValue → ℕ → Option (List TensorValue)
group_operands grid op s c =
    all_there (map (λ m. operand_of op (s m)) (group_of grid (axes_of op.kind) c))

-- the shape of what an instruction gives on a device, by the shapes of its operands
abbrev pub shape_on : List ℕ → Op → State TensorValue → ℕ → Option (List ℕ)
shape_on grid op s c =
    if is_collective_class (class_of op.kind)
    then option_and_then (shape_collected grid op (place_in grid (axes_of op.kind) c))
    (group_operands grid op s c)
    else option_and_then (λ ts. shape_given op (seat_of grid op c) (shapes_of ts))
    (all_there (map (s c) op.operands))

-- what it gives has few cells on each device
abbrev pub HasFewOn : List ℕ → Op → State TensorValue → Type 0
HasFewOn grid op s = (c : ℕ) → c < cell_count grid → IfSome (shape_on grid op s c) IsFew

-- The operands of an instruction are there on a device, and it can be done on them; what it gives is
-- of the type of its value.
pub record CanRunOn (grid : List ℕ) (op : Op) (s : State TensorValue) (c : ℕ) : Type 0 where
  pub local : is_collective_class (class_of op.kind) ≡ false
      → IsSomeAnd (all_there (map (s c) op.operands)) (CanEvaluate op (seat_of grid op c))
  pub collective : is_collective_class (class_of op.kind) ≡ true
      → IsSomeAnd (group_operands grid op s c) (AreGroupOperands op)
  pub typed : (t : TensorValue) → gives (steps_on grid) op s c ≡ Some t → IsOfValueType op.result t

-- ---- a function

module _ (f : Func) (grid : List ℕ) (arguments : ℕ → List TensorValue) where
  -- each device has an argument of the local type for each parameter
  abbrev pub AreLocalArguments : Type 0
  AreLocalArguments =
      (c : ℕ) → c < cell_count grid
      → AreOfValueTypes (map (λ a. a.value_type) f.args) (arguments c)

  -- the values of all devices before instruction k
  abbrev pub values_at : ℕ → State TensorValue
  values_at k = state_before (steps_on grid) (device_function f) arguments k

  -- instruction k is reached: each before it is done on all devices
  abbrev pub IsReachedAt : ℕ → Type 0
  IsReachedAt k =
      (i c : ℕ) (op : Op) → i < k → slice_get (device_function f).instructions i ≡ Some op
      → c < cell_count grid → IsSome (gives (steps_on grid) op (values_at i) c)

  -- what each instruction gives that is reached has few cells
  abbrev pub GivesFewAlong : Type 0
  GivesFewAlong =
      (k : ℕ) (op : Op) → slice_get (device_function f).instructions k ≡ Some op → IsReachedAt k
      → HasFewOn grid op (values_at k)
