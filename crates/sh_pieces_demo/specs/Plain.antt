-- Functions over plain numbers, whose instructions name their values, on one device.
use Rattle.std.specs.Prelude.{◌≡◌, ℕ, ◌+◌, ◌^◌, ◌<◌, All, false, List, [], ◌∷◌, map, Option, Some, None}
use Rattle.sh_turns_demo.specs.Plain.{difference}
use Rattle.sh_turns.specs.Program.{Program, all_there}
use Rattle.sh_pieces.specs.Instructions.{Semantics, DeviceFunction, program_by_names}
use Rattle.sh_pieces.specs.Runs.{argument_under, RunsToRows}
use Rattle.sh_pieces.specs.Renaming.{IsRenamedFunction}
use Rattle.sh_pieces.specs.Right.{RunsRight}
use Rattle.sh_pieces_demo.specs.declared.Function.{Function}
use Rattle.sh_pieces_demo.specs.declared.Subtract.{Subtract}

-- the difference of two operands; stuck where it is below 0
abbrev pub difference_of : List ℕ → Option ℕ
difference_of [] = None
difference_of (a ∷ []) = None
difference_of (a ∷ b ∷ []) = difference (Some a) (Some b)
difference_of (a ∷ b ∷ c ∷ others) = None

abbrev pub plain : Semantics ℕ Subtract
plain = record {
  devices = 1;
  is_collective = λ i. false;
  operands = λ i. i.left ∷ i.right ∷ [];
  defines = λ i. Some i.defines;
  members = λ i c. [];
  local = λ i c. difference_of;
  collect = λ i c operands. None;
}

abbrev pub function_of : Function → DeviceFunction Subtract
function_of f = record {
  parameters = f.parameters.items;
  instructions = f.instructions.items;
  results = f.results.items;
}

-- the values of some names, where values stand under these names, if each has one
abbrev pub values_under : List ℕ → List ℕ → List ℕ → Option (List ℕ)
values_under names values wanted = all_there (map (argument_under names values) wanted)

-- The results where the function runs by its names on these arguments; else it doesn't run, or a
-- result has no value
abbrev pub IsOutcome : DeviceFunction Subtract → List ℕ → Option (List ℕ) → Type 0
IsOutcome f arguments None = (row : List ℕ) → RunsToRows plain f (λ c. arguments) (λ c. row) → ⊥
IsOutcome f arguments (Some row) = RunsToRows plain f (λ c. arguments) (λ c. row)

-- the instruction, each of its names so much greater
abbrev pub shifted_by : ℕ → Subtract → Subtract
shifted_by offset i = record {
  left = i.left + offset;
  right = i.right + offset;
  defines = i.defines + offset;
}

-- the function, each name so much greater
abbrev pub IsShifted : ℕ → Function → Function → Type 0
IsShifted offset f g =
    IsRenamedFunction plain (λ name. name + offset) (function_of f) (function_of g)

abbrev pub shifted_names : ℕ → List ℕ → List ℕ
shifted_names offset names = map (λ name. name + offset) names

abbrev pub CanShiftNames : ℕ → List ℕ → Type 0
CanShiftNames offset names = All (λ name. name + offset < 2 ^ 64) names

-- each name of an instruction can be so much greater
pub record CanShift (offset : ℕ) (i : Subtract) : Type 0 where
  pub left : i.left + offset < 2 ^ 64
  pub right : i.right + offset < 2 ^ 64
  pub defines : i.defines + offset < 2 ^ 64

-- each name of a function
pub record CanShiftAll (offset : ℕ) (f : Function) : Type 0 where
  pub parameters : CanShiftNames offset f.parameters.items
  pub instructions : All (CanShift offset) f.instructions.items
  pub results : CanShiftNames offset f.results.items

-- what is so of the program of a function on one device
abbrev pub program_of : Function → List ℕ → Program ℕ
program_of f arguments = program_by_names plain (function_of f) (λ c. arguments)

abbrev pub IsRightWith : Function → List ℕ → List ℕ → Type 0
IsRightWith f arguments row = RunsRight (program_of f arguments) (λ c. row)

abbrev pub AreSamePrograms : Function → Function → Type 0
AreSamePrograms f g = (arguments : List ℕ) → program_of g arguments ≡ program_of f arguments
