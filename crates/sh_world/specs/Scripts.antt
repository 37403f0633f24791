-- Names of values as places among the values of a device.
use Rattle.std.specs.Prelude.{◌≡◌, ℕ, zero, suc, ◌+◌, Bool, false, not, List, ◌++◌, filter, length, map, take, Option, Some, IsSome, if◌then◌else◌, nat_eq, option_map, slice_get, unwrap_or}
use Rattle.std.specs.Map.{lookup}
use Rattle.sh_ir.specs.declared.operations.Op.{Op}
use Rattle.sh_ir.specs.Classes.{class_of, is_return}
use Rattle.sh_pieces.specs.Instructions.{is_name, last_place}
use Rattle.sh_sem.specs.Steps.{is_collective_class}
use Rattle.sh_turns.specs.Program.{all_there}
use Rattle.sh_world.specs.declared.places.Places.{Places}
use Rattle.sh_world.specs.declared.scripts.Instruction.{Instruction}

-- the places that the code holds
unfoldable pub places_in : Places → ℕ → Option ℕ
places_in places name = lookup (nat_eq name) places.last.entries

-- places with one name more, or again
abbrev pub with_place : Option ℕ → ℕ → (ℕ → Option ℕ) → ℕ → Option ℕ
with_place name place old other = if is_name name other then Some place else old other

-- the operations but the return
abbrev pub without_return : List Op → List Op
without_return ops = filter (λ op. not (is_return op.kind)) ops

-- the names of the parameters and of the values of the first k instructions
abbrev pub names_until : List ℕ → List Op → ℕ → List (Option ℕ)
names_until parameters ops k = map (λ name. Some name) parameters ++ map (λ op. op.defines) (take k ops)

-- instruction k with the places of its operands
pub record IsPlaced (parameters : List ℕ) (ops : List Op) (k : ℕ) (i : Instruction) : Type 0 where
  pub op : slice_get ops k ≡ Some i.op.now
  pub places : all_there (map (last_place (names_until parameters ops k)) i.op.now.operands)
      ≡ Some i.places.items

-- the first n instructions with the places of their operands
pub record AllArePlaced (parameters : List ℕ) (ops : List Op) (n : ℕ) (is : List Instruction)
    : Type 0 where
  pub counted : length is ≡ n
  pub each : (k : ℕ) (i : Instruction) → slice_get is k ≡ Some i → IsPlaced parameters ops k i

-- each operand of each instruction is a parameter or an earlier value
abbrev pub KnowsOperands : List ℕ → List Op → Type 0
KnowsOperands parameters ops =
    (k : ℕ) (op : Op) → slice_get ops k ≡ Some op
    → IsSome (all_there (map (last_place (names_until parameters ops k)) op.operands))

-- how many of the first k instructions are collectives
abbrev pub is_collective_at : List Op → ℕ → Bool
is_collective_at ops k =
    unwrap_or (option_map (λ op. is_collective_class (class_of op.kind)) (slice_get ops k)) false

abbrev pub collectives_in : List Op → ℕ → ℕ
collectives_in ops zero = 0
collectives_in ops (suc k) =
    if is_collective_at ops k then collectives_in ops k + 1 else collectives_in ops k
