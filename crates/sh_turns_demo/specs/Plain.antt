-- Programs over plain numbers.
use Rattle.std.specs.Prelude.{◌≡◌, ℕ, ◌+◌, ◌-◌, ◌^◌, ◌<◌, All, Bool, true, false, List, [], length, sum, Option, Some, None, unwrap_or, slice_get, slice_index_or, nat_le, nat_lt, if◌then◌else◌}
use Rattle.sh_turns.specs.Program.{Program}
use Rattle.sh_turns_demo.specs.declared.plain.Instruction.{Instruction}
use Rattle.sh_turns_demo.specs.declared.plain.Instruction.TheVariants.{Subtract, AllReduce}
use Rattle.sh_turns_demo.specs.declared.plain.Plain.{Plain}

-- the value at a place, if it is there
abbrev pub read : List (Option ℕ) → ℕ → Option ℕ
read values place = unwrap_or (slice_get values place) None

abbrev pub difference : Option ℕ → Option ℕ → Option ℕ
difference None right = None
difference (Some a) None = None
difference (Some a) (Some b) = if nat_le b a then Some (a - b) else None

-- the sum, if it fits 64 bits
abbrev pub sum_within : List ℕ → Option ℕ
sum_within values = if nat_lt (sum values) (2 ^ 64) then Some (sum values) else None

abbrev pub is_collective_of : Instruction → Bool
is_collective_of (Subtract left right) = false
is_collective_of (AllReduce place groups) = true

abbrev pub members_of : Instruction → ℕ → List ℕ
members_of (Subtract left right) c = []
members_of (AllReduce place groups) c = slice_index_or groups.items c []

abbrev pub operand_of : Instruction → List (Option ℕ) → Option ℕ
operand_of (Subtract left right) values = None
operand_of (AllReduce place groups) values = read values place

abbrev pub local_of : Instruction → List (Option ℕ) → Option ℕ
local_of (Subtract left right) values = difference (read values left) (read values right)
local_of (AllReduce place groups) values = None

abbrev pub instruction_at : Plain → ℕ → Instruction
instruction_at p k = slice_index_or p.instructions.items k (Subtract 0 0)

unfoldable pub is_collective_at : Plain → ℕ → Bool
is_collective_at p k = is_collective_of (instruction_at p k)

unfoldable pub members_at : Plain → ℕ → ℕ → List ℕ
members_at p k c = members_of (instruction_at p k) c

unfoldable pub operand_at : Plain → ℕ → ℕ → List (Option ℕ) → Option ℕ
operand_at p k c values = operand_of (instruction_at p k) values

unfoldable pub local_at : Plain → ℕ → ℕ → List (Option ℕ) → Option ℕ
local_at p k c values = local_of (instruction_at p k) values

unfoldable pub collect_at : Plain → ℕ → ℕ → List ℕ → Option ℕ
collect_at p k c operands = sum_within operands

abbrev pub program_of : Plain → Program ℕ
program_of p =
    record {
      devices = length p.arguments.items;
      size = length p.instructions.items;
      arguments = λ c. slice_index_or p.arguments.items c [];
      is_collective = is_collective_at p;
      members = members_at p;
      operand = operand_at p;
      local = local_at p;
      collect = collect_at p;
      results = p.results.items;
    }

abbrev pub place_of : Instruction → ℕ
place_of (Subtract left right) = left
place_of (AllReduce place groups) = place

-- the members of each group are devices, and each operand of a collective is an argument or an earlier value
pub record IsVerified (p : Plain) : Type 0 where
  pub members : (k c : ℕ) → k < length p.instructions.items → c < length p.arguments.items → All (λ m. m < length p.arguments.items) (members_of (instruction_at p k) c)
  pub operands : (k c : ℕ) → k < length p.instructions.items → c < length p.arguments.items → is_collective_of (instruction_at p k) ≡ true → place_of (instruction_at p k) < length (slice_index_or p.arguments.items c []) + k
