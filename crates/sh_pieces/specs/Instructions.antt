-- Instructions that name their operands and their value, and the program for the machine of turns
-- that a function of them is.
use Rattle.std.specs.Prelude.{◌≡◌, ℕ, suc, ◌<◌, ◌==◌, Bool, true, false, List, [], ◌∷◌, ◌++◌, map, take, length, filter_map, slice_get, Option, Some, None, option_map, option_and_then, unwrap_or, IsSome, All, if◌then◌else◌}
use Rattle.std.specs.Option.{option_or}
use Rattle.sh_turns.specs.Program.{Program, all_there}

-- What instructions of type I do with values of type V on the devices of a grid
pub record Semantics (V I : Type 0) : Type 0 where
  -- the devices are the numbers below this
  pub devices : ℕ
  pub is_collective : I → Bool
  -- the names of its operands; to a collective a device gives the first
  pub operands : I → List ℕ
  -- the name of its value, if it has one
  pub defines : I → Option ℕ
  -- by device: the group of the device, in group order
  pub members : I → ℕ → List ℕ
  -- by device and operands: what a local instruction gives. None: it is stuck
  pub local : I → ℕ → List V → Option V
  -- by device and the operands of its group in group order: what a collective gives there.
  -- None: a mismatch
  pub collect : I → ℕ → List V → Option V

-- What the laws ask of collectives: the members of a group are devices, and a group without members
-- gets nothing
pub record HasGroups {V I : Type 0} (sem : Semantics V I) : Type 0 where
  pub inside : (i : I) (c : ℕ) → c < sem.devices → sem.is_collective i ≡ true
      → All (λ m. m < sem.devices) (sem.members i c)
  pub empty : (i : I) (c : ℕ) → sem.is_collective i ≡ true → sem.collect i c [] ≡ None

-- a function that each device runs: names of its parameters, its instructions, names of its results
pub record DeviceFunction (I : Type 0) : Type 0 where
  pub parameters : List ℕ
  pub instructions : List I
  pub results : List ℕ

-- what is so of instruction k, or the default where there is none
unfoldable pub at_instruction : {I X : Type 0} → DeviceFunction I → X → (I → X) → ℕ → X
at_instruction f default fact k = unwrap_or (option_map fact (slice_get f.instructions k)) default

-- ---- names and places

abbrev pub is_name : Option ℕ → ℕ → Bool
is_name None name = false
is_name (Some other) name = other == name

-- The last place of a name. A name that is defined again stands for its newest value
abbrev pub last_place : List (Option ℕ) → ℕ → Option ℕ
last_place [] name = None
last_place (n ∷ ns) name =
    let here : Option ℕ = if is_name n name then Some 0 else None in
    option_or (option_map (λ k. suc k) (last_place ns name)) here

-- the value of a name, where values stand under these names
abbrev pub value_under : {V : Type 0} → List (Option ℕ) → List (Option V) → ℕ → Option V
value_under names values name =
    option_and_then (λ k. unwrap_or (slice_get values k) None) (last_place names name)

-- ---- what an instruction gives

-- the values of each device, by name
abbrev pub State : Type 0 → Type 0
State V = ℕ → ℕ → Option V

module _ {V I : Type 0} (sem : Semantics V I) where
  -- what a device with these values gives to a collective
  abbrev pub operand_by : I → (ℕ → Option V) → Option V
  operand_by i named = option_and_then named (slice_get (sem.operands i) 0)

  -- what a local instruction gives on a device with these values
  abbrev pub local_by : I → ℕ → (ℕ → Option V) → Option V
  local_by i c named = option_and_then (sem.local i c) (all_there (map named (sem.operands i)))

  -- what a collective gives on a device
  abbrev pub collected_by : I → ℕ → State V → Option V
  collected_by i c s =
      let operands = map (λ m. operand_by i (s m)) (sem.members i c) in
      option_and_then (sem.collect i c) (all_there operands)

  -- what an instruction gives on a device. None: it is stuck, or a mismatch
  abbrev pub gives : I → State V → ℕ → Option V
  gives i s c = if sem.is_collective i then collected_by i c s else local_by i c (s c)

  -- ---- the program for the machine of turns

  -- the names of the parameters, and of the values of the first k instructions
  abbrev pub names_before : DeviceFunction I → ℕ → List (Option ℕ)
  names_before f k =
      map (λ name. Some name) f.parameters ++ map sem.defines (take k f.instructions)

  -- what is so of instruction k, by the earlier values of a device
  abbrev pub by_values : DeviceFunction I → ℕ → List (Option V)
      → (I → (ℕ → Option V) → Option V) → Option V
  by_values f k values fact =
      at_instruction f None (λ i. fact i (value_under (names_before f k) values)) k

  -- The program that a function is, with the arguments of each device. Here, and nowhere else,
  -- names become places: an operand or a result is the last value of its name.
  abbrev pub program_by_names : DeviceFunction I → (ℕ → List V) → Program V
  program_by_names f arguments = record {
    devices = sem.devices;
    size = length f.instructions;
    arguments = arguments;
    is_collective = at_instruction f false sem.is_collective;
    members = λ k c. at_instruction f [] (λ i. sem.members i c) k;
    operand = λ k c values. by_values f k values operand_by;
    local = λ k c values. by_values f k values (λ i. local_by i c);
    collect = λ k c operands. at_instruction f None (λ i. sem.collect i c operands) k;
    results = filter_map (last_place (names_before f (length f.instructions))) f.results;
  }

  -- the operand that a collective takes is one of these names
  abbrev pub IsKnown : List (Option ℕ) → I → Type 0
  IsKnown names i = IsSome (option_and_then (last_place names) (slice_get (sem.operands i) 0))

  -- each collective has an operand that is a parameter or an earlier value
  abbrev pub UsesEarlier : DeviceFunction I → Type 0
  UsesEarlier f =
      (k : ℕ) (i : I) → slice_get f.instructions k ≡ Some i → sem.is_collective i ≡ true
      → IsKnown (names_before f k) i
