-- Lists of instructions run in step, from values by name to values by name.
use Rattle.std.specs.Prelude.{◌≡◌, ℕ, suc, ◌<◌, ◌≤◌, Bool, true, List, [], ◌∷◌, map, take, length, slice_get, Option, Some, IsSome, All, if◌then◌else◌}
use Rattle.sh_turns.specs.Program.{there, all_there}
use Rattle.sh_pieces.specs.Instructions.{Semantics, DeviceFunction, State, is_name, last_place, value_under, gives, names_before}

-- the value of a parameter, by the arguments in order
abbrev pub argument_under : {V : Type 0} → List ℕ → List V → ℕ → Option V
argument_under parameters arguments =
    value_under (map (λ name. Some name) parameters) (there arguments)

-- the arguments of each device, under the names of the parameters
abbrev pub at_start : {V : Type 0} → List ℕ → (ℕ → List V) → State V
at_start parameters arguments c = argument_under parameters (arguments c)

module _ {V I : Type 0} (sem : Semantics V I) where
  -- the values after an instruction: what it gives stands under its name
  abbrev pub next_state : I → State V → State V
  next_state i s c name = if is_name (sem.defines i) name then gives sem i s c else s c name

  -- the values after these instructions
  abbrev pub state_after : List I → State V → State V
  state_after [] s = s
  state_after (i ∷ is) s = state_after is (next_state i s)

  -- the instructions run in step: none is stuck or a mismatch on any device
  abbrev pub Runs : List I → State V → Type 0
  Runs [] s = Unit {0}
  Runs (i ∷ is) s =
      ((c : ℕ) → c < sem.devices → IsSome (gives sem i s c)) × Runs is (next_state i s)

  -- they run, and this is so of the values afterwards
  abbrev pub RunsTo : List I → State V → (State V → Type 0) → Type 0
  RunsTo is s After = Runs is s × After (state_after is s)

  -- under these names each device has the values of its row
  abbrev pub HasRows : List ℕ → (ℕ → List V) → State V → Type 0
  HasRows names rows s = (c : ℕ) → c < sem.devices → all_there (map (s c) names) ≡ Some (rows c)

  -- ---- functions

  -- each device has an argument for each parameter
  abbrev pub HaveArguments : List ℕ → (ℕ → List V) → Type 0
  HaveArguments parameters arguments =
      (c : ℕ) → c < sem.devices → length (arguments c) ≡ length parameters

  -- the values before instruction k of a function
  abbrev pub state_before : DeviceFunction I → (ℕ → List V) → ℕ → State V
  state_before f arguments k =
      state_after (take k f.instructions) (at_start f.parameters arguments)

  -- started on these arguments the function runs, and its results are these rows
  abbrev pub RunsToRows : DeviceFunction I → (ℕ → List V) → (ℕ → List V) → Type 0
  RunsToRows f arguments rows =
      RunsTo f.instructions (at_start f.parameters arguments) (HasRows f.results rows)

  -- each result is a parameter or a value of the function
  abbrev pub ResultsAreKnown : DeviceFunction I → Type 0
  ResultsAreKnown f =
      let names = names_before sem f (length f.instructions) in
      (k name : ℕ) → slice_get f.results k ≡ Some name → IsSome (last_place names name)

  -- ---- which names are defined

  -- the names that are defined are this number or greater
  abbrev pub DefinesFrom : ℕ → List I → Type 0
  DefinesFrom base [] = Unit {0}
  DefinesFrom base (i ∷ is) =
      ((name : ℕ) → sem.defines i ≡ Some name → base ≤ name) × DefinesFrom base is

  -- the names that are defined are this number and those that follow it, each the next
  abbrev pub AreNumbered : ℕ → List I → Type 0
  AreNumbered n [] = Unit {0}
  AreNumbered n (i ∷ is) = (sem.defines i ≡ Some n) × AreNumbered (suc n) is

  -- ---- which names are read

  -- the operands are names that pass this test
  abbrev pub ReadsOnly : (ℕ → Bool) → List I → Type 0
  ReadsOnly test [] = Unit {0}
  ReadsOnly test (i ∷ is) = All (λ name. test name ≡ true) (sem.operands i) × ReadsOnly test is

  -- names that pass the test have the same values in both
  abbrev pub AgreeOn : (ℕ → Bool) → State V → State V → Type 0
  AgreeOn test s t = (c name : ℕ) → c < sem.devices → test name ≡ true → s c name ≡ t c name

  -- each value of the first is in the second
  abbrev pub IsWithin : State V → State V → Type 0
  IsWithin s t = (c name : ℕ) (v : V) → c < sem.devices → s c name ≡ Some v → t c name ≡ Some v
