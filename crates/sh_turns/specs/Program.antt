-- A device program over values of any type, and what each of its instructions gives on each device.
use Rattle.std.specs.Prelude.{◌≡◌, ℕ, zero, suc, ◌+◌, ◌*◌, ◌<◌, Bool, true, List, [], ◌∷◌, ◌++◌, map, length, filter_map, slice_get, Option, Some, None, option_map, option_and_then, IsSome, All, if◌then◌else◌}

-- A program that each device of a grid runs, with the arguments of each device. An instruction is local or a collective.
-- The values of a device are its arguments, then one value for each instruction
pub record Program (V : Type 0) : Type 0 where
  -- the devices are the numbers below this
  pub devices : ℕ
  -- the instructions are the numbers below this
  pub size : ℕ
  -- by device
  pub arguments : ℕ → List V
  -- by instruction
  pub is_collective : ℕ → Bool
  -- by instruction and device: the group of the device, in group order
  pub members : ℕ → ℕ → List ℕ
  -- by instruction, device and the device's earlier values: what it posts to a collective
  pub operand : ℕ → ℕ → List (Option V) → Option V
  -- by instruction, device and the device's earlier values: what a local instruction gives. None: it is stuck
  pub local : ℕ → ℕ → List (Option V) → Option V
  -- by instruction, device and the operands of its group in group order: what a collective gives there. None: a mismatch
  pub collect : ℕ → ℕ → List V → Option V
  -- the places of the returned values among the values of a device
  pub results : List ℕ

-- values that are all there
abbrev pub there : {V : Type 0} → List V → List (Option V)
there = map (λ v. Some v)

-- the list, if each part is there
abbrev pub all_there : {V : Type 0} → List (Option V) → Option (List V)
all_there [] = Some []
all_there (None ∷ vs) = None
all_there (Some v ∷ vs) = option_map (λ ws. v ∷ ws) (all_there vs)

module _ {V : Type 0} (p : Program V) where
  -- what instruction k gives on device c, where each device has these earlier values
  abbrev pub value_by : ℕ → ℕ → (ℕ → List (Option V)) → Option V
  value_by k c earlier =
      if p.is_collective k
      then option_and_then (p.collect k c) (all_there (map (λ m. p.operand k m (earlier m)) (p.members k c)))
      else p.local k c (earlier c)

  -- the values of device c before instruction k, each if it is there
  abbrev pub values_before : ℕ → ℕ → List (Option V)
  values_before zero c = there (p.arguments c)
  values_before (suc k) c = values_before k c ++ value_by k c (λ m. values_before k m) ∷ []

  -- the value of instruction k on device c, if there is one
  abbrev pub value : ℕ → ℕ → Option V
  value k c = value_by k c (λ m. values_before k m)

  -- what a device with these values returns
  abbrev pub returned : List V → List V
  returned values = filter_map (λ place. slice_get values place) p.results

  -- how many of the first k instructions are collectives, and how many are local
  abbrev pub collectives : ℕ → ℕ
  collectives zero = 0
  collectives (suc k) = if p.is_collective k then collectives k + 1 else collectives k

  abbrev pub locals : ℕ → ℕ
  locals zero = 0
  locals (suc k) = if p.is_collective k then locals k else locals k + 1

  -- how many turns it takes: devices × (local instructions + 2 × collectives)
  abbrev pub turns : ℕ
  turns = p.devices * (locals p.size + 2 * collectives p.size)

-- What a verified program keeps: each member of a group is a device, and a collective has its operand where the device's
-- earlier values are there
pub record IsWellFormed {V : Type 0} (p : Program V) : Type 0 where
  pub members : (k c : ℕ) → k < p.size → c < p.devices → p.is_collective k ≡ true → All (λ m. m < p.devices) (p.members k c)
  pub operands : (k c : ℕ) (values : List V) → k < p.size → c < p.devices → p.is_collective k ≡ true → length values ≡ length (p.arguments c) + k → IsSome (p.operand k c (there values))
