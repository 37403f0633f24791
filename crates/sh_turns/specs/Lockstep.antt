-- Running in step: each instruction on all devices, then the next.
use Rattle.std.specs.Prelude.{◌≡◌, ℕ, zero, suc, ◌<◌, Bool, true, false, List, map, filter_map, Option, Some, None, is_none, is_some, IsSome, if◌then◌else◌}
use Rattle.std.specs.List.{range_with_len}
use Rattle.std.specs.Option.{option_or}
use Rattle.sh_turns.specs.Program.{Program, values_before, value, returned}

-- the results of each device, or where the first value is lacking
pub data Outcome (V : Type 0) : Type 0 where
  Done : (results : List (List V)) → Outcome V
  StuckAt : (instruction device : ℕ) → Outcome V
  MismatchAt : (instruction device : ℕ) → Outcome V

abbrev pub is_done : {V : Type 0} → Outcome V → Bool
is_done (Done results) = true
is_done (StuckAt k c) = false
is_done (MismatchAt k c) = false

-- the least number below n that passes the test
abbrev pub first_below : (ℕ → Bool) → ℕ → Option ℕ
first_below test zero = None
first_below test (suc n) = option_or (first_below test n) (if test n then Some n else None)

module _ {V : Type 0} (p : Program V) where
  -- the least device on which instruction k lacks a value
  abbrev pub lacking : ℕ → Option ℕ
  lacking k = first_below (λ c. is_none (value p k c)) p.devices

  abbrev pub fault_at : ℕ → Option ℕ → Outcome V
  fault_at k None = StuckAt k 0
  fault_at k (Some c) = if p.is_collective k then MismatchAt k c else StuckAt k c

  -- what device c returns where all its values are there
  abbrev pub results_of : ℕ → List V
  results_of c = returned p (filter_map (λ v. v) (values_before p p.size c))

  abbrev pub outcome : Option ℕ → Outcome V
  outcome None = Done (map results_of (range_with_len 0 p.devices))
  outcome (Some k) = fault_at k (lacking k)

  -- the results of each device where every value is there; else the least instruction that lacks a value, and there the
  -- least device
  abbrev pub lockstep : Outcome V
  lockstep = outcome (first_below (λ k. is_some (lacking k)) p.size)

-- each instruction has a value on each device
abbrev pub HasAllValues : {V : Type 0} → Program V → Type 0
HasAllValues p = (k c : ℕ) → k < p.size → c < p.devices → IsSome (value p k c)

-- the first value that is lacking is that of instruction k on device c
pub record LacksFirst {V : Type 0} (p : Program V) (k c : ℕ) : Type 0 where
  pub instruction : k < p.size
  pub device : c < p.devices
  pub lacks : value p k c ≡ None
  pub earlier : (i d : ℕ) → i < k → d < p.devices → IsSome (value p i d)
  pub lower : (d : ℕ) → d < c → IsSome (value p k d)
