-- What holds in every order of turns.
use Rattle.std.specs.Prelude.{◌≡◌, ◌↔◌, ℕ, zero, suc, ◌+◌, ◌<◌, ◌≤◌, true, false, List, [], ◌∷◌, ◌++◌, map, length, Option, Some, None, if◌then◌else◌, slice_get}
use Rattle.sh_turns.specs.Program.{Program, there, values_before, value, returned, collectives, turns}
use Rattle.sh_turns.specs.Lockstep.{Done, is_done, lockstep}
use Rattle.sh_turns.specs.World.{Device, World, device_at, goes_on, start, can_move, turn, after, run, finished}

-- the operands of device c at the collectives among the first k instructions, in order, each with its instruction
abbrev pub operands_before : {V : Type 0} → Program V → ℕ → ℕ → List (ℕ × Option V)
operands_before p zero c = []
operands_before p (suc k) c =
    if p.is_collective k then operands_before p k c ++ (k, p.operand k c (values_before p k c)) ∷ [] else operands_before p k c

abbrev pub with_operand : {V : Type 0} → ℕ × V → ℕ × Option V
with_operand post = (post.0, Some post.1)

-- how many instructions a device has passed, or posted while it waits
abbrev pub reached : {V : Type 0} → Device V → ℕ
reached d = if d.waits then suc d.next else d.next

-- device c has what the program says
pub record AgreesWith {V : Type 0} (p : Program V) (c : ℕ) (d : Device V) : Type 0 where
  pub within : d.next ≤ p.size
  -- its values are the arguments and the values of the instructions that it has passed
  pub values : there d.values ≡ values_before p d.next c
  -- its posts are its operands of the first collectives: one for each that it has passed, and one more while it waits
  pub posts : map with_operand d.posts ≡ operands_before p (reached d) c
  pub waits : d.waits ≡ true → (d.next < p.size) × (p.is_collective d.next ≡ true)

-- each device of a world has what the program says
pub record AllAgree {V : Type 0} (p : Program V) (w : World V) : Type 0 where
  pub devices : length w ≡ p.devices
  pub each : (c : ℕ) → c < p.devices → AgreesWith p c (device_at w c)

-- some device can move, and each turn of one that can is stuck or a mismatch
pub record StopsIn {V : Type 0} (p : Program V) (w : World V) : Type 0 where
  pub some : (c : ℕ) × (c < p.devices) × (can_move p w c ≡ true)
  pub each : (c : ℕ) → can_move p w c ≡ true → goes_on (turn p w c) ≡ false

-- what holds of the world after a schedule
pub record HoldsAfter {V : Type 0} (p : Program V) (schedule : List ℕ) (w : World V) : Type 0 where
  -- the values and the posts of each device, as lists
  pub agree : AllAgree p w
  -- each value of a device is that of running in step
  pub values : (c k : ℕ) → c < p.devices → k < (device_at w c).next → slice_get (device_at w c).values (length (p.arguments c) + k) ≡ value p k c
  -- one post for each collective that a device has passed, and one more while it waits
  pub posts : (c : ℕ) → c < p.devices → length (device_at w c).posts ≡ collectives p (device_at w c).next + (if (device_at w c).waits then 1 else 0)
  -- while the world isn't finished some device can move
  pub progress : finished p w ≡ false → (c : ℕ) × (c < p.devices) × (can_move p w c ≡ true)
  -- no run is longer than the count of turns, and those of that length are the finished ones
  pub no_longer : length schedule ≤ turns p
  pub exact : (finished p w ≡ true) ↔ (length schedule ≡ turns p)
  -- a turn that is stuck or a mismatch is of an instruction without a value, and leaves the world as it was
  pub fault : (c : ℕ) → can_move p w c ≡ true → goes_on (turn p w c) ≡ false → value p (device_at w c).next c ≡ None
  pub unchanged : (c : ℕ) → goes_on (turn p w c) ≡ false → after p w c ≡ w
  -- where running in step is done, no turn is stuck or a mismatch, and a finished world has its results
  pub no_fault : is_done (lockstep p) ≡ true → (c : ℕ) → can_move p w c ≡ true → goes_on (turn p w c) ≡ true
  pub results : (rows : List (List V)) → lockstep p ≡ Done rows → finished p w ≡ true → map (λ d. returned p d.values) w ≡ rows
  -- where it isn't, no run is finished; and where no turn extends the run, each turn that could be made, and there is one,
  -- is stuck or a mismatch
  pub unfinished : is_done (lockstep p) ≡ false → finished p w ≡ false
  pub stops : is_done (lockstep p) ≡ false → ((c : ℕ) → run p (start p) (schedule ++ c ∷ []) ≡ None) → StopsIn p w

-- every order of turns
abbrev pub HoldsInEveryOrder : {V : Type 0} → Program V → Type 0
HoldsInEveryOrder {V} p = (schedule : List ℕ) (w : World V) → run p (start p) schedule ≡ Some w → HoldsAfter p schedule w
