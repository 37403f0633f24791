-- What is right of a program: in step, and in every order of turns.
use Rattle.std.specs.Prelude.{◌≡◌, ◌↔◌, ℕ, ◌<◌, ◌≤◌, true, false, List, map, length, Some}
use Rattle.std.specs.List.{range_with_len}
use Rattle.sh_turns.specs.Program.{Program, returned, turns}
use Rattle.sh_turns.specs.Lockstep.{Done, lockstep}
use Rattle.sh_turns.specs.World.{World, device_at, start, run, finished, can_move, turn, goes_on}

module _ {V : Type 0} (p : Program V) where
  -- run in step the program is done, and each device has the wanted results
  abbrev pub IsDoneWith : (ℕ → List V) → Type 0
  IsDoneWith wanted = lockstep p ≡ Done (map wanted (range_with_len 0 p.devices))

  -- What holds of the world after a run: no turn of it is stuck or a mismatch, some device can move
  -- unless it is finished, it is finished exactly at the count of turns, and then each device has
  -- the wanted results
  pub record IsRight (wanted : ℕ → List V) (schedule : List ℕ) (w : World V) : Type 0 where
    pub no_fault : (c : ℕ) → can_move p w c ≡ true → goes_on (turn p w c) ≡ true
    pub progress : finished p w ≡ false → (c : ℕ) × (c < p.devices) × (can_move p w c ≡ true)
    pub no_longer : length schedule ≤ turns p
    pub exact : (finished p w ≡ true) ↔ (length schedule ≡ turns p)
    pub results : finished p w ≡ true → (c : ℕ) → c < p.devices
        → returned p (device_at w c).values ≡ wanted c

  -- every run of the program is right
  abbrev pub RunsRight : (ℕ → List V) → Type 0
  RunsRight wanted =
      (schedule : List ℕ) (w : World V) → run p (start p) schedule ≡ Some w
      → IsRight wanted schedule w
