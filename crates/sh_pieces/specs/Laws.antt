-- What holds of every function whose instructions name their values.
use Rattle.std.specs.Prelude.{◌≡◌, ◌↔◌, ℕ, ◌<◌, true, List, slice_get, Some}
use Rattle.sh_turns.specs.Program.{Program, IsWellFormed, value}
use Rattle.sh_turns.specs.Lockstep.{is_done, lockstep}
use Rattle.sh_pieces.specs.Instructions.{Semantics, DeviceFunction, gives, UsesEarlier}
use Rattle.sh_pieces.specs.Runs.{Runs, at_start, state_before, RunsToRows, ResultsAreKnown}
use Rattle.sh_pieces.specs.Right.{IsDoneWith, RunsRight}

-- What its program does on these arguments is what its instructions do by names
pub record IsByNames {V I : Type 0} (sem : Semantics V I) (f : DeviceFunction I)
    (arguments : ℕ → List V) (p : Program V) : Type 0 where
  -- the value of an instruction is what it gives on the values before it
  pub values : (k c : ℕ) (i : I) → slice_get f.instructions k ≡ Some i → c < sem.devices
      → value p k c ≡ gives sem i (state_before sem f arguments k) c
  -- the program is done in step exactly where the instructions run
  pub done : (is_done (lockstep p) ≡ true)
      ↔ Runs sem f.instructions (at_start f.parameters arguments)
  -- where they do, it has the values of the results' names, and back
  pub results : (rows : ℕ → List V) → RunsToRows sem f arguments rows → IsDoneWith p rows
  pub back : (rows : ℕ → List V) → ResultsAreKnown sem f → IsDoneWith p rows
      → RunsToRows sem f arguments rows
  -- it keeps what the law of turns asks where each collective uses an earlier value, and where it
  -- is done
  pub formed : UsesEarlier sem f → IsWellFormed p
  pub formed_where_done : is_done (lockstep p) ≡ true → IsWellFormed p
  -- so where it is done in step, it is right in every order of turns
  pub right : (rows : ℕ → List V) → IsDoneWith p rows → RunsRight p rows
