-- What the next turn of a device does.
use Rattle.std.specs.Prelude.{ℕ}
use Rattle.sh_turns.specs.declared.Turn.{Turn}
use Rattle.sh_turns.specs.declared.Turn.TheVariants.{Local, Posted, Took}
use Rattle.sh_turns.specs.World.{Device, with_value, with_post, no_longer_waiting}
use Rattle.sh_turns_demo.specs.declared.machine.Step.{Step}
use Rattle.sh_turns_demo.specs.declared.machine.Step.TheVariants.{Append, Take, Post, Stop}

-- the turn, and the device after it
abbrev pub step_of : Device ℕ → Step → Turn × Device ℕ
step_of d (Append value) = (Local, with_value d value)
step_of d (Take value) = (Took, no_longer_waiting (with_value d value))
step_of d (Post operand) = (Posted, with_post d operand)
step_of d (Stop turn) = (turn, d)
