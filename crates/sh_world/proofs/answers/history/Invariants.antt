use Rattle.std.proofs.Common.{◌≡◌, drop, map}
use Rattle.std.specs.Prelude.{fold}
use Rattle.sh_world.specs.History.{code_of, computed_cells, history_of, history_step}
use Rattle.sh_world.specs.States.{device_of}
use Rattle.sh_world.proofs.answers.history.Given as goal

abbrev pub invariant-loop-state : goal.invariant-loop-state
invariant-loop-state l =
    fold history_step l.sum (map code_of (computed_cells l.arity (map device_of (drop l.state-index l.states)))) ≡ history_of l.arity (map device_of l.states)
