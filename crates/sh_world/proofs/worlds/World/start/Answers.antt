use Rattle.std.proofs.Common.{List, length, map, ap, subst, ◌∙◌}
use Rattle.std.specs.Prelude.{All}
use Rattle.sh_world.specs.declared.scripts.Instruction.{Instruction}
use Rattle.sh_world.specs.Machine.{Source}
use Rattle.sh_world.specs.Scripts.{collectives_in}
use Rattle.sh_world.specs.States.{HasRoom}
use Rattle.sh_world.proofs.StartLaws.{IsStarted, knows_operands, started_sound, started_source, started_stands}
use Rattle.sh_world.proofs.worlds.World.start.Goals as goal
use Rattle.sh_world.proofs.worlds.World.start.Goals.{In_ok-states, Start}

abbrev given : In_ok-states → Source
given c = record { function = c.args.func.now; grid = c.args.grid.now; arguments = c.args.arguments.items }

started : (c : In_ok-states) → IsStarted (given c) c.in_ok-script.script c.in_ok-states.states.items
started c = record {
  function = c.in_ok-script.ensures.func;
  grid = c.in_ok-script.ensures.grid;
  arity = c.in_ok-script.ensures.arity;
  placed = c.in_ok-script.ensures.placed;
  results = c.in_ok-script.ensures.results;
  values = c.in_ok-states.ensures.values;
  devices = c.in_ok-states.ensures.devices;
  posted = c.in_ok-states.ensures.posted;
  room =
      subst (λ n. All (HasRoom n) c.in_ok-states.states.items)
      (c.collectives.ensures ∙ ap (λ (is : List Instruction). collectives_in (map (λ i. i.op.now) is) (length is)) c.as_slice.ensures.value) c.in_ok-states.ensures.room;
}

pub script_of-requires : goal.script_of-requires
script_of-requires c = knows_operands (record { function = c.args.func.now; grid = c.args.grid.now; arguments = c.args.arguments.items }) c.requires.runnable

pub invariant_of-result : goal.invariant_of-result
invariant_of-result c =
    let d = (goal.at.invariant_of-result c).In_ok-states in
    started_sound (given d) c.in_ok-script.script c.in_ok-states.states.items c.requires.runnable (started d)

pub returns-clause-source : goal.returns-clause-source
returns-clause-source c =
    let d = (goal.at.returns-clause-source c).In_ok-states in
    started_source (given d) c.in_ok-script.script c.in_ok-states.states.items c.requires.runnable (started d)

pub returns-clause-fresh : goal.returns-clause-fresh
returns-clause-fresh c =
    let d = (goal.at.returns-clause-fresh c).In_ok-states in
    started_stands (given d) c.in_ok-script.script c.in_ok-states.states.items c.requires.runnable (started d)
