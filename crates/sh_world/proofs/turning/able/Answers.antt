use Rattle.std.proofs.Common.{◌≡◌, map, true, false, refl, sym, ◌∙◌, arith}
use Rattle.std.specs.Prelude.{not, ◌||◌}
use Rattle.sh_ir.specs.Classes.{class_of}
use Rattle.sh_sem.specs.Steps.{is_collective_class}
use Rattle.sh_turns.specs.World.{can_move}
use Rattle.sh_world.specs.Machine.{program_of}
use Rattle.sh_world.specs.Sound.{source_of}
use Rattle.sh_world.specs.States.{device_of}
use Rattle.sh_world.proofs.SoundLaws.{IsNext, can_here, next_is, past_here}
use Rattle.sh_world.proofs.TurnLaws.{group_posted}
use Rattle.sh_world.proofs.turning.able.Goals as goal
use Rattle.sh_world.proofs.turning.able.Goals.{After-is_collective, then-not-is_collective-via-then-not-is_collective, then-not-is_collective-via-else-not-is_collective+then-not-state}

next : (c : After-is_collective) → IsNext (source_of c.args.script.now c.args.states.now) c.args.states.now c.args.device c.index-states-device.result c.index.result.now
next c =
    next_is c.args.script.now c.args.states.now c.requires.sound c.args.device c.index-states-device.result c.index.result.now c.requires.device c.index-states-device.is
    (omega (arith, c.if-state-len.false, c.len.ensures)) c.index.ensures

-- whether the device can move
can : (c : After-is_collective)
    → can_move (program_of (source_of c.args.script.now c.args.states.now)) (map device_of c.args.states.now) c.args.device
    ≡ (not (is_collective_class (class_of c.index.result.now.op.now.kind)) || (not c.index-states-device.result.waits || group_posted (source_of c.args.script.now c.args.states.now) (map device_of c.args.states.now) c.args.device c.index.result.now.op.now (device_of c.index-states-device.result)))
can c = can_here c.args.script.now c.args.states.now c.requires.sound c.args.device c.index-states-device.result c.index.result.now c.requires.device (next c)

pub returns-then-state-len : goal.returns-then-state-len
returns-then-state-len c =
    sym (past_here c.args.script.now c.args.states.now c.requires.sound c.args.device c.index-states-device.result c.requires.device c.index-states-device.is (omega (arith, c.if-state-len.true, c.len.ensures)))

pub returns-then-not-is_collective : goal.returns-then-not-is_collective
returns-then-not-is_collective c =
    let d = (goal.at.returns-then-not-is_collective c).After-is_collective in
    elim c.then-not-is_collective.branch [
      | then-not-is_collective-via-then-not-is_collective w ↦
          let b : is_collective_class (class_of c.index.result.now.op.now.kind) ≡ false = sym c.is_collective.ensures ∙ w.if-not-is_collective.true in
          sym (can d ∙ rw b refl)
      | then-not-is_collective-via-else-not-is_collective+then-not-state w ↦
          let b : is_collective_class (class_of c.index.result.now.op.now.kind) ≡ true = sym c.is_collective.ensures ∙ w.if-not-is_collective.false in
          sym (can d ∙ rw (b, w.if-not-state.true) refl)
    ]

pub group_axes-axes-requires-clause-described : goal.group_axes-axes-requires-clause-described
group_axes-axes-requires-clause-described c = (next (goal.at.group_axes-axes-requires-clause-described c).After-is_collective).asked.described

pub group_axes-axes-requires-clause-axes : goal.group_axes-axes-requires-clause-axes
group_axes-axes-requires-clause-axes c = (next (goal.at.group_axes-axes-requires-clause-axes c).After-is_collective).asked.order.axes

pub all_posted-requires-clause-axes : goal.all_posted-requires-clause-axes
all_posted-requires-clause-axes c = rw c.group_axes-axes.ensures (next (goal.at.all_posted-requires-clause-axes c).After-is_collective).asked.order.axes

pub returns : goal.returns
returns c =
    let d = (goal.at.returns c).After-is_collective in
    let b : is_collective_class (class_of c.index.result.now.op.now.kind) ≡ true = sym c.is_collective.ensures ∙ c.if-not-is_collective.false in
    let whole : can_move (program_of (source_of c.args.script.now c.args.states.now)) (map device_of c.args.states.now) c.args.device
    ≡ group_posted (source_of c.args.script.now c.args.states.now) (map device_of c.args.states.now) c.args.device c.index.result.now.op.now (device_of c.index-states-device.result) =
    can d ∙ rw (b, c.if-not-state.false) refl in
    c.all_posted.ensures ∙ rw (c.post_count.ensures, c.group_axes-axes.ensures) (sym whole)
