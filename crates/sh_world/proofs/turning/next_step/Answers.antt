use Rattle.std.proofs.Common.{◌<◌, length, sym, ap, ◌∙◌, arith}
use Rattle.std.proofs.lemmas.List.{length-map}
use Rattle.std.proofs.lemmas.List.Elements.{All-get_or}
use Rattle.std.proofs.lemmas.Result.{IfOk-weaker}
use Rattle.sh_turns.specs.declared.Turn.{Turn}
use Rattle.sh_turns.specs.declared.Turn.TheVariants.{Posted}
use Rattle.sh_turns.specs.World.{Device, with_post}
use Rattle.sh_tensor.specs.Tensor.{TensorValue}
use Rattle.sh_world.specs.Sound.{source_of}
use Rattle.sh_world.specs.States.{device_of, post_of, tensor_at}
use Rattle.sh_world.proofs.NextLaws as here
use Rattle.sh_world.proofs.SoundLaws.{IsNext, room_here}
use Rattle.sh_world.proofs.turning.next_step.Goals as goal
use Rattle.sh_world.proofs.turning.next_step.Goals.{After-is_collective, Start}

more : (g : _) (c : Start g) → c.args.state.now.next < length c.args.script.now.instructions.items
more g c = here.more_here c.args.script.now c.args.states.now c.requires.sound c.args.device c.args.state.now c.requires.device c.requires.state c.requires.moves

next : (g : _) (c : After-is_collective g) → IsNext (source_of c.args.script.now c.args.states.now) c.args.states.now c.args.device c.args.state.now c.index-instruction.result.now
next g c =
    here.next_here c.args.script.now c.args.states.now c.requires.sound c.args.device c.args.state.now c.requires.device c.requires.state c.index-instruction.result.now c.requires.moves
    c.index-instruction.ensures

pub index-instruction-requires : goal.index-instruction-requires
index-instruction-requires g c = omega (arith, more g (goal.at.index-instruction-requires g c).Start, c.args.script.now.instructions.ok)

pub local_step-requires-clause-next : goal.local_step-requires-clause-next
local_step-requires-clause-next g c = omega (arith, more g (goal.at.local_step-requires-clause-next g c).Start, c.args.script.now.instructions.ok, c.args.script.now.instructions.small)

pub local_step-requires-clause-places : goal.local_step-requires-clause-places
local_step-requires-clause-places g c = here.places_here (source_of c.args.script.now c.args.states.now) c.args.states.now c.args.device c.args.state.now c.index-instruction.result.now (next g (goal.at.local_step-requires-clause-places g c).After-is_collective)

pub local_step-requires-clause-axes : goal.local_step-requires-clause-axes
local_step-requires-clause-axes g c = (next g (goal.at.local_step-requires-clause-axes g c).After-is_collective).asked.order.axes

pub local_step-requires-clause-can : goal.local_step-requires-clause-can
local_step-requires-clause-can g c = here.can_step_here (source_of c.args.script.now c.args.states.now) c.args.states.now c.args.device c.args.state.now c.index-instruction.result.now (next g (goal.at.local_step-requires-clause-can g c).After-is_collective) g.S.LocalSteps.can c.requires.can (sym c.is_collective.ensures ∙ c.if-not-is_collective.true)

pub returns-then-not-is_collective-clause-step : goal.returns-then-not-is_collective-clause-step
returns-then-not-is_collective-clause-step g c =
    let turns = here.local_here (source_of c.args.script.now c.args.states.now) c.args.states.now c.args.device c.args.state.now c.index-instruction.result.now (next g (goal.at.returns-then-not-is_collective-clause-step g c).After-is_collective) (sym c.is_collective.ensures ∙ c.if-not-is_collective.true) in
    IfOk-weaker c.local_step.result _ _ (λ x p. turns ∙ sym p) c.local_step.ensures.step

pub returns-then-not-is_collective-clause-posted : goal.returns-then-not-is_collective-clause-posted
returns-then-not-is_collective-clause-posted g c = λ h.
    let turns = here.local_here (source_of c.args.script.now c.args.states.now) c.args.states.now c.args.device c.args.state.now c.index-instruction.result.now (next g (goal.at.returns-then-not-is_collective-clause-posted g c).After-is_collective) (sym c.is_collective.ensures ∙ c.if-not-is_collective.true) in
    absurd (here.local_never_posts (device_of c.args.state.now) _ (sym (ap (λ (t : Turn × Device TensorValue). t.0) turns) ∙ h))

pub index-requires : goal.index-requires
index-requires g c = omega (arith, here.some_places (source_of c.args.script.now c.args.states.now) c.args.states.now c.args.device c.args.state.now c.index-instruction.result.now (next g (goal.at.index-requires g c).After-is_collective) (sym c.is_collective.ensures ∙ c.if-not-is_collective.false), c.index-instruction.result.now.places.ok)

pub returns-then-not-state-clause-step : goal.returns-then-not-state-clause-step
returns-then-not-state-clause-step g c =
    here.posts_here (source_of c.args.script.now c.args.states.now) c.args.states.now c.args.device c.args.state.now c.index-instruction.result.now (next g (goal.at.returns-then-not-state-clause-step g c).After-is_collective) (sym c.is_collective.ensures ∙ c.if-not-is_collective.false) c.if-not-state.true c.index.result.now
    ∙ ap (λ place. (Posted, with_post (device_of c.args.state.now) (tensor_at c.args.state.now.values.items place))) (sym c.index.ensures)

pub returns-then-not-state-clause-made : goal.returns-then-not-state-clause-made
returns-then-not-state-clause-made g c =
    let n = (next g (goal.at.returns-then-not-state-clause-made g c).After-is_collective) in
    let room = room_here c.args.script.now c.args.states.now c.requires.sound c.args.device c.args.state.now c.index-instruction.result.now c.requires.device
    (here.state_is c.args.script.now c.args.states.now c.requires.sound c.args.device c.args.state.now c.requires.device c.requires.state) n (sym c.is_collective.ensures ∙ c.if-not-is_collective.false) c.if-not-state.true in
    let place = All-get_or (λ place. place < length c.args.state.now.values.items) c.index-instruction.result.now.places.items 0 c.index.result.now (here.some_places (source_of c.args.script.now c.args.states.now) c.args.states.now c.args.device c.args.state.now c.index-instruction.result.now n (sym c.is_collective.ensures ∙ c.if-not-is_collective.false)) (here.places_here (source_of c.args.script.now c.args.states.now) c.args.states.now c.args.device c.args.state.now c.index-instruction.result.now n) in
    (rw c.index.ensures place, omega (arith, room, c.args.state.now.posts.ok, length-map c.args.state.now.posts.items (post_of c.args.state.now.values.items)))

pub take_step-requires-clause-next : goal.take_step-requires-clause-next
take_step-requires-clause-next g c = omega (arith, more g (goal.at.take_step-requires-clause-next g c).Start, c.args.script.now.instructions.ok, c.args.script.now.instructions.small)

pub take_step-requires-clause-described : goal.take_step-requires-clause-described
take_step-requires-clause-described g c = (next g (goal.at.take_step-requires-clause-described g c).After-is_collective).asked.described

pub take_step-requires-clause-axes : goal.take_step-requires-clause-axes
take_step-requires-clause-axes g c = (next g (goal.at.take_step-requires-clause-axes g c).After-is_collective).asked.order.axes

pub take_step-requires-clause-can : goal.take_step-requires-clause-can
take_step-requires-clause-can g c = here.can_take_here (source_of c.args.script.now c.args.states.now) c.args.states.now c.args.device c.args.state.now c.index-instruction.result.now (next g (goal.at.take_step-requires-clause-can g c).After-is_collective) g.S.LocalSteps.can c.requires.can c.if-not-state.false

pub returns-clause-step : goal.returns-clause-step
returns-clause-step g c =
    let turns = here.takes_here (source_of c.args.script.now c.args.states.now) c.args.states.now c.args.device c.args.state.now c.index-instruction.result.now (next g (goal.at.returns-clause-step g c).After-is_collective) (sym c.is_collective.ensures ∙ c.if-not-is_collective.false) c.if-not-state.false in
    IfOk-weaker c.take_step.result _ _ (λ x p. turns ∙ sym p) c.take_step.ensures.step

pub returns-clause-posted : goal.returns-clause-posted
returns-clause-posted g c = λ h.
    let turns = here.takes_here (source_of c.args.script.now c.args.states.now) c.args.states.now c.args.device c.args.state.now c.index-instruction.result.now (next g (goal.at.returns-clause-posted g c).After-is_collective) (sym c.is_collective.ensures ∙ c.if-not-is_collective.false) c.if-not-state.false in
    absurd (here.take_never_posts (device_of c.args.state.now) _ (sym (ap (λ (t : Turn × Device TensorValue). t.0) turns) ∙ h))
