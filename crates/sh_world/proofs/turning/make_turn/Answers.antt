use Rattle.std.proofs.Common.{◌≡◌, ◌≤◌, length, sym, ap, subst, ◌∙◌, arith, get_or}
use Rattle.std.proofs.lemmas.List.{get_or_default}
use Rattle.std.proofs.lemmas.Result.{on_err_weaker, on_ok_weaker}
use Rattle.sh_tensor.specs.Tensor.{TensorValue}
use Rattle.sh_turns.specs.declared.Turn.{Turn}
use Rattle.sh_turns.specs.World.{Device}
use Rattle.sh_world.specs.declared.states.State.{State}
use Rattle.sh_world.specs.Machine.{program_of}
use Rattle.sh_world.specs.Sound.{source_of}
use Rattle.sh_world.specs.Turning.{step_of}
use Rattle.sh_world.proofs.AfterLaws.{arguments_stay, devices_after, devices_stay}
use Rattle.sh_world.proofs.SoundLaws.{arity_here, as_many_states}
use Rattle.sh_world.proofs.turning.make_turn.Goals as goal
use Rattle.sh_world.proofs.turning.make_turn.Goals.{After-make_step}

-- the device before its step
same : (g : _) (c : After-make_step g) → c.index-now-at.result ≡ get_or c.args.states.now c.args.device c.index-states-at.result
same g c =
    c.index-now-at.is
    ∙ get_or_default c.args.states.now c.args.device c.index-now-at.result c.index-states-at.result (omega (arith, c.requires.device, as_many_states c.args.script.now c.args.states.now c.requires.sound))

pub returns-clause-after : goal.returns-clause-after
returns-clause-after g c =
    let d = (goal.at.returns-clause-after g c).After-make_step in
    on_ok_weaker c.make_step.result
    (λ e. devices_after c.args.states.now c.args.device c.make_step.new.state c.index-states-at.result (program_of (source_of c.args.script.now c.args.states.now))
    (e ∙ ap (λ (s : State). (step_of s c.in_ok-step.step).1) (sym (same g d)) ∙ ap (λ (t : Turn × Device TensorValue). t.1) (sym c.in_ok-step.ensures.step)))
    c.make_step.ensures.after

pub returns-clause-arguments : goal.returns-clause-arguments
returns-clause-arguments g c =
    let d = (goal.at.returns-clause-arguments g c).After-make_step in
    let arity = arity_here c.args.script.now c.args.states.now c.requires.sound c.args.device c.index-now-at.result c.requires.device c.index-now-at.is in
    let long : c.args.script.now.arity ≤ length (get_or c.args.states.now c.args.device c.index-states-at.result).values.items =
    subst (λ (s : State). c.args.script.now.arity ≤ length s.values.items) (same g d) arity in
    arguments_stay c.args.states.now c.args.device c.make_step.new.state c.index-states-at.result c.args.script.now.arity (c.make_step.ensures.arguments c.args.script.now.arity long)

pub returns-clause-err : goal.returns-clause-err
returns-clause-err g c =
    on_err_weaker c.make_step.result (λ e. devices_stay c.args.states.now c.args.device c.make_step.new.state c.index-states-at.result e) c.make_step.ensures.err
