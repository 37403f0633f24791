use Rattle.std.proofs.Common.{◌≡◌, ◌∷◌, ◌++◌, [], List, ℕ, true, length, map, drop, sym, ap, subst, ◌∙◌, take}
use Rattle.std.specs.Prelude.{IfOk}
use Rattle.std.proofs.lemmas.List.{length-map}
use Rattle.sh_turns.specs.declared.Turn.{Turn}
use Rattle.sh_turns.specs.World.{can_move, goes_on}
use Rattle.sh_world.specs.declared.states.State.{State}
use Rattle.sh_world.specs.Machine.{AfterTurns, StandsFor, WorldValue, program_of}
use Rattle.sh_world.specs.Sound.{IsSound, arguments_in, source_of, value_of}
use Rattle.sh_world.specs.States.{device_of}
use Rattle.sh_world.specs.Turning.{CanTurn}
use Rattle.sh_world.proofs.WorldLaws.{goes_where_ok, sound_on, stands_on, this_holds, written}
use Rattle.sh_world.proofs.worlds.World.turn.Goals as goal
use Rattle.sh_world.proofs.worlds.World.turn.Goals.{After-as_mut_slice, After-make_turn}

-- the world as the devices in memory have it
view : (g : _) (c : After-as_mut_slice g) → value_of c.self.inside.script c.as_mut_slice.result.now ≡ c.args.self.now
view g c = ap (λ (states : List State). value_of c.self.inside.script states) c.as_mut_slice.ensures.value ∙ c.self.view_is

sound : (g : _) (c : After-as_mut_slice g) → IsSound c.self.inside.script c.as_mut_slice.result.now
sound g c = subst (λ (states : List State). IsSound c.self.inside.script states) (sym c.as_mut_slice.ensures.value) c.self.invariant

moves : (g : _) (c : After-as_mut_slice g) → can_move (program_of (source_of c.self.inside.script c.as_mut_slice.result.now)) (map device_of c.as_mut_slice.result.now) c.args.device ≡ true
moves g c =
    let m = value_of c.self.inside.script c.as_mut_slice.result.now in
    this_holds m (λ w. can_move (program_of m.source) w c.args.device ≡ true) (sound g c).stands.0 (sound g c).stands.1
    (subst (λ (m : WorldValue). AfterTurns m (λ w. can_move (program_of m.source) w c.args.device ≡ true)) (sym (view g c)) c.requires.moves)

pub make_turn-requires-clause-can : goal.make_turn-requires-clause-can
make_turn-requires-clause-can g c =
    let d = (goal.at.make_turn-requires-clause-can g c).After-as_mut_slice in
    let m = value_of c.self.inside.script c.as_mut_slice.result.now in
    this_holds m (λ w. CanTurn g.S.LocalSteps.can m.source w c.args.device) (sound g d).stands.0 (sound g d).stands.1
    (subst (λ (m : WorldValue). AfterTurns m (λ w. CanTurn g.S.LocalSteps.can m.source w c.args.device)) (sym (view g d)) c.requires.can)

-- the devices that are written back
back : (g : _) (c : After-make_turn g) → take c.self.inside.states.len (c.make_turn.new.states ++ drop (length c.make_turn.new.states) c.self.inside.states.items) ≡ c.make_turn.new.states
back g c =
    let f = arguments_in c.self.inside.script.arity in
    let size : length c.make_turn.new.states ≡ length c.as_mut_slice.result.now =
    sym (length-map c.make_turn.new.states f) ∙ ap length c.make_turn.ensures.arguments ∙ length-map c.as_mut_slice.result.now f in
    written c.self.inside.states.items c.make_turn.new.states c.self.inside.states.len c.self.inside.states.ok.0 (size ∙ ap length c.as_mut_slice.ensures.value)

pub invariant_of-self : goal.invariant_of-self
invariant_of-self g c =
    let d = (goal.at.invariant_of-self g c).After-as_mut_slice in
    let e = (goal.at.invariant_of-self g c).After-make_turn in
    let x = c.self.inside.script in
    let old = c.as_mut_slice.result.now in
    let new = c.make_turn.new.states in
    subst (λ (states : List State). IsSound x states) (sym (back g e))
    (sound_on x old new c.args.device (sound g d) c.make_turn.ensures.arguments c.make_turn.ensures.placed c.make_turn.ensures.room
    (stands_on x old new c.args.device (sound g d) c.make_turn.ensures.arguments c.make_turn.result c.make_turn.ensures.after c.make_turn.ensures.err (moves g d)))

pub returns-clause-goes : goal.returns-clause-goes
returns-clause-goes g c =
    let d = (goal.at.returns-clause-goes g c).After-as_mut_slice in
    let e = (goal.at.returns-clause-goes g c).After-make_turn in
    let x = c.self.inside.script in
    let Goes : WorldValue → List State → Type 0 =
    λ m states. IfOk c.make_turn.result (λ (t : Turn). goes_on t ≡ true → (turns : List ℕ) → StandsFor m turns → StandsFor (value_of x states) (turns ++ c.args.device ∷ [])) in
    subst (λ (m : WorldValue). Goes m (take c.self.inside.states.len (c.make_turn.new.states ++ drop (length c.make_turn.new.states) c.self.inside.states.items))) (view g d)
    (subst (Goes (value_of x c.as_mut_slice.result.now)) (sym (back g e))
    (goes_where_ok x c.as_mut_slice.result.now c.make_turn.new.states c.args.device (sound g d) c.make_turn.ensures.arguments c.make_turn.result c.make_turn.ensures.kind c.make_turn.ensures.after (moves g d)))
