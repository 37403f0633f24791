use Rattle.std.proofs.Common.{◌≡◌, List, ℕ, map, ap₂, subst, ◌∙◌}
use Rattle.std.specs.Prelude.{filter_map, slice_get}
use Rattle.std.proofs.lemmas.Result.{IfOk-weaker}
use Rattle.sh_tensor.specs.Tensor.{TensorValue}
use Rattle.sh_turns.specs.Program.{returned}
use Rattle.sh_world.specs.declared.states.State.{State}
use Rattle.sh_world.specs.Machine.{AfterTurns, WorldValue, program_of}
use Rattle.sh_world.proofs.SoundLaws.{returned_where_all}
use Rattle.sh_world.proofs.StartLaws.{after_any}
use Rattle.sh_world.proofs.worlds.World.results.Goals as goal

abbrev Holds : WorldValue → List (List TensorValue) → Type 0
Holds m rows = rows ≡ map (λ d. returned (program_of m.source) d.values) m.devices

pub returns : goal.returns
returns c =
    IfOk-weaker c.all_returned.result
    (λ rows. rows.items ≡ map (λ (t : State). filter_map (λ place. slice_get t.values.items place) c.as_slice-2.result.now) c.as_slice.result.now)
    (λ rows. AfterTurns c.args.self.now (λ w. rows.items ≡ map (λ d. returned (program_of c.args.self.now.source) d.values) w))
    (λ rows e.
    after_any c.args.self.now (λ w. rows.items ≡ map (λ d. returned (program_of c.args.self.now.source) d.values) w)
    (subst (λ m. Holds m rows.items) c.self.view_is
    (e ∙ ap₂ (λ (places : List ℕ) (states : List State). map (λ (t : State). filter_map (λ place. slice_get t.values.items place) places) states) c.as_slice-2.ensures.value c.as_slice.ensures.value
    ∙ returned_where_all c.self.inside.script c.self.inside.states.items c.self.invariant)))
    c.all_returned.ensures
