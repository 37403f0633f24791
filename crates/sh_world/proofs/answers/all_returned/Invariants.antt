use Rattle.std.proofs.Common.{◌≡◌, map, take}
use Rattle.std.specs.Prelude.{filter_map, slice_get}
use Rattle.sh_world.proofs.answers.all_returned.Given as goal

abbrev pub invariant-loop-state : goal.invariant-loop-state
invariant-loop-state l =
    l.rows.items ≡ map (λ s. filter_map (λ place. slice_get s.values.items place) l.places) (take l.state-index l.states)
