use Rattle.std.proofs.Common.{◌≡◌, drop, map}
use Rattle.std.specs.Prelude.{flat_map, fold}
use Rattle.sh_world.specs.History.{code_of, history_step}
use Rattle.sh_world.proofs.answers.with_values.Given as goal

abbrev pub invariant-loop-at : goal.invariant-loop-at
invariant-loop-at l =
    fold history_step l.sum (map code_of (flat_map (λ t. t.cells) (drop l.at l.values)))
    ≡ fold history_step l.initial.sum (map code_of (flat_map (λ t. t.cells) (drop l.arity l.values)))
