use Rattle.std.proofs.Common.{◌≡◌, Some, drop}
use Rattle.sh_eval.specs.Uses.{changed_at, is_among, uses_in}
use Rattle.sh_eval.proofs.uses.note_names.Given as goal

abbrev pub invariant-loop-name : goal.invariant-loop-name
invariant-loop-name l =
    changed_at (is_among (drop l.name-index l.names)) (Some l.at) (uses_in l.uses)
    ≡ changed_at (is_among l.names) (Some l.at) (uses_in l.initial.uses)
