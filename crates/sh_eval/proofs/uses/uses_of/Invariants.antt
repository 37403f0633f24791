use Rattle.std.proofs.Common.{◌≡◌, None, drop}
use Rattle.sh_eval.specs.Uses.{changed_at, is_among, last_use, uses_in}
use Rattle.sh_eval.proofs.uses.uses_of.Given as goal

abbrev pub invariant-loop-name : goal.invariant-loop-name
invariant-loop-name l =
    changed_at (is_among (drop l.name-index l.returned)) None (uses_in l.uses) ≡ last_use l.ops l.returned
