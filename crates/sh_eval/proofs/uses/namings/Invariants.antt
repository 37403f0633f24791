use Rattle.std.proofs.Common.{◌≡◌, drop}
use Rattle.sh_eval.specs.Uses.{last_naming, uses_in}
use Rattle.sh_eval.proofs.UseLaws.{namings_from}
use Rattle.sh_eval.proofs.uses.namings.Given as goal

abbrev pub invariant-loop-at : goal.invariant-loop-at
invariant-loop-at l = namings_from l.at (drop l.at l.ops) (uses_in l.uses) ≡ last_naming l.ops
