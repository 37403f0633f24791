use Rattle.std.proofs.Common.{◌≡◌, ◌≤◌, drop}
use Rattle.sh_eval.specs.Functions.{CanEvaluateFrom}
use Rattle.sh_eval.specs.Stores.{values_in}
use Rattle.sh_eval.specs.Work.{max_work, outcome_from}
use Rattle.sh_eval.proofs.functions.run.Given as goal

-- what is still to be done can be evaluated, and ends as all does
abbrev pub invariant-loop-at : goal.invariant-loop-at
invariant-loop-at l =
    CanEvaluateFrom (drop l.at l.ops) (values_in l.store)
    × ((outcome_from l.work l.at (drop l.at l.ops) l.names (values_in l.store) ≡ outcome_from 0 0 l.ops l.names (values_in l.initial.store)) × (l.work ≤ max_work))
