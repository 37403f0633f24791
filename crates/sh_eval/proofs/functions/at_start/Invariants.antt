use Rattle.std.proofs.Common.{◌≡◌, map, take}
use Rattle.sh_eval.specs.Stores.{values_in}
use Rattle.sh_pieces.specs.Runs.{argument_under}
use Rattle.sh_eval.proofs.functions.at_start.Given as goal

abbrev pub invariant-loop-at : goal.invariant-loop-at
invariant-loop-at l = values_in l.store ≡ argument_under (map (λ a. a.id) (take l.at l.params)) (take l.at l.args)
