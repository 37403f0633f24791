use Rattle.std.proofs.Common.{◌≡◌, ℕ, ◌<◌, [], get_or, length, map, take}
use Rattle.sh_lockstep.specs.Tables.{values_in}
use Rattle.sh_pieces.specs.Runs.{argument_under}
use Rattle.sh_lockstep.proofs.lock.at_start.Given as goal

abbrev pub invariant-loop-at : goal.invariant-loop-at
invariant-loop-at l =
    (c : ℕ) (name : ℕ) → c < length l.args
    → values_in l.table c name ≡ argument_under (map (λ a. a.id) (take l.at l.params)) (take l.at (get_or l.args c [])) name
