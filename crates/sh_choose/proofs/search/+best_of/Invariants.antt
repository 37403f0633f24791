use Rattle.std.proofs.Common.{List, ◌∷◌, ◌++◌, map, length}
use Rattle.std.specs.Prelude.{Option}
use Rattle.sh_iface.specs.Splits.{OptionValue}
use Rattle.sh_choose.specs.declared.chosen.Chosen.{Chosen}
use Rattle.sh_choose.specs.Least.{IsBest}
use Rattle.sh_choose.specs.Proposals.{choices}
use Rattle.sh_choose.proofs.search.+best_of.Given as goal

-- what is best of the proposals that are left, and then of those behind them, is best of all
abbrev pub invariant-loop-split : goal.invariant-loop-split
invariant-loop-split g l =
    let nest = (g.O.HasLoops.meaning l.op).nest in
    (new : Option Chosen)
    → ((after : List OptionValue) → IsBest nest l.g l.known after l.best → IsBest nest l.g l.known (map (λ rest. l.fn.o ++ rest) (choices (l.rest ∷ l.others)) ++ after) new)
    → (after : List OptionValue) → IsBest nest l.g l.known after l.fn.best → IsBest nest l.g l.known (map (λ rest. l.fn.o ++ rest) (choices l.fn.later) ++ after) new

abbrev pub decreases-loop-split : goal.decreases-loop-split
decreases-loop-split g l = length l.rest

abbrev pub decreases-best_of : goal.decreases-best_of
decreases-best_of g l = length l.later.now
