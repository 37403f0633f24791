use Rattle.std.proofs.Common.{ℕ, ◌<◌, None}
use Rattle.std.specs.Prelude.{get_or}
use Rattle.sh_iface.specs.LoopNest.{loop_at}
use Rattle.sh_iface.specs.Valid.{MayBeSplit}
use Rattle.sh_iface.proofs.validity.are_splits.Given as goal

-- the loops so far have their splits
abbrev pub invariant-loop-at : goal.invariant-loop-at
invariant-loop-at g l = (i : ℕ) → i < l.at → MayBeSplit l.g.extents (loop_at (g.O.HasLoops.meaning l.op).nest i) (get_or l.o i None)
