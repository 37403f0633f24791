use Rattle.std.proofs.Common.{◌≡◌, ◌≤◌, ◌^◌, map}
use Rattle.std.specs.List.{range_with_len}
use Rattle.sh_base.specs.Shape.{cell_count, max_cells}
use Rattle.sh_iface.specs.LoopNest.{loop_at}
use Rattle.sh_iface.specs.Splits.{split_at}
use Rattle.sh_choose.specs.Weights.{points_along}
use Rattle.sh_choose.proofs.weighing.points.Given as goal

-- the points of the loops so far
abbrev pub invariant-loop-l : goal.invariant-loop-l
invariant-loop-l g k =
    let nest = (g.O.HasLoops.meaning k.op).nest in
    (k.points ≡ cell_count (map (λ l. points_along (loop_at nest l).extent (split_at k.o l)) (range_with_len 0 k.l)))
    × (k.points ≤ max_cells ^ k.l)
