use Rattle.std.proofs.Common.{◌≡◌, map, take}
use Rattle.sh_plan.proofs.planning.moves_along.Given as goal

abbrev pub invariant-loop-edge : goal.invariant-loop-edge
invariant-loop-edge l = l.moves ≡ map (λ e. e.by) (take l.edge-index l.way)
