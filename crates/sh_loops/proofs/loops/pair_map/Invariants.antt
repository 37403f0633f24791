use Rattle.std.proofs.Common.{◌≡◌, take}
use Rattle.sh_loops.proofs.loops.pair_map.Given as goal

abbrev pub invariant-loop-loops : goal.invariant-loop-loops
invariant-loop-loops l = l.map.items ≡ take l.loops-index l.dims
