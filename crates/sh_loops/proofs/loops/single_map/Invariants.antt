use Rattle.std.proofs.Common.{◌≡◌, take}
use Rattle.sh_ir.specs.Loops.{single}
use Rattle.sh_loops.proofs.loops.single_map.Given as goal

abbrev pub invariant-loop-l : goal.invariant-loop-l
invariant-loop-l l = l.map.items ≡ single (take l.l-index l.loops)
