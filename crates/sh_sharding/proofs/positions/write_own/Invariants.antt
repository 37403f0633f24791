use Rattle.std.proofs.Common.{take}
use Rattle.sh_sharding.specs.Positions.{AreWritten}
use Rattle.sh_sharding.proofs.positions.write_own.Given as goal

-- the cells at the positions so far are written
abbrev pub invariant-loop-position : goal.invariant-loop-position
invariant-loop-position l = AreWritten (take l.position-index l.positions) l.part l.fn.cells.items l.cells.items
