use Rattle.std.proofs.Common.{◌-◌}
use Rattle.sh_sharding.specs.Positions.{IsStanding}
use Rattle.sh_sharding.proofs.together.standing.Given as goal

-- each cell is that of its first owner among the last devices
abbrev pub invariant-loop-back : goal.invariant-loop-back
invariant-loop-back l = IsStanding l.s l.parts (l.devices - l.back) l.cells.items
