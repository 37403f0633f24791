use Rattle.std.proofs.Common.{◌-◌}
use Rattle.sh_sharding.proofs.PositionLaws.{AreOwnFrom}
use Rattle.sh_sharding.proofs.positions.own_positions.Given as goal

-- the positions along the innermost dimensions
abbrev pub invariant-loop-back : goal.invariant-loop-back
invariant-loop-back l = AreOwnFrom l.g.extents l.device l.s.dimensions (l.rank - l.back) l.positions.items l.stride
