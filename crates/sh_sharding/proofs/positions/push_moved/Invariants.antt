use Rattle.std.proofs.Common.{◌≡◌, ◌++◌, map, take}
use Rattle.sh_sharding.specs.Positions.{moved}
use Rattle.sh_sharding.proofs.positions.push_moved.Given as goal

-- the positions so far are appended
abbrev pub invariant-loop-position : goal.invariant-loop-position
invariant-loop-position l = l.out.items ≡ l.fn.out.items ++ map (moved l.by) (take l.position-index l.positions)
