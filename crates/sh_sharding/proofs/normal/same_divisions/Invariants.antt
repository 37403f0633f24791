use Rattle.std.proofs.Common.{◌≡◌, take, map}
use Rattle.sh_sharding.specs.Normal.{division_of}
use Rattle.sh_sharding.proofs.normal.same_divisions.Given as goal

-- the dimensions so far are divided alike
abbrev pub invariant-loop-at : goal.invariant-loop-at
invariant-loop-at l = map division_of (take l.at l.a) ≡ map division_of (take l.at l.b)
