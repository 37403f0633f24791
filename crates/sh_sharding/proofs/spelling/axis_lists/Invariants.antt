use Rattle.std.proofs.Common.{◌≡◌, take, map, pos}
use Rattle.sh_sharding.proofs.spelling.axis_lists.Given as goal

-- the lists so far
abbrev pub invariant-loop-dimension : goal.invariant-loop-dimension
invariant-loop-dimension l = l.lists ≡ map (λ d. map pos d.axes) (take l.dimension-index l.dimensions)
