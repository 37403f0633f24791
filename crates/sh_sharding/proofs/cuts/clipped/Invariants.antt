use Rattle.std.proofs.Common.{◌≡◌, unwrap_or}
use Rattle.sh_sharding.specs.Windows.{sliced_by}
use Rattle.sh_sharding.proofs.cuts.clipped.Given as goal

-- the dimensions so far are sliced
abbrev pub invariant-loop-dim : goal.invariant-loop-dim
invariant-loop-dim l = unwrap_or l.part l.t ≡ sliced_by l.g.extents l.device l.s.dimensions l.t l.dim
