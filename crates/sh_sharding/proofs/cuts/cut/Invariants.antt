use Rattle.std.proofs.Common.{◌≡◌, length}
use Rattle.sh_sharding.specs.Windows.{sliced_by, padded_by}
use Rattle.sh_sharding.proofs.cuts.cut.Given as goal

-- the dimensions so far are padded
abbrev pub invariant-loop-dim : goal.invariant-loop-dim
invariant-loop-dim l = l.part ≡ padded_by l.g.extents l.device l.s.dimensions (sliced_by l.g.extents l.device l.s.dimensions l.t (length l.s.dimensions)) l.dim
