use Rattle.std.proofs.Common.{◌≡◌, drop, map, length}
use Rattle.std.specs.Prelude.{◌↔◌}
use Rattle.sh_sharding.specs.LocalTypes.{local_dim, local_dims}
use Rattle.sh_verify.proofs.cut_rules.has_local_dims.Given as goal

-- the extents to come decide
abbrev pub invariant-loop-at : goal.invariant-loop-at
invariant-loop-at l = record {
  same : (drop l.at l.dims ≡ map (local_dim l.s.grid.extents) (drop l.at l.s.dimensions)) ↔ (l.dims ≡ local_dims l.s);
  long : length l.dims ≡ length l.s.dimensions;
}
