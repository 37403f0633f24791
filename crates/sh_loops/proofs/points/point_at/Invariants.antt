use Rattle.std.proofs.Common.{◌≡◌, ◌<◌, ◌++◌, length, drop}
use Rattle.sh_base.specs.Shape.{cell_count, unflat_of}
use Rattle.sh_loops.proofs.points.point_at.Given as goal

abbrev pub invariant-loop-extent : goal.invariant-loop-extent
invariant-loop-extent l = record {
  stride : l.stride ≡ cell_count (drop l.extent-index l.extent-items);
  rest : l.rest < l.stride;
  value : l.places.items ++ unflat_of (drop l.extent-index l.extent-items) l.rest ≡ unflat_of l.extents l.number;
  room : length l.places.items ≡ l.extent-index;
  capacity : l.places.capacity ≡ 6;
}
