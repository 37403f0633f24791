use Rattle.std.proofs.Common.{◌≡◌, map, take}
use Rattle.sh_sharding.specs.Views.{described}
use Rattle.sh_iface.proofs.making.dimensions_of.Given as goal

abbrev pub invariant-loop-view : goal.invariant-loop-view
invariant-loop-view l = l.dimensions ≡ map (described l.g.extents) (take l.view-index l.views)
