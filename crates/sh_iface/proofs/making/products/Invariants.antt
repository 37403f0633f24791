use Rattle.std.proofs.Common.{◌≡◌, map, take}
use Rattle.sh_sharding.specs.AxisLists.{natural}
use Rattle.sh_sharding.specs.Views.{scaled}
use Rattle.sh_iface.proofs.making.products.Given as goal

abbrev pub invariant-loop-number : goal.invariant-loop-number
invariant-loop-number l = l.out ≡ map natural (map (scaled l.factor) (take l.number-index l.numbers))
