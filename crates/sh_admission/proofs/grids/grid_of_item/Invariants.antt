use Rattle.std.proofs.Common.{◌≡◌, map, take}
use Rattle.sh_admission.proofs.ReadLaws.{clamped}
use Rattle.sh_admission.proofs.grids.grid_of_item.Given as goal

abbrev pub invariant-loop-extent : goal.invariant-loop-extent
invariant-loop-extent l = l.extents.items ≡ map clamped (take l.extent-index l.extent-items)
