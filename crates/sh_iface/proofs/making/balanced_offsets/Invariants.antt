use Rattle.std.proofs.Common.{◌≡◌, map}
use Rattle.std.specs.List.{range_with_len}
use Rattle.sh_sharding.specs.Sharding.{offset_of}
use Rattle.sh_sharding.specs.declared.shardings.Mark.TheVariants.{Balanced}
use Rattle.sh_iface.proofs.making.balanced_offsets.Given as goal

abbrev pub invariant-loop-part : goal.invariant-loop-part
invariant-loop-part l = l.offsets ≡ map (offset_of l.extent l.parts Balanced) (range_with_len 0 l.part)
