use Rattle.sh_sharding.proofs.ViewLaws.{IsLargest}
use Rattle.sh_sharding.proofs.offsets.largest_part.Given as goal

abbrev pub invariant-loop-part : goal.invariant-loop-part
invariant-loop-part l = IsLargest l.extent l.parts l.mark l.part l.most
