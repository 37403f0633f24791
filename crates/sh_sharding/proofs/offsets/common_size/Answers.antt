use Rattle.std.proofs.Common.{arith}
use Rattle.sh_sharding.proofs.offsets.common_size.Goals as goal

pub returns : goal.returns
returns c = record {
  within = c.part_size-first.ensures.within;
  all = λ i l. c.loop-part.invariant i (omega (arith, c.loop-part-test.false));
  first = c.part_size-first.ensures.value;
}
