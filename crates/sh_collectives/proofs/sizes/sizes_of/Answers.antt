use Rattle.std.proofs.Common.{arith, get_or, refl}
use Rattle.std.proofs.lemmas.Grind.{common_steps}
use Rattle.sh_collectives.proofs.ListLaws.{pushed}
use Rattle.sh_collectives.proofs.sizes.sizes_of.Goals as goal

pub loop-extent-preserved : goal.loop-extent-preserved
loop-extent-preserved c = record {
  value = pushed c.extents-extents.result.now c.loop-extent.sizes.items c.push_reserved.new.self.items c.loop-extent.extent-index (get_or c.extents-extents.result.now c.loop-extent.extent-index 0) 0 c.loop-extent-test.true refl c.loop-extent.invariant.value c.push_reserved.ensures.items;
  room = grind (arith, common_steps);
  capacity = grind (arith, common_steps);
}
