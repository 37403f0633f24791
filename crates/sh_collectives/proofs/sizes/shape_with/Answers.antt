use Rattle.std.proofs.Common.{arith, get_or, refl}
use Rattle.std.proofs.lemmas.Grind.{common_steps}
use Rattle.sh_collectives.proofs.ListLaws.{pushed}
use Rattle.sh_collectives.proofs.sizes.shape_with.Goals as goal

pub loop-size-preserved : goal.loop-size-preserved
loop-size-preserved c = record {
  value = pushed c.args.sizes.now c.loop-size.extents.items c.push_reserved.new.self.items c.loop-size.size-index (get_or c.args.sizes.now c.loop-size.size-index 0) 0 c.loop-size-test.true refl c.loop-size.invariant.value c.push_reserved.ensures.items;
  room = grind (arith, common_steps);
  capacity = grind (arith, common_steps);
}
