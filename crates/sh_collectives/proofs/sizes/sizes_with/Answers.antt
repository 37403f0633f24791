use Rattle.std.proofs.Common.{arith, set}
use Rattle.std.proofs.lemmas.Grind.{common_steps}
use Rattle.std.proofs.lemmas.List.{length-set}
use Rattle.sh_collectives.proofs.ListLaws.{pushed}
use Rattle.sh_collectives.proofs.sizes.sizes_with.Goals as goal

pub loop-at-preserved : goal.loop-at-preserved
loop-at-preserved c = record {
  value =
      pushed (set c.extents-extents.result.now c.args.axis c.args.size) c.loop-at.sizes.items c.push_reserved.new.self.items c.loop-at.at _ _
      (rw (length-set c.extents-extents.result.now c.args.axis c.args.size) c.loop-at-test.true) c.size_at.ensures c.loop-at.invariant.value c.push_reserved.ensures.items;
  room = grind (arith, common_steps);
  capacity = grind (arith, common_steps);
}
