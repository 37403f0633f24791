use Rattle.std.proofs.Common.{map, ap, ◌∙◌, arith, length}
use Rattle.std.proofs.lemmas.Grind.{common_steps}
use Rattle.sh_loops.proofs.SizeLaws.{extents_more, no_extents}
use Rattle.sh_loops.proofs.sizes.extents.Goals as goal

pub loop-l-init : goal.loop-l-init
loop-l-init c = record {
  value = c.new-found.ensures.items ∙ no_extents c.args.maps.now (map (λ t. t.now) c.args.operands.now);
  room = ap length c.new-found.ensures.items;
  capacity = c.new-found.ensures.capacity;
}

pub loop-l-preserved : goal.loop-l-preserved
loop-l-preserved c = record {
  value =
      extents_more c.args.maps.now (map (λ t. t.now) c.args.operands.now) c.loop-l.l c.extent_of.result c.loop-l.found.items c.push_reserved.new.self.items
      c.loop-l.invariant.value c.extent_of.ensures c.push_reserved.ensures.items;
  room = grind (arith, common_steps);
  capacity = grind (arith, common_steps);
}
