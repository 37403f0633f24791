use Rattle.std.proofs.Common.{◌<◌, ◌^◌, sym, subst, ◌∙◌, arith}
use Rattle.std.proofs.lemmas.Grind.{common_steps}
use Rattle.std.specs.List.{All}
use Rattle.sh_sem.specs.Nest.{index_at}
use Rattle.sh_loops.proofs.PointLaws.{coordinate-small, index-pushed}
use Rattle.sh_loops.proofs.points.index_at.Goals as goal

pub coordinate-requires : goal.coordinate-requires
coordinate-requires c =
    coordinate-small c.args.dims.now c.extents-point.result.now c.as_slice.result.now c.loop-loops.loops-index _ c.loop-loops-test.true
    (c.as_slice.ensures ∙ c.loops-item.is)
    (subst (λ p. All (λ k. k < 2 ^ 64) (index_at c.args.dims.now p)) (sym c.extents-point.ensures.value) c.requires.small)

pub loop-loops-preserved : goal.loop-loops-preserved
loop-loops-preserved c = record {
  value =
      index-pushed c.args.dims.now c.extents-point.result.now c.as_slice.result.now c.loop-loops.places.items c.push_reserved.new.self.items c.loop-loops.loops-index c.coordinate.result _
      c.loop-loops-test.true (c.as_slice.ensures ∙ c.loops-item.is) c.coordinate.ensures c.push_reserved.ensures.items c.loop-loops.invariant.value;
  room = grind (arith, common_steps);
  capacity = grind (arith, common_steps);
}
