use Rattle.std.proofs.Common.{◌+◌, sym, ap₂, ◌∙◌, arith}
use Rattle.sh_loops.proofs.PointLaws.{coordinate-more, coordinate-none}
use Rattle.sh_loops.proofs.sizes.total_extent.Goals as goal

pub loop-l-init : goal.loop-l-init
loop-l-init c = record { value = coordinate-none c.args.extents.now c.args.loops.now; bound = omega arith }

pub loop-l-preserved : goal.loop-l-preserved
loop-l-preserved c = record {
  value =
      ap₂ (λ a b. a + b) c.loop-l.invariant.value (c.from-total.ensures ∙ c.entry.ensures)
      ∙ sym (coordinate-more c.args.extents.now c.args.loops.now c.loop-l.l-index c.loop-l-test.true);
  bound = omega (arith, c.loop-l.invariant.bound, c.from-total.ensures);
}
