use Rattle.std.proofs.Common.{◌+◌, List, ℕ, drop, get_or, map, ap, sym, ◌∙◌, arith}
use Rattle.sh_eval.specs.Cuts.{cut_extent}
use Rattle.sh_eval.proofs.ListRules.{shapes_here, sum_step}
use Rattle.sh_sem.specs.Pieces.{total_extent}
use Rattle.sh_eval.proofs.shapes.total_extent.Goals as goal

pub loop-at-preserved : goal.loop-at-preserved
loop-at-preserved c = record {
  value =
      sum_step c.loop-at.total c.from.result c.saturating_add-total.result (total_extent c.args.axis (drop (c.loop-at.at + 1) (map (λ t. t.shape) (map (λ t. t.now) c.args.ts.now)))) c.saturating_add-total.ensures
      ∙ ap (λ e. cut_extent (c.loop-at.total + (e + total_extent c.args.axis (drop (c.loop-at.at + 1) (map (λ t. t.shape) (map (λ t. t.now) c.args.ts.now))))))
      (c.from.ensures ∙ c.entry_at.ensures ∙ ap (λ s. get_or s c.args.axis 0) (c.extents.ensures.value ∙ c.shape.ensures.value))
      ∙ ap (λ (ss : List (List ℕ)). cut_extent (c.loop-at.total + total_extent c.args.axis ss)) (sym (shapes_here (λ t. t.now) c.args.ts.now c.loop-at.at c.index-ts-at.result c.loop-at-test.true c.index-ts-at.is))
      ∙ c.loop-at.invariant.value;
  small = omega (arith, c.saturating_add-total.ensures);
}
