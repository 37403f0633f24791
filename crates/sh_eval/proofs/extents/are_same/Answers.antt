use Rattle.std.proofs.Common.{◌+◌, drop, map, ap, sym, ◌∙◌}
use Rattle.std.specs.Prelude.{◌&&◌, nat_eq}
use Rattle.std.specs.Cmp.Lexicographic.{pointwise}
use Rattle.std.specs.List.{list_all}
use Rattle.sh_eval.proofs.ListRules.{shapes_here}
use Rattle.sh_eval.proofs.extents.are_same.Goals as goal

pub returns-then-not-is_same : goal.returns-then-not-is_same
returns-then-not-is_same c =
    (ap (λ b. b && list_all (pointwise nat_eq c.args.s.now) (drop (c.loop-at.at + 1) (map (λ t. t.shape) (map (λ t. t.now) c.args.ts.now)))) (sym c.if-not-is_same.true ∙ c.is_same.ensures ∙ ap (pointwise nat_eq c.args.s.now) (c.extents.ensures.value ∙ c.shape.ensures.value)))
    ∙ sym (ap (list_all (pointwise nat_eq c.args.s.now)) (shapes_here (λ t. t.now) c.args.ts.now c.loop-at.at c.index-ts-at.result c.loop-at-test.true c.index-ts-at.is))
    ∙ c.loop-at.invariant

pub loop-at-preserved : goal.loop-at-preserved
loop-at-preserved c =
    (ap (λ b. b && list_all (pointwise nat_eq c.args.s.now) (drop (c.loop-at.at + 1) (map (λ t. t.shape) (map (λ t. t.now) c.args.ts.now)))) (sym c.if-not-is_same.false ∙ c.is_same.ensures ∙ ap (pointwise nat_eq c.args.s.now) (c.extents.ensures.value ∙ c.shape.ensures.value)))
    ∙ sym (ap (list_all (pointwise nat_eq c.args.s.now)) (shapes_here (λ t. t.now) c.args.ts.now c.loop-at.at c.index-ts-at.result c.loop-at-test.true c.index-ts-at.is))
    ∙ c.loop-at.invariant
