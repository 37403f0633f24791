use Rattle.std.proofs.Common.{◌+◌, drop, map, ap, sym, ◌∙◌}
use Rattle.std.specs.Prelude.{◌&&◌}
use Rattle.std.specs.List.{list_all}
use Rattle.sh_eval.proofs.ListRules.{shapes_here}
use Rattle.sh_sem.specs.Pieces.{is_like}
use Rattle.sh_eval.proofs.shapes.are_like.Goals as goal

pub returns-then-not-is_like : goal.returns-then-not-is_like
returns-then-not-is_like c =
    ap (λ b. b && list_all (is_like c.args.axis c.args.s.now) (drop (c.loop-at.at + 1) (map (λ t. t.shape) (map (λ t. t.now) c.args.ts.now)))) (sym c.if-not-is_like.true ∙ c.is_like.ensures ∙ ap (is_like c.args.axis c.args.s.now) (c.extents.ensures.value ∙ c.shape.ensures.value))
    ∙ sym (ap (list_all (is_like c.args.axis c.args.s.now)) (shapes_here (λ t. t.now) c.args.ts.now c.loop-at.at c.index-ts-at.result c.loop-at-test.true c.index-ts-at.is))
    ∙ c.loop-at.invariant

pub loop-at-preserved : goal.loop-at-preserved
loop-at-preserved c =
    ap (λ b. b && list_all (is_like c.args.axis c.args.s.now) (drop (c.loop-at.at + 1) (map (λ t. t.shape) (map (λ t. t.now) c.args.ts.now)))) (sym c.if-not-is_like.false ∙ c.is_like.ensures ∙ ap (is_like c.args.axis c.args.s.now) (c.extents.ensures.value ∙ c.shape.ensures.value))
    ∙ sym (ap (list_all (is_like c.args.axis c.args.s.now)) (shapes_here (λ t. t.now) c.args.ts.now c.loop-at.at c.index-ts-at.result c.loop-at-test.true c.index-ts-at.is))
    ∙ c.loop-at.invariant
