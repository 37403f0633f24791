use Rattle.std.proofs.Common.{Some, map, set, ap, ap₂, sym, ◌∙◌, true}
use Rattle.std.specs.Prelude.{option_map}
use Rattle.sh_eval.specs.Cuts.{cut_shape}
use Rattle.sh_eval.proofs.ListRules.{joined_is, set_cut_extent}
use Rattle.sh_sem.specs.Pieces.{total_extent}
use Rattle.std.specs.List.{list_all}
use Rattle.sh_sem.specs.Pieces.{is_like}
use Rattle.sh_eval.proofs.shapes.joined_shape.Goals as goal

pub returns-clause-value : goal.returns-clause-value
returns-clause-value c =
    let first = c.extents-first.ensures.value ∙ c.shape.ensures.value in
    ap (λ s. Some s)
    (c.in_ok-with_extent.ensures ∙ ap₂ (λ s v. cut_shape (set s c.args.axis v)) first c.total_extent.ensures
    ∙ set_cut_extent c.index-ts-0.result.now.shape c.args.axis (total_extent c.args.axis (map (λ t. t.shape) (map (λ t. t.now) c.args.ts.now))))
    ∙ sym (ap (option_map cut_shape)
    (joined_is (λ t. t.now) c.args.ts.now c.split_at.result.1.now c.index-ts-0.result c.args.axis true c.if-ts-eq0.false c.index-ts-0.is c.split_at.ensures.back
    (sym c.if-not-are_like.false ∙ c.are_like.ensures ∙ ap (λ s. list_all (is_like c.args.axis s) (map (λ t. t.shape) (map (λ t. t.now) c.split_at.result.1.now))) first)))
