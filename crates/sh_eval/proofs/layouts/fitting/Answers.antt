use Rattle.std.proofs.Common.{◌<◌, ap, sym, ◌∙◌, Some, arith, subst}
use Rattle.std.specs.Prelude.{◌^◌, IsTrue}
use Rattle.std.specs.List.{All}
use Rattle.sh_base.specs.Shape.{cell_count, max_cells}
use Rattle.sh_eval.proofs.LayoutLaws.{few_at_known, few_count, few_uncut, few_words, not_both, shape_known_at}
use Rattle.sh_eval.proofs.layouts.fitting.Goals as goal

pub returns-then-not-are_words-clause-value : goal.returns-then-not-are_words-clause-value
returns-then-not-are_words-clause-value c =
    λ s is few.
    let small = few_at_known c.args.dims.now s c.has_cut_extents.result (c.has_cut_extents.ensures.value s is) c.if-not-has_cut_extents.false few in
    let words : IsTrue c.are_words.result = c.are_words.ensures.1 (subst (All (λ n. n < 2 ^ 64)) (sym (is ∙ few_uncut s small)) (few_words s small)) in
    absurd (not_both c.are_words.result c.if-not-are_words.true words)

pub returns-in-Some-clause-value : goal.returns-in-Some-clause-value
returns-in-Some-clause-value c =
    λ s is few.
    let small = few_at_known c.args.dims.now s c.has_cut_extents.result (c.has_cut_extents.ensures.value s is) c.if-not-has_cut_extents.false few in
    ap (λ z. Some z) (c.narrow-shape.ensures ∙ is ∙ few_uncut s small)
    ∙ sym (shape_known_at c.args.dims.now s c.has_cut_extents.result (c.has_cut_extents.ensures.value s is) c.if-not-has_cut_extents.false)

pub returns-in-None-clause-value : goal.returns-in-None-clause-value
returns-in-None-clause-value c =
    λ s is few.
    let small = few_at_known c.args.dims.now s c.has_cut_extents.result (c.has_cut_extents.ensures.value s is) c.if-not-has_cut_extents.false few in
    let count = few_count s small in
    let more : max_cells < cell_count s = subst (λ z. max_cells < cell_count z) (c.narrow-shape.ensures ∙ is ∙ few_uncut s small) c.in-None.ensures.none in
    absurd (omega (arith, count, more))
