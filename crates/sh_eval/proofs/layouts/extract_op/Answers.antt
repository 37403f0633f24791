use Rattle.std.proofs.Common.{false, true, map, ap, ap₂, sym, ◌∙◌}
use Rattle.std.proofs.lemmas.Result.{IfOk-weaker}
use Rattle.sh_eval.specs.Cuts.{cut_shape}
use Rattle.sh_eval.specs.Rules.{rule_cell}
use Rattle.sh_eval.proofs.LayoutLaws.{few_of_rule, no_value, one_value, value_of_rule, values_long}
use Rattle.std.specs.List.{list_all}
use Rattle.sh_eval.specs.Slices.{ranges_in}
use Rattle.sh_eval.specs.declared.rules.CellRule.TheVariants.{Sliced}
use Rattle.sh_eval.proofs.KindLaws.{extract_alone, extract_cell, extract_shape}
use Rattle.sh_sem.specs.Given.{gives_slice}
use Rattle.sh_sem.specs.Slices.{lies_within, ranges_of, sizes_of}
use Rattle.sh_eval.proofs.layouts.extract_op.Goals as goal

pub returns-then-ts-ne1 : goal.returns-then-ts-ne1
returns-then-ts-ne1 c = no_value (gives_slice c.args.x.now) c.args.dims.now c.args.width (map (λ t. t.now) c.args.ts.now) (extract_alone c.args.x.now (map (λ t. t.now) c.args.ts.now) (λ e. c.if-ts-ne1.true (sym (values_long (λ t. t.now) c.args.ts.now) ∙ e)))

pub returns-then-not-are_inside : goal.returns-then-not-are_inside
returns-then-not-are_inside c =
    no_value (gives_slice c.args.x.now) c.args.dims.now c.args.width (map (λ t. t.now) c.args.ts.now)
    (extract_shape c.args.x.now c.index-ts-0.result.now (map (λ t. t.now) c.args.ts.now) (ranges_in c.in_ok-ranges.ranges) false (one_value (λ t. t.now) c.args.ts.now c.index-ts-0.result c.if-ts-ne1.false c.index-ts-0.is) (c.in_ok-ranges.ensures ∙ ap₂ (λ d s. ranges_of c.args.x.now.slice d s) c.dims_of.ensures (c.extents.ensures.value ∙ c.shape.ensures.value)) (sym c.if-not-are_inside.true ∙ (c.are_inside.ensures ∙ ap (λ r. list_all lies_within (ranges_in r)) c.as_slice.ensures)))

pub returns : goal.returns
returns c =
    let shape = extract_shape c.args.x.now c.index-ts-0.result.now (map (λ t. t.now) c.args.ts.now) (ranges_in c.in_ok-ranges.ranges) true (one_value (λ t. t.now) c.args.ts.now c.index-ts-0.result c.if-ts-ne1.false c.index-ts-0.is) (c.in_ok-ranges.ensures ∙ ap₂ (λ d s. ranges_of c.args.x.now.slice d s) c.dims_of.ensures (c.extents.ensures.value ∙ c.shape.ensures.value)) (sym c.if-not-are_inside.false ∙ (c.are_inside.ensures ∙ ap (λ r. list_all lies_within (ranges_in r)) c.as_slice.ensures)) in
    IfOk-weaker c.laid_out.result _ _
    (λ out p.
    p
    ∙ value_of_rule (gives_slice c.args.x.now) c.args.dims.now c.args.width (map (λ t. t.now) c.args.ts.now) (sizes_of (ranges_in c.in_ok-ranges.ranges)) (rule_cell (Sliced c.in_ok-ranges.ranges) c.index-ts-0.result.now (map (λ t. t.now) c.args.ts.now)) shape
    (extract_cell c.args.x.now c.index-ts-0.result.now (map (λ t. t.now) c.args.ts.now) c.in_ok-ranges.ranges (one_value (λ t. t.now) c.args.ts.now c.index-ts-0.result c.if-ts-ne1.false c.index-ts-0.is) (c.in_ok-ranges.ensures ∙ ap₂ (λ d s. ranges_of c.args.x.now.slice d s) c.dims_of.ensures (c.extents.ensures.value ∙ c.shape.ensures.value))))
    (c.laid_out.ensures (sizes_of (ranges_in c.in_ok-ranges.ranges))
    (c.as_slice-3.ensures.value ∙ c.in_ok-extents.ensures ∙ ap (λ r. cut_shape (sizes_of (ranges_in r))) c.as_slice-2.ensures)
    (few_of_rule (gives_slice c.args.x.now) c.args.dims.now (map (λ t. t.now) c.args.ts.now) (sizes_of (ranges_in c.in_ok-ranges.ranges)) shape c.requires.few))
