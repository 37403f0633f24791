use Rattle.std.proofs.Common.{false, true, refl, map, ap, ap₂, sym, ◌∙◌}
use Rattle.std.proofs.lemmas.Result.{IfOk-weaker}
use Rattle.sh_eval.specs.Cuts.{cut_shape}
use Rattle.sh_eval.specs.Rules.{rule_cell}
use Rattle.sh_eval.proofs.LayoutLaws.{few_of_rule, no_value, two_values, value_of_rule, values_long}
use Rattle.std.specs.Prelude.{nat_eq}
use Rattle.std.specs.Cmp.Lexicographic.{pointwise}
use Rattle.std.specs.List.{list_all}
use Rattle.sh_eval.specs.Slices.{ranges_in}
use Rattle.sh_eval.specs.declared.rules.CellRule.TheVariants.{Inserted}
use Rattle.sh_eval.proofs.KindLaws.{insert_both, insert_cell, insert_shape}
use Rattle.sh_sem.specs.Given.{gives_insertion}
use Rattle.sh_sem.specs.Slices.{lies_within, ranges_of, sizes_of}
use Rattle.sh_eval.proofs.layouts.insert_op.Goals as goal

pub returns-then-ts-ne2 : goal.returns-then-ts-ne2
returns-then-ts-ne2 c = no_value (gives_insertion c.args.x.now c.args.dims.now) c.args.dims.now c.args.width (map (λ t. t.now) c.args.ts.now) (insert_both c.args.x.now c.args.dims.now (map (λ t. t.now) c.args.ts.now) (λ e. c.if-ts-ne2.true (sym (values_long (λ t. t.now) c.args.ts.now) ∙ e)))

pub returns-then-not-are_inside : goal.returns-then-not-are_inside
returns-then-not-are_inside c =
    no_value (gives_insertion c.args.x.now c.args.dims.now) c.args.dims.now c.args.width (map (λ t. t.now) c.args.ts.now)
    (insert_shape c.args.x.now c.args.dims.now c.index-ts-0.result.now c.index-ts-1.result.now (map (λ t. t.now) c.args.ts.now) (ranges_in c.in_ok-ranges.ranges) false _ (two_values (λ t. t.now) c.args.ts.now c.index-ts-0.result c.index-ts-1.result c.if-ts-ne2.false c.index-ts-0.is c.index-ts-1.is) (c.in_ok-ranges.ensures ∙ ap (ranges_of c.args.x.now.slice c.args.dims.now) (c.extents-extents.ensures.value ∙ c.shape.ensures.value)) (sym c.if-not-are_inside.true ∙ (c.are_inside.ensures ∙ ap (λ r. list_all lies_within (ranges_in r)) c.as_slice.ensures)) refl)

pub returns-then-not-are_extents : goal.returns-then-not-are_extents
returns-then-not-are_extents c =
    no_value (gives_insertion c.args.x.now c.args.dims.now) c.args.dims.now c.args.width (map (λ t. t.now) c.args.ts.now)
    (insert_shape c.args.x.now c.args.dims.now c.index-ts-0.result.now c.index-ts-1.result.now (map (λ t. t.now) c.args.ts.now) (ranges_in c.in_ok-ranges.ranges) true false (two_values (λ t. t.now) c.args.ts.now c.index-ts-0.result c.index-ts-1.result c.if-ts-ne2.false c.index-ts-0.is c.index-ts-1.is) (c.in_ok-ranges.ensures ∙ ap (ranges_of c.args.x.now.slice c.args.dims.now) (c.extents-extents.ensures.value ∙ c.shape.ensures.value)) (sym c.if-not-are_inside.false ∙ (c.are_inside.ensures ∙ ap (λ r. list_all lies_within (ranges_in r)) c.as_slice.ensures))
    (sym c.if-not-are_extents.true ∙ (c.are_extents.ensures ∙ ap₂ (λ r s. pointwise nat_eq (sizes_of (ranges_in r)) s) c.as_slice-2.ensures (c.extents.ensures.value ∙ c.shape-2.ensures.value))))

pub returns : goal.returns
returns c =
    let shape = insert_shape c.args.x.now c.args.dims.now c.index-ts-0.result.now c.index-ts-1.result.now (map (λ t. t.now) c.args.ts.now) (ranges_in c.in_ok-ranges.ranges) true true (two_values (λ t. t.now) c.args.ts.now c.index-ts-0.result c.index-ts-1.result c.if-ts-ne2.false c.index-ts-0.is c.index-ts-1.is) (c.in_ok-ranges.ensures ∙ ap (ranges_of c.args.x.now.slice c.args.dims.now) (c.extents-extents.ensures.value ∙ c.shape.ensures.value)) (sym c.if-not-are_inside.false ∙ (c.are_inside.ensures ∙ ap (λ r. list_all lies_within (ranges_in r)) c.as_slice.ensures))
    (sym c.if-not-are_extents.false ∙ (c.are_extents.ensures ∙ ap₂ (λ r s. pointwise nat_eq (sizes_of (ranges_in r)) s) c.as_slice-2.ensures (c.extents.ensures.value ∙ c.shape-2.ensures.value))) in
    IfOk-weaker c.laid_out.result _ _
    (λ out p.
    p
    ∙ value_of_rule (gives_insertion c.args.x.now c.args.dims.now) c.args.dims.now c.args.width (map (λ t. t.now) c.args.ts.now) c.index-ts-1.result.now.shape (rule_cell (Inserted c.in_ok-ranges.ranges) c.index-ts-0.result.now (map (λ t. t.now) c.args.ts.now)) shape
    (insert_cell c.args.x.now c.args.dims.now c.index-ts-0.result.now c.index-ts-1.result.now (map (λ t. t.now) c.args.ts.now) c.in_ok-ranges.ranges (two_values (λ t. t.now) c.args.ts.now c.index-ts-0.result c.index-ts-1.result c.if-ts-ne2.false c.index-ts-0.is c.index-ts-1.is) (c.in_ok-ranges.ensures ∙ ap (ranges_of c.args.x.now.slice c.args.dims.now) (c.extents-extents.ensures.value ∙ c.shape.ensures.value))))
    (c.laid_out.ensures c.index-ts-1.result.now.shape
    (c.as_slice-3.ensures.value ∙ c.in_ok-extents.ensures.cut ∙ ap cut_shape (c.extents-extents.ensures.value ∙ c.shape.ensures.value))
    (few_of_rule (gives_insertion c.args.x.now c.args.dims.now) c.args.dims.now (map (λ t. t.now) c.args.ts.now) c.index-ts-1.result.now.shape shape c.requires.few))
