use Rattle.std.proofs.Common.{Some, map, ap, ap₂, sym, ◌∙◌}
use Rattle.std.proofs.lemmas.Result.{IfOk-weaker}
use Rattle.sh_eval.specs.Cuts.{cut_shape}
use Rattle.sh_eval.specs.Rules.{rule_cell}
use Rattle.sh_eval.proofs.LayoutLaws.{few_of_rule, no_value, one_value, value_of_rule, values_long}
use Rattle.sh_eval.specs.declared.rules.CellRule.TheVariants.{Padded}
use Rattle.sh_eval.proofs.KindLaws.{pad_alone, pad_cell, pad_shape}
use Rattle.sh_ir.specs.Numbers.{as_naturals}
use Rattle.sh_sem.specs.Given.{gives_padding}
use Rattle.sh_sem.specs.Pieces.{padded_shape}
use Rattle.sh_eval.proofs.layouts.pad_op.Goals as goal

pub returns-then-ts-ne1 : goal.returns-then-ts-ne1
returns-then-ts-ne1 c = no_value (gives_padding c.args.x.now) c.args.dims.now c.args.width (map (λ t. t.now) c.args.ts.now) (pad_alone c.args.x.now (map (λ t. t.now) c.args.ts.now) (λ e. c.if-ts-ne1.true (sym (values_long (λ t. t.now) c.args.ts.now) ∙ e)))

pub returns : goal.returns
returns c =
    let shape = pad_shape c.args.x.now c.index-ts-0.result.now (map (λ t. t.now) c.args.ts.now) (one_value (λ t. t.now) c.args.ts.now c.index-ts-0.result c.if-ts-ne1.false c.index-ts-0.is) in
    IfOk-weaker c.laid_out.result _ _
    (λ out p.
    p
    ∙ value_of_rule (gives_padding c.args.x.now) c.args.dims.now c.args.width (map (λ t. t.now) c.args.ts.now) (padded_shape (as_naturals c.args.x.now.low) (as_naturals c.args.x.now.high) c.index-ts-0.result.now.shape) (rule_cell (Padded c.in_ok-duplicate.field-0) c.index-ts-0.result.now (map (λ t. t.now) c.args.ts.now)) shape
    (λ z i.
    pad_cell c.args.x.now c.index-ts-0.result.now (map (λ t. t.now) c.args.ts.now) (one_value (λ t. t.now) c.args.ts.now c.index-ts-0.result c.if-ts-ne1.false c.index-ts-0.is) z i
    ∙ ap (λ l. Some (rule_cell (Padded l) c.index-ts-0.result.now (map (λ t. t.now) c.args.ts.now) z i)) (sym c.in_ok-duplicate.ensures)))
    (c.laid_out.ensures (padded_shape (as_naturals c.args.x.now.low) (as_naturals c.args.x.now.high) c.index-ts-0.result.now.shape)
    (c.as_slice-2.ensures.value ∙ c.in_ok-extents.ensures
    ∙ ap (λ l. cut_shape (padded_shape (as_naturals l) (as_naturals c.as_slice.result.now) c.extents.result.now)) c.as_slice-low.ensures
    ∙ ap₂ (λ h s. cut_shape (padded_shape (as_naturals c.args.x.now.low) (as_naturals h) s)) c.as_slice.ensures (c.extents.ensures.value ∙ c.shape.ensures.value))
    (few_of_rule (gives_padding c.args.x.now) c.args.dims.now (map (λ t. t.now) c.args.ts.now) (padded_shape (as_naturals c.args.x.now.low) (as_naturals c.args.x.now.high) c.index-ts-0.result.now.shape) shape c.requires.few))
