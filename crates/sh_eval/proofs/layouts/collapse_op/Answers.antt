use Rattle.std.proofs.Common.{map, ap, ap₂, sym, ◌∙◌}
use Rattle.std.specs.Prelude.{option_map}
use Rattle.std.proofs.lemmas.Result.{IfOk-weaker}
use Rattle.sh_eval.specs.Cuts.{cut_shape}
use Rattle.sh_eval.specs.Rules.{rule_cell}
use Rattle.sh_eval.proofs.LayoutLaws.{few_of_rule, no_value, one_value, value_of_rule, values_long}
use Rattle.sh_eval.specs.declared.rules.CellRule.TheVariants.{Reshaped}
use Rattle.sh_eval.proofs.KindLaws.{collapse_alone, collapse_cell, collapse_shape, is_there, not_there}
use Rattle.sh_sem.specs.Given.{gives_collapse}
use Rattle.sh_sem.specs.Reshapes.{collapsed_shape}
use Rattle.sh_eval.proofs.layouts.collapse_op.Goals as goal

pub returns-then-ts-ne1 : goal.returns-then-ts-ne1
returns-then-ts-ne1 c = no_value (gives_collapse c.args.x.now) c.args.dims.now c.args.width (map (λ t. t.now) c.args.ts.now) (collapse_alone c.args.x.now (map (λ t. t.now) c.args.ts.now) (λ e. c.if-ts-ne1.true (sym (values_long (λ t. t.now) c.args.ts.now) ∙ e)))

pub returns-in-None : goal.returns-in-None
returns-in-None c =
    no_value (gives_collapse c.args.x.now) c.args.dims.now c.args.width (map (λ t. t.now) c.args.ts.now)
    (collapse_shape c.args.x.now c.index-ts-0.result.now (map (λ t. t.now) c.args.ts.now) (one_value (λ t. t.now) c.args.ts.now c.index-ts-0.result c.if-ts-ne1.false c.index-ts-0.is)
    ∙ not_there (collapsed_shape c.args.x.now.reassociation c.index-ts-0.result.now.shape) cut_shape (ap (option_map (λ all. all.items)) (sym c.in-None.is) ∙ c.in_ok-extents.ensures ∙ ap₂ (λ g s. option_map cut_shape (collapsed_shape g s)) c.as_slice.ensures (c.extents.ensures.value ∙ c.shape.ensures.value)))

pub returns-in-Some : goal.returns-in-Some
returns-in-Some c =
    let there = is_there (collapsed_shape c.args.x.now.reassociation c.index-ts-0.result.now.shape) cut_shape c.in-Some.extents.items
    (ap (option_map (λ all. all.items)) (sym c.in-Some.is) ∙ c.in_ok-extents.ensures ∙ ap₂ (λ g s. option_map cut_shape (collapsed_shape g s)) c.as_slice.ensures (c.extents.ensures.value ∙ c.shape.ensures.value)) in
    let shape = collapse_shape c.args.x.now c.index-ts-0.result.now (map (λ t. t.now) c.args.ts.now) (one_value (λ t. t.now) c.args.ts.now c.index-ts-0.result c.if-ts-ne1.false c.index-ts-0.is) ∙ there.there in
    IfOk-weaker c.laid_out.result _ _
    (λ out p.
    p
    ∙ value_of_rule (gives_collapse c.args.x.now) c.args.dims.now c.args.width (map (λ t. t.now) c.args.ts.now) there.value (rule_cell Reshaped c.index-ts-0.result.now (map (λ t. t.now) c.args.ts.now)) shape
    (collapse_cell c.args.x.now c.index-ts-0.result.now (map (λ t. t.now) c.args.ts.now) (one_value (λ t. t.now) c.args.ts.now c.index-ts-0.result c.if-ts-ne1.false c.index-ts-0.is)))
    (c.laid_out.ensures there.value (c.as_slice-in-Some.ensures.value ∙ there.cut) (few_of_rule (gives_collapse c.args.x.now) c.args.dims.now (map (λ t. t.now) c.args.ts.now) there.value shape c.requires.few))
