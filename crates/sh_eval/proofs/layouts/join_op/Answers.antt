use Rattle.std.proofs.Common.{map, ap, sym, ◌∙◌}
use Rattle.std.specs.Prelude.{option_map}
use Rattle.std.proofs.lemmas.Result.{IfOk-weaker}
use Rattle.sh_eval.specs.Cuts.{cut_shape}
use Rattle.sh_eval.specs.Rules.{rule_cell}
use Rattle.sh_eval.proofs.LayoutLaws.{few_of_rule, no_value, value_of_rule}
use Rattle.sh_eval.specs.Values.{shapes_of}
use Rattle.sh_eval.specs.declared.rules.CellRule.TheVariants.{Joined}
use Rattle.sh_eval.proofs.KindLaws.{is_there, join_cell, join_shape, not_there}
use Rattle.sh_sem.specs.Given.{gives_join}
use Rattle.sh_sem.specs.Pieces.{joined_shape}
use Rattle.sh_eval.proofs.layouts.join_op.Goals as goal

pub returns-in-None : goal.returns-in-None
returns-in-None c =
    no_value (gives_join c.args.axis) c.args.dims.now c.args.width (map (λ t. t.now) c.args.ts.now)
    (join_shape c.args.axis (map (λ t. t.now) c.args.ts.now) ∙ not_there (joined_shape c.args.axis (shapes_of (map (λ t. t.now) c.args.ts.now))) cut_shape (ap (option_map (λ all. all.items)) (sym c.in-None.is) ∙ c.in_ok-extents.ensures.value))

pub returns-in-Some : goal.returns-in-Some
returns-in-Some c =
    let there = is_there (joined_shape c.args.axis (shapes_of (map (λ t. t.now) c.args.ts.now))) cut_shape c.in-Some.extents.items (ap (option_map (λ all. all.items)) (sym c.in-Some.is) ∙ c.in_ok-extents.ensures.value) in
    let shape = join_shape c.args.axis (map (λ t. t.now) c.args.ts.now) ∙ there.there in
    IfOk-weaker c.laid_out.result _ _
    (λ out p.
    p
    ∙ value_of_rule (gives_join c.args.axis) c.args.dims.now c.args.width (map (λ t. t.now) c.args.ts.now) there.value (rule_cell (Joined c.args.axis) c.index-ts-0.result.now (map (λ t. t.now) c.args.ts.now)) shape
    (join_cell c.args.axis c.index-ts-0.result.now (map (λ t. t.now) c.args.ts.now)))
    (c.laid_out.ensures there.value (c.as_slice.ensures.value ∙ there.cut) (few_of_rule (gives_join c.args.axis) c.args.dims.now (map (λ t. t.now) c.args.ts.now) there.value shape c.requires.few))
