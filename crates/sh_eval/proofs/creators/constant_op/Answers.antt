use Rattle.std.proofs.Common.{map, ap, sym, ◌∙◌}
use Rattle.std.specs.Prelude.{option_map}
use Rattle.std.proofs.lemmas.Result.{IfOk-weaker}
use Rattle.sh_ir.specs.Agreement.{dims_of}
use Rattle.sh_eval.specs.Cuts.{cut_shape}
use Rattle.sh_eval.proofs.KindLaws.{constant_cells, constant_shape, constant_some, is_there, not_there}
use Rattle.sh_eval.proofs.LayoutLaws.{creator_none, creator_value, few_of_rule, no_value, no_values, values_long}
use Rattle.sh_sem.specs.Given.{gives_constant, known_shape}
use Rattle.sh_eval.proofs.creators.constant_op.Goals as goal

pub returns-then-ts-ne0 : goal.returns-then-ts-ne0
returns-then-ts-ne0 c = no_value (gives_constant c.args.literal.now) c.args.dims.now c.args.width (map (λ t. t.now) c.args.ts.now) (constant_some c.args.literal.now (map (λ t. t.now) c.args.ts.now) (λ e. c.if-ts-ne0.true (sym (values_long (λ t. t.now) c.args.ts.now) ∙ e)))

pub returns-in-Some-fitting : goal.returns-in-Some-fitting
returns-in-Some-fitting c =
    let there = is_there (known_shape (dims_of c.args.literal.now.value_type)) cut_shape c.in-Some.extents.items (ap (option_map (λ all. all.items)) (sym c.in-Some.is) ∙ c.in_ok-extents.ensures ∙ ap (λ d. option_map cut_shape (known_shape d)) c.dims_of.ensures) in
    let shape = constant_shape c.args.literal.now (map (λ t. t.now) c.args.ts.now) (no_values (λ t. t.now) c.args.ts.now c.if-ts-ne0.false) ∙ there.there in
    IfOk-weaker c.constant.result _ _
    (λ out p.
    p ∙ constant_cells c.args.literal.now c.args.width (map (λ t. t.now) c.args.ts.now) c.in-Some-fitting.shape
    ∙ creator_value (gives_constant c.args.literal.now) c.args.dims.now c.args.width (map (λ t. t.now) c.args.ts.now) there.value c.in-Some-fitting.shape shape
    (c.in-Some-fitting.ensures.value there.value (c.as_slice.ensures.value ∙ there.cut) (few_of_rule (gives_constant c.args.literal.now) c.args.dims.now (map (λ t. t.now) c.args.ts.now) there.value shape c.requires.few)))
    c.constant.ensures

pub returns-in-Some : goal.returns-in-Some
returns-in-Some c =
    let there = is_there (known_shape (dims_of c.args.literal.now.value_type)) cut_shape c.in-Some.extents.items (ap (option_map (λ all. all.items)) (sym c.in-Some.is) ∙ c.in_ok-extents.ensures ∙ ap (λ d. option_map cut_shape (known_shape d)) c.dims_of.ensures) in
    let shape = constant_shape c.args.literal.now (map (λ t. t.now) c.args.ts.now) (no_values (λ t. t.now) c.args.ts.now c.if-ts-ne0.false) ∙ there.there in
    creator_none (gives_constant c.args.literal.now) c.args.dims.now c.args.width (map (λ t. t.now) c.args.ts.now) there.value shape
    (c.in-None-fitting.ensures.value there.value (c.as_slice.ensures.value ∙ there.cut) (few_of_rule (gives_constant c.args.literal.now) c.args.dims.now (map (λ t. t.now) c.args.ts.now) there.value shape c.requires.few))

pub returns : goal.returns
returns c =
    no_value (gives_constant c.args.literal.now) c.args.dims.now c.args.width (map (λ t. t.now) c.args.ts.now)
    (constant_shape c.args.literal.now (map (λ t. t.now) c.args.ts.now) (no_values (λ t. t.now) c.args.ts.now c.if-ts-ne0.false) ∙ not_there (known_shape (dims_of c.args.literal.now.value_type)) cut_shape (ap (option_map (λ all. all.items)) (sym c.in-None.is) ∙ c.in_ok-extents.ensures ∙ ap (λ d. option_map cut_shape (known_shape d)) c.dims_of.ensures))
