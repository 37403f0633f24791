use Rattle.std.proofs.Common.{map, ap, sym, ◌∙◌}
use Rattle.std.specs.Prelude.{option_map}
use Rattle.std.proofs.lemmas.Result.{IfOk-weaker}
use Rattle.sh_eval.specs.Cuts.{cut_shape}
use Rattle.sh_eval.proofs.KindLaws.{undefined_cells, undefined_shape, undefined_some, is_there, not_there}
use Rattle.sh_eval.proofs.LayoutLaws.{creator_none, creator_value, few_of_rule, no_value, no_values, values_long}
use Rattle.sh_sem.specs.Given.{gives_undefined, known_shape}
use Rattle.sh_eval.proofs.creators.empty_op.Goals as goal

pub returns-then-ts-ne0 : goal.returns-then-ts-ne0
returns-then-ts-ne0 c = no_value (gives_undefined c.args.dims.now) c.args.dims.now c.args.width (map (λ t. t.now) c.args.ts.now) (undefined_some c.args.dims.now (map (λ t. t.now) c.args.ts.now) (λ e. c.if-ts-ne0.true (sym (values_long (λ t. t.now) c.args.ts.now) ∙ e)))

pub returns-in-Some-fitting : goal.returns-in-Some-fitting
returns-in-Some-fitting c =
    let there = is_there (known_shape c.args.dims.now) cut_shape c.in-Some.extents.items (ap (option_map (λ all. all.items)) (sym c.in-Some.is) ∙ c.in_ok-extents.ensures) in
    let shape = undefined_shape c.args.dims.now (map (λ t. t.now) c.args.ts.now) (no_values (λ t. t.now) c.args.ts.now c.if-ts-ne0.false) ∙ there.there in
    IfOk-weaker c.undefined.result _ _
    (λ out p.
    p ∙ undefined_cells c.args.dims.now c.args.width (map (λ t. t.now) c.args.ts.now) c.in-Some-fitting.shape
    ∙ creator_value (gives_undefined c.args.dims.now) c.args.dims.now c.args.width (map (λ t. t.now) c.args.ts.now) there.value c.in-Some-fitting.shape shape
    (c.in-Some-fitting.ensures.value there.value (c.as_slice.ensures.value ∙ there.cut) (few_of_rule (gives_undefined c.args.dims.now) c.args.dims.now (map (λ t. t.now) c.args.ts.now) there.value shape c.requires.few)))
    c.undefined.ensures

pub returns-in-Some : goal.returns-in-Some
returns-in-Some c =
    let there = is_there (known_shape c.args.dims.now) cut_shape c.in-Some.extents.items (ap (option_map (λ all. all.items)) (sym c.in-Some.is) ∙ c.in_ok-extents.ensures) in
    let shape = undefined_shape c.args.dims.now (map (λ t. t.now) c.args.ts.now) (no_values (λ t. t.now) c.args.ts.now c.if-ts-ne0.false) ∙ there.there in
    creator_none (gives_undefined c.args.dims.now) c.args.dims.now c.args.width (map (λ t. t.now) c.args.ts.now) there.value shape
    (c.in-None-fitting.ensures.value there.value (c.as_slice.ensures.value ∙ there.cut) (few_of_rule (gives_undefined c.args.dims.now) c.args.dims.now (map (λ t. t.now) c.args.ts.now) there.value shape c.requires.few))

pub returns : goal.returns
returns c =
    no_value (gives_undefined c.args.dims.now) c.args.dims.now c.args.width (map (λ t. t.now) c.args.ts.now)
    (undefined_shape c.args.dims.now (map (λ t. t.now) c.args.ts.now) (no_values (λ t. t.now) c.args.ts.now c.if-ts-ne0.false) ∙ not_there (known_shape c.args.dims.now) cut_shape (ap (option_map (λ all. all.items)) (sym c.in-None.is) ∙ c.in_ok-extents.ensures))
