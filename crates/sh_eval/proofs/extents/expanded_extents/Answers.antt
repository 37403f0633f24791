use Rattle.std.proofs.Common.{map, ap, ap₂, sym, ◌∙◌}
use Rattle.std.specs.Prelude.{option_map}
use Rattle.std.proofs.lemmas.Result.{IfOk-weaker}
use Rattle.sh_eval.specs.Cuts.{cut_shape}
use Rattle.sh_eval.proofs.KindLaws.{expand_alone, expand_shape}
use Rattle.sh_eval.proofs.LayoutLaws.{one_value, values_long}
use Rattle.sh_sem.specs.Reshapes.{expanded_shape}
use Rattle.sh_eval.proofs.extents.expanded_extents.Goals as goal

pub returns-then-ts-ne1 : goal.returns-then-ts-ne1
returns-then-ts-ne1 c = sym (ap (option_map cut_shape) (expand_alone c.args.x.now c.args.dims.now (map (λ t. t.now) c.args.ts.now) (λ e. c.if-ts-ne1.true (sym (values_long (λ t. t.now) c.args.ts.now) ∙ e))))

pub returns : goal.returns
returns c =
    IfOk-weaker c.expanded_shape.result _ _
    (λ out p.
    p ∙ ap₂ (λ g s. option_map cut_shape (expanded_shape c.args.dims.now g s)) c.as_slice-reassociation.ensures (c.extents.ensures.value ∙ c.shape.ensures.value)
    ∙ sym (ap (option_map cut_shape) (expand_shape c.args.x.now c.args.dims.now c.index-ts-0.result.now (map (λ t. t.now) c.args.ts.now) (one_value (λ t. t.now) c.args.ts.now c.index-ts-0.result c.if-ts-ne1.false c.index-ts-0.is))))
    c.expanded_shape.ensures
