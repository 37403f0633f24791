use Rattle.std.proofs.Common.{map, ap, sym, ◌∙◌}
use Rattle.std.specs.Prelude.{option_map}
use Rattle.std.proofs.lemmas.Result.{IfOk-weaker}
use Rattle.sh_eval.specs.Cuts.{cut_shape}
use Rattle.sh_eval.proofs.KindLaws.{constant_shape, constant_some}
use Rattle.sh_eval.proofs.LayoutLaws.{no_values, values_long}
use Rattle.sh_sem.specs.Given.{known_shape}
use Rattle.sh_eval.proofs.extents.constant_extents.Goals as goal

pub returns-then-ts-ne0 : goal.returns-then-ts-ne0
returns-then-ts-ne0 c = sym (ap (option_map cut_shape) (constant_some c.args.literal.now (map (λ t. t.now) c.args.ts.now) (λ e. c.if-ts-ne0.true (sym (values_long (λ t. t.now) c.args.ts.now) ∙ e))))

pub returns : goal.returns
returns c =
    IfOk-weaker c.known_extents.result _ _
    (λ out p.
    p ∙ ap (λ d. option_map cut_shape (known_shape d)) c.dims_of.ensures
    ∙ sym (ap (option_map cut_shape) (constant_shape c.args.literal.now (map (λ t. t.now) c.args.ts.now) (no_values (λ t. t.now) c.args.ts.now c.if-ts-ne0.false))))
    c.known_extents.ensures
