use Rattle.std.proofs.Common.{map, ap, sym, ◌∙◌}
use Rattle.std.specs.Prelude.{option_map}
use Rattle.std.proofs.lemmas.Result.{IfOk-weaker}
use Rattle.sh_eval.specs.Cuts.{cut_shape}
use Rattle.sh_eval.proofs.KindLaws.{undefined_shape, undefined_some}
use Rattle.sh_eval.proofs.LayoutLaws.{no_values, values_long}
use Rattle.sh_eval.proofs.extents.empty_extents.Goals as goal

pub returns-then-ts-ne0 : goal.returns-then-ts-ne0
returns-then-ts-ne0 c = sym (ap (option_map cut_shape) (undefined_some c.args.dims.now (map (λ t. t.now) c.args.ts.now) (λ e. c.if-ts-ne0.true (sym (values_long (λ t. t.now) c.args.ts.now) ∙ e))))

pub returns : goal.returns
returns c =
    IfOk-weaker c.known_extents.result _ _
    (λ out p. p ∙ sym (ap (option_map cut_shape) (undefined_shape c.args.dims.now (map (λ t. t.now) c.args.ts.now) (no_values (λ t. t.now) c.args.ts.now c.if-ts-ne0.false))))
    c.known_extents.ensures
