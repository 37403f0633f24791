use Rattle.std.proofs.Common.{◌∷◌, [], map, ◌∙◌}
use Rattle.std.proofs.lemmas.Result.{IfOk-weaker}
use Rattle.sh_loops.specs.Formulas.{operand_width}
use Rattle.sh_eval.proofs.LayoutLaws.{one_value}
use Rattle.sh_eval.proofs.ValueLaws.{long_of, one_value_is}
use Rattle.sh_eval.proofs.values.of_one_op.Goals as goal

pub returns : goal.returns
returns c =
    IfOk-weaker c.element_of_one.result _ _ (λ out p. p ∙ one_value_is c.args.formula c.index-ts-0.result.now (map (λ t. t.now) c.args.ts.now) (one_value (λ t. t.now) c.args.ts.now c.index-ts-0.result (long_of (λ t. t.now) c.args.ts.now ((operand_width c.args.formula) ∷ []) c.requires.widths) c.index-ts-0.is)) c.element_of_one.ensures
