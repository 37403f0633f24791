use Rattle.std.proofs.Common.{◌∷◌, [], true, false, map, sym, ◌∙◌}
use Rattle.std.proofs.lemmas.Result.{IfOk-weaker}
use Rattle.sh_loops.specs.Formulas.{operand_width}
use Rattle.sh_eval.proofs.LayoutLaws.{two_values}
use Rattle.sh_eval.proofs.ValueLaws.{first_width, long_of, second_width, two_values_are}
use Rattle.sh_eval.proofs.values.of_two_op.Goals as goal

pub returns-then-not-are_alike : goal.returns-then-not-are_alike
returns-then-not-are_alike c =
    two_values_are c.args.formula c.index-ts-0.result.now c.index-ts-1.result.now (map (λ t. t.now) c.args.ts.now) false (two_values (λ t. t.now) c.args.ts.now c.index-ts-0.result c.index-ts-1.result (long_of (λ t. t.now) c.args.ts.now ((operand_width c.args.formula) ∷ (operand_width c.args.formula) ∷ []) c.requires.widths) c.index-ts-0.is c.index-ts-1.is) (sym c.if-not-are_alike.true ∙ c.are_alike.ensures)

pub element_of_two-requires-clause-works : goal.element_of_two-requires-clause-works
element_of_two-requires-clause-works c = record {
  can = c.requires.can;
  operands = (
    first_width (λ t. t.now) c.args.ts.now c.index-ts-0.result (operand_width c.args.formula) ((operand_width c.args.formula) ∷ []) c.requires.widths c.index-ts-0.is,
    (second_width (λ t. t.now) c.args.ts.now c.index-ts-1.result (operand_width c.args.formula) (operand_width c.args.formula) [] c.requires.widths c.index-ts-1.is, tt),
  );
}

pub returns : goal.returns
returns c =
    IfOk-weaker c.element_of_two.result _ _
    (λ out p. p ∙ two_values_are c.args.formula c.index-ts-0.result.now c.index-ts-1.result.now (map (λ t. t.now) c.args.ts.now) true (two_values (λ t. t.now) c.args.ts.now c.index-ts-0.result c.index-ts-1.result (long_of (λ t. t.now) c.args.ts.now ((operand_width c.args.formula) ∷ (operand_width c.args.formula) ∷ []) c.requires.widths) c.index-ts-0.is c.index-ts-1.is) (sym c.if-not-are_alike.false ∙ c.are_alike.ensures))
    c.element_of_two.ensures
