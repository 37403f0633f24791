use Rattle.std.proofs.Common.{◌∷◌, [], true, false, map, sym, ◌∙◌}
use Rattle.std.proofs.lemmas.Result.{IfOk-weaker}
use Rattle.sh_loops.specs.Formulas.{operand_width}
use Rattle.std.proofs.Common.{refl}
use Rattle.sh_eval.proofs.ValueLaws.{long_of, second_width, third_width, three_values, three_values_are}
use Rattle.sh_eval.proofs.values.of_three_op.Goals as goal

pub returns-then-not-are_alike : goal.returns-then-not-are_alike
returns-then-not-are_alike c = three_values_are c.args.formula c.index-ts-0.result.now c.index-ts-1.result.now c.index-ts-2.result.now (map (λ t. t.now) c.args.ts.now) false _ (three_values (λ t. t.now) c.args.ts.now c.index-ts-0.result c.index-ts-1.result c.index-ts-2.result (long_of (λ t. t.now) c.args.ts.now (c.args.condition ∷ (operand_width c.args.formula) ∷ (operand_width c.args.formula) ∷ []) c.requires.widths) c.index-ts-0.is c.index-ts-1.is c.index-ts-2.is) (sym c.if-not-are_alike.true ∙ c.are_alike.ensures) refl

pub returns-then-not-are_alike-2 : goal.returns-then-not-are_alike-2
returns-then-not-are_alike-2 c =
    three_values_are c.args.formula c.index-ts-0.result.now c.index-ts-1.result.now c.index-ts-2.result.now (map (λ t. t.now) c.args.ts.now) true false (three_values (λ t. t.now) c.args.ts.now c.index-ts-0.result c.index-ts-1.result c.index-ts-2.result (long_of (λ t. t.now) c.args.ts.now (c.args.condition ∷ (operand_width c.args.formula) ∷ (operand_width c.args.formula) ∷ []) c.requires.widths) c.index-ts-0.is c.index-ts-1.is c.index-ts-2.is) (sym c.if-not-are_alike.false ∙ c.are_alike.ensures) (sym c.if-not-are_alike-2.true ∙ c.are_alike-2.ensures)

pub element_of_three-requires-clause-works : goal.element_of_three-requires-clause-works
element_of_three-requires-clause-works c = record {
  can = c.requires.can;
  operands = (
    second_width (λ t. t.now) c.args.ts.now c.index-ts-1.result c.args.condition (operand_width c.args.formula) ((operand_width c.args.formula) ∷ []) c.requires.widths c.index-ts-1.is,
    (third_width (λ t. t.now) c.args.ts.now c.index-ts-2.result c.args.condition (operand_width c.args.formula) (operand_width c.args.formula) [] c.requires.widths c.index-ts-2.is, tt),
  );
}

pub returns : goal.returns
returns c =
    IfOk-weaker c.element_of_three.result _ _
    (λ out p. p ∙ three_values_are c.args.formula c.index-ts-0.result.now c.index-ts-1.result.now c.index-ts-2.result.now (map (λ t. t.now) c.args.ts.now) true true (three_values (λ t. t.now) c.args.ts.now c.index-ts-0.result c.index-ts-1.result c.index-ts-2.result (long_of (λ t. t.now) c.args.ts.now (c.args.condition ∷ (operand_width c.args.formula) ∷ (operand_width c.args.formula) ∷ []) c.requires.widths) c.index-ts-0.is c.index-ts-1.is c.index-ts-2.is) (sym c.if-not-are_alike.false ∙ c.are_alike.ensures) (sym c.if-not-are_alike-2.false ∙ c.are_alike-2.ensures))
    c.element_of_three.ensures
