use Rattle.std.proofs.Common.{◌∷◌, [], sym, ◌∙◌, arith, length}
use Rattle.std.proofs.lemmas.List.Elements.{All-push}
use Rattle.sh_base.specs.Cells.{IsCellOf}
use Rattle.sh_loops.specs.Formulas.{formula_at, formula_of, result_width}
use Rattle.sh_loops.proofs.CellLaws.{none_so_far, one_pushed, stuck_by}
use Rattle.sh_loops.proofs.FormulaLaws.{of_two_at}
use Rattle.sh_eval.proofs.elements.on_pairs.Goals as goal

pub loop-at-init : goal.loop-at-init
loop-at-init c = record { value = none_so_far (formula_at (formula_of c.args.formula) (c.args.first.now ∷ c.args.second.now ∷ [])) c.in_ok-cells.cells.items c.in_ok-cells.ensures.items; within = rw c.in_ok-cells.ensures.items (λ k d l. absurd (omega (arith, l))) }

pub returns-in-None-clause-value : goal.returns-in-None-clause-value
returns-in-None-clause-value c =
    sym (stuck_by (formula_at (formula_of c.args.formula) (c.args.first.now ∷ c.args.second.now ∷ [])) (length c.args.first.now) c.loop-at.at c.loop-at-test.true (sym (c.in-None.ensures.value ∙ of_two_at (formula_of c.args.formula) c.args.first.now c.args.second.now c.loop-at.at _ _ c.loop-at-test.true c.requires.long)))

pub loop-at-preserved : goal.loop-at-preserved
loop-at-preserved c = record {
  value = one_pushed (formula_at (formula_of c.args.formula) (c.args.first.now ∷ c.args.second.now ∷ [])) c.loop-at.at c.loop-at.cells.items c.push.new.self.items c.in-Some.cell c.loop-at.invariant.value (c.in-Some.ensures.value ∙ of_two_at (formula_of c.args.formula) c.args.first.now c.args.second.now c.loop-at.at _ _ c.loop-at-test.true c.requires.long) c.in_ok-push-in-Some.ensures.items;
  within = rw c.in_ok-push-in-Some.ensures.items (All-push (IsCellOf (result_width c.args.formula)) c.loop-at.cells.items c.in-Some.cell c.loop-at.invariant.within c.in-Some.ensures.within);
}
