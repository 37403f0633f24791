use Rattle.std.proofs.Common.{◌≡◌, ℕ, zero, suc, ◌<◌, List, [], ◌∷◌, length, get_or, drop, Some, ap, sym, ◌∙◌, arith, subst}
use Rattle.sh_base.specs.declared.numbers.Cell.{Cell}
use Rattle.sh_loops.specs.declared.regions.PlacedStep.{PlacedStep}
use Rattle.sh_loops.specs.Regions.{CanRun, TakesWork}
use Rattle.sh_sem.specs.Region.{source_cells}
use Rattle.sh_loops.proofs.regions.run.Goals as goal

takes_at : (steps : List PlacedStep) (i : ℕ) (s : PlacedStep) (point : List ℕ) (cells : List Cell) → i < length steps → s ≡ get_or steps i s → CanRun (drop i steps) point cells
    → (found : List Cell) → source_cells cells s.sources ≡ Some found → TakesWork s.work found
takes_at [] i s point cells l at can = absurd (omega (arith, l))
takes_at (t ∷ steps) zero s point cells l at can =
    subst (λ (u : PlacedStep). (found : List Cell) → source_cells cells u.sources ≡ Some found → TakesWork u.work found) (sym at) can.0
takes_at (t ∷ steps) (suc i) s point cells l at can = takes_at steps i s point cells (omega (arith, l)) at can

pub step_cell-requires : goal.step_cell-requires
step_cell-requires c =
    λ found e.
    takes_at c.args.steps.now c.loop-at.at c.index-steps-at.result c.args.point.now c.loop-at.cells.items c.loop-at-test.true c.index-steps-at.is c.loop-at.invariant.1 found
    (ap (λ cs. source_cells cs c.index-steps-at.result.sources) (sym c.as_slice.ensures.value) ∙ e)
