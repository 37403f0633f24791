use Rattle.std.proofs.Common.{refl, sym, subst}
use Rattle.std.specs.List.{All}
use Rattle.sh_base.specs.Cells.{IsCellOf}
use Rattle.sh_sem.proofs.TensorCells.{cells_fit}
use Rattle.sh_sem.proofs.reading.cells_of.Goals as goal

pub returns-clause-fitting : goal.returns-clause-fitting
returns-clause-fitting c =
    subst (All (IsCellOf c.args.t.now.width)) (sym c.cells.ensures.value) (cells_fit c.args.t.now c.args.t.now.width c.shape-whole.ensures.whole refl)
