use Rattle.sh_int.proofs.ReductionLaws.{combine_laws}
use Rattle.sh_nest_laws.proofs.FoldLaws as folds
use Rattle.sh_nest_laws.proofs.Totals.{lifted_laws}
use Rattle.sh_nest_laws.proofs.laws.fold_laws.Goals as goal

pub returns-clause-cells : goal.returns-clause-cells
returns-clause-cells a = folds.fold_laws (combine_laws _ _)

pub returns-clause-outcomes : goal.returns-clause-outcomes
returns-clause-outcomes a = folds.fold_laws (lifted_laws (combine_laws _ _))
