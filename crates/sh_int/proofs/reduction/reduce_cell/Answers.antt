use Rattle.std.proofs.Common.{arith}
use Rattle.sh_int.proofs.ElementLaws.{number_by-below}
use Rattle.sh_int.proofs.reduction.reduce_cell.Goals as goal

pub returns-in-Val-Val-clause-within : goal.returns-in-Val-Val-clause-within
returns-in-Val-Val-clause-within c = grind (arith, number_by-below)
