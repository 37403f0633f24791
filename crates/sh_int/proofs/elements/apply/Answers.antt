use Rattle.std.proofs.Common.{arith}
use Rattle.sh_int.proofs.ElementLaws.{number_by-below}
use Rattle.sh_int.proofs.elements.apply.Goals as goal

pub returns-clause-within : goal.returns-clause-within
returns-clause-within c = grind (arith, number_by-below)
