use Rattle.std.proofs.Common.{arith}
use Rattle.std.proofs.lemmas.Grind.{common_steps}
use Rattle.sh_base.proofs.IndexLaws.{cell_count-some}
use Rattle.sh_grid.proofs.grids.devices.Goals as goal

pub returns-clause-some : goal.returns-clause-some
returns-clause-some c =
    let some = cell_count-some c.g.inside.extents c.g.invariant.positive in
    grind (arith, common_steps)
