use Rattle.std.proofs.Common.{◌≤◌}
use Rattle.sh_base.specs.Shape.{cell_count, max_cells}
use Rattle.sh_sharding.proofs.PositionLaws.{cells_few}
use Rattle.std.proofs.Common.{rules}
use Rattle.sh_sharding.proofs.together.total_cells.Goals as goal

pub unwrap-requires : goal.unwrap-requires
unwrap-requires c =
    let few : cell_count c.whole.result.now ≤ max_cells = rw c.whole.ensures.value (cells_few c.args.s.now c.whole.ensures.admitted) in
    search rules
