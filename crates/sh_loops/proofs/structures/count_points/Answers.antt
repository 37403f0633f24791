use Rattle.std.proofs.Common.{arith}
use Rattle.sh_base.proofs.ShapeLaws.{min-mul-min, cell_count-take_more}
use Rattle.sh_loops.proofs.structures.count_points.Goals as goal

pub loop-extent-preserved : goal.loop-extent-preserved
loop-extent-preserved c = grind (arith, min-mul-min, cell_count-take_more)
