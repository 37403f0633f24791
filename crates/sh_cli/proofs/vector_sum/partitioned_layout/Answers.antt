use Rattle.sh_cli.specs.VectorSum.{partitioned_layout}
use Rattle.sh_cli.proofs.vector_sum.partitioned_layout.Goals as goal

pub returns : goal.returns
unfolding partitioned_layout
returns c = c.in_ok-concat.ensures.ok
