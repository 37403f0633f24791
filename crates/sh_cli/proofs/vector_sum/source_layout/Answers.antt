use Rattle.sh_cli.specs.VectorSum.{source_layout}
use Rattle.sh_cli.proofs.vector_sum.source_layout.Goals as goal

pub returns : goal.returns
unfolding source_layout
returns c = c.in_ok-concat.ensures.ok
