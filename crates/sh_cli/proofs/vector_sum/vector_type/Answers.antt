use Rattle.sh_cli.specs.VectorSum.{vector_type}
use Rattle.sh_cli.proofs.vector_sum.vector_type.Goals as goal

pub returns : goal.returns
unfolding vector_type
returns c = c.in_ok-format.ensures.ok
