use Rattle.std.proofs.Common.{arith}
use Rattle.std.proofs.lemmas.Grind.{common_steps}
use Rattle.sh_cli.specs.VectorSum.{partitioned_text}
use Rattle.sh_cli.proofs.vector_sum.VectorSum.partitioned_text.Goals as goal

pub returns : goal.returns
unfolding partitioned_text
returns c = grind (arith, common_steps)
