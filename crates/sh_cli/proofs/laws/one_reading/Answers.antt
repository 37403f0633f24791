use Rattle.sh_cli.proofs.Begins.{one_sum}
use Rattle.sh_cli.proofs.laws.one_reading.Goals as goal

pub returns : goal.returns
returns c = one_sum
