use Rattle.sh_pieces.proofs.more_names.Goals as goal
use Rattle.sh_pieces.proofs.Lists.{within_after, runs_within}

pub returns : goal.returns
returns g c = record {
  values = λ sem is s t groups within. within_after sem groups is s t within;
  runs = λ sem is s t groups within run. runs_within sem groups is s t within run;
}
