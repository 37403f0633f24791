use Rattle.sh_pieces.proofs.names_not_read.Goals as goal
use Rattle.sh_pieces.proofs.Lists.{same_where_read, runs_where_read}

pub returns : goal.returns
returns g c = record {
  values = λ sem is s t test groups reads same. same_where_read sem groups is s t test reads same;
  runs = λ sem is s t test groups reads same run. runs_where_read sem groups is s t test reads same run;
}
