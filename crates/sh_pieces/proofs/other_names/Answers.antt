use Rattle.sh_pieces.proofs.other_names.Goals as goal
use Rattle.sh_pieces.proofs.Renamed.{state_renamed, runs_renamed, runs_renamed_back, same_program}

pub returns : goal.returns
returns g c = record {
  values = λ sem r is js s are apart. state_renamed sem r is js are apart s;
  runs = λ sem r is js s are apart. (runs_renamed sem r is js are apart s, runs_renamed_back sem r is js are apart s);
  program = λ sem r f h arguments is. same_program sem r f h is arguments;
}
