use Rattle.std.proofs.Common.{ap}
use Rattle.sh_turns.specs.Lockstep.{is_done}
use Rattle.sh_turns.proofs.InStep as lemmas
use Rattle.sh_turns.proofs.in_step.Goals as goal

pub returns : goal.returns
returns g c =
    record {
      done = λ p. (λ done. lemmas.all_there_where_done p done, λ all. ap is_done (lemmas.done_where_all_there p all));
      results = λ p rows done c values cin is. lemmas.results_are p rows done c values cin is;
      stuck = λ p. lemmas.stuck_is_first p;
      mismatch = λ p. lemmas.mismatch_is_first p;
    }
