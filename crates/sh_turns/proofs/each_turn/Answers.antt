use Rattle.sh_turns.proofs.Kept as lemmas
use Rattle.sh_turns.proofs.each_turn.Goals as goal

pub returns : goal.returns
returns g c =
    record { before = λ p. lemmas.start_agrees p; kept = λ p w k well is can on. lemmas.after_agrees p w k well is can on }
