use Rattle.std.proofs.lemmas.List.Sums.{fold-append}
use Rattle.sh_print.specs.Tokens.{cut_pieces}
use Rattle.sh_print.proofs.items.CutSpelled.print.Goals as goal

pub returns : goal.returns
unfolding cut_pieces
returns c =
    simp fold-append
    (rw (c.in_ok-print.ensures) at
    c.sharding.ensures)
