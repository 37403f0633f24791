use Rattle.std.proofs.lemmas.List.Sums.{fold-append}
use Rattle.sh_print.specs.Tokens.{ops_pieces}
use Rattle.sh_print.proofs.items.block.Goals as goal

pub returns : goal.returns
unfolding ops_pieces
returns c =
    simp fold-append
    (rw (
      c.in_ok-close.ensures,
      c.in_ok-operations.ensures,
      c.in_ok-open.ensures,
    ) at
    c.end_line.ensures)
