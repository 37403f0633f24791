use Rattle.std.proofs.lemmas.List.Sums.{fold-append}
use Rattle.sh_print.specs.Tokens.{reduce_pieces}
use Rattle.sh_print.proofs.linalg.reduce.Goals as goal

pub returns : goal.returns
unfolding reduce_pieces
returns c =
    simp fold-append
    (rw (
      c.in_ok-open.ensures,
      c.in_ok-block_arguments.ensures,
      c.in_ok-along.ensures,
      c.as_slice.ensures,
    ) at
    c.region.ensures)
