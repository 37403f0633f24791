use Rattle.std.proofs.lemmas.List.Sums.{fold-append}
use Rattle.sh_print.specs.Tokens.{map_pieces}
use Rattle.sh_print.proofs.linalg.AffineMapSpelled.print.Goals as goal

pub returns : goal.returns
unfolding map_pieces
returns c =
    simp fold-append
    (rw (
      c.in_ok-loops-2.ensures,
      c.in_ok-arrow.ensures,
      c.in_ok-loops.ensures,
      c.in_ok-sign.ensures,
      c.in_ok-word.ensures,
      c.as_slice.ensures,
      c.as_slice-2.ensures,
    ) at
    c.sign-2.ensures)
