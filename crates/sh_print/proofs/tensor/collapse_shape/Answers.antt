use Rattle.std.proofs.lemmas.List.Sums.{fold-append}
use Rattle.sh_print.specs.Tokens.{collapse_pieces}
use Rattle.sh_print.proofs.tensor.collapse_shape.Goals as goal

pub returns : goal.returns
unfolding collapse_pieces
returns c =
    simp fold-append
    (rw (
      c.in_ok-in_brackets.ensures,
      c.in_ok-value.ensures,
      c.in_ok-word.ensures,
      c.as_slice.ensures,
    ) at
    c.into.ensures)
