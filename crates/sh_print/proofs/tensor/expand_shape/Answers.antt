use Rattle.std.proofs.lemmas.List.Sums.{fold-append}
use Rattle.sh_print.specs.Tokens.{expand_pieces}
use Rattle.sh_print.proofs.tensor.expand_shape.Goals as goal

pub returns : goal.returns
unfolding expand_pieces
returns c =
    simp fold-append
    (rw (
      c.in_ok-print.ensures,
      c.in_ok-word-2.ensures,
      c.in_ok-in_brackets.ensures,
      c.in_ok-value.ensures,
      c.in_ok-word.ensures,
      c.as_slice.ensures,
    ) at
    c.into.ensures)
