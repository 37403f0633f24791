use Rattle.sh_print.specs.Tokens.{yield_pieces}
use Rattle.sh_print.proofs.regions.yielded.Goals as goal

pub returns : goal.returns
unfolding yield_pieces
returns c =
    rw (
      c.in_ok-word-2.ensures,
      c.in_ok-sign.ensures,
      c.in_ok-value.ensures,
      c.in_ok-word.ensures,
      c.width_word.ensures,
    ) at
    c.end_line.ensures
