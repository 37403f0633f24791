use Rattle.sh_print.specs.Tokens.{index_cast_pieces}
use Rattle.sh_print.proofs.regions.index_cast.Goals as goal

pub returns : goal.returns
unfolding index_cast_pieces
returns c =
    rw (
      c.in_ok-word-3.ensures,
      c.in_ok-word-2.ensures,
      c.in_ok-sign.ensures,
      c.in_ok-value.ensures,
      c.in_ok-word.ensures,
    ) at
    c.print.ensures
