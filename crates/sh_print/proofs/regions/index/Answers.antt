use Rattle.sh_print.specs.Tokens.{index_pieces}
use Rattle.sh_print.proofs.regions.index.Goals as goal

pub returns : goal.returns
unfolding index_pieces
returns c =
    rw (
      c.in_ok-sign.ensures,
      c.in_ok-number.ensures,
      c.in_ok-word.ensures,
      c.from.ensures,
    ) at
    c.word-2.ensures
