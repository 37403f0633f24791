use Rattle.sh_print.specs.Tokens.{empty_pieces}
use Rattle.sh_print.proofs.tensor.empty.Goals as goal

pub returns : goal.returns
unfolding empty_pieces
returns c =
    rw (
      c.in_ok-sign-2.ensures,
      c.in_ok-sign.ensures,
      c.in_ok-word.ensures,
    ) at
    c.of_type.ensures
