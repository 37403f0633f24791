use Rattle.sh_print.specs.Tokens.{constant_pieces}
use Rattle.sh_print.proofs.arith.constant.Goals as goal

pub returns : goal.returns
unfolding constant_pieces
returns c =
    rw (c.in_ok-word.ensures) at
    c.literal.ensures
