use Rattle.std.proofs.lemmas.List.Sums.{fold-append}
use Rattle.sh_print.specs.Tokens.{op_pieces}
use Rattle.sh_print.proofs.operations.operation.Goals as goal

pub returns : goal.returns
unfolding op_pieces
returns c =
    simp fold-append
    (rw (
      c.in_ok-right_side.ensures,
      c.in_ok-defined.ensures,
    ) at
    c.end_line.ensures)
