use Rattle.std.proofs.lemmas.List.Sums.{fold-append}
use Rattle.sh_print.specs.Tokens.{pad_pieces}
use Rattle.sh_print.proofs.shard.pad.Goals as goal

pub returns : goal.returns
unfolding pad_pieces
returns c =
    simp fold-append
    (rw (
      c.in_ok-numbers-2.ensures,
      c.in_ok-numbers.ensures,
      c.in_ok-value.ensures,
      c.in_ok-word.ensures,
    ) at
    c.from_to.ensures)
