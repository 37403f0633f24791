use Rattle.std.proofs.lemmas.List.Sums.{fold-append}
use Rattle.sh_print.specs.Tokens.{shift_pieces}
use Rattle.sh_print.proofs.shard.shift.Goals as goal

pub returns : goal.returns
unfolding shift_pieces
returns c =
    simp fold-append
    (simp fold-append at
    (rw (
      c.in_ok-flag.ensures,
      c.in_ok-print.ensures,
      c.in_ok-attribute.ensures,
      c.in_ok-axis.ensures,
      c.in_ok-over.ensures,
    ) at
    c.from_to.ensures))
