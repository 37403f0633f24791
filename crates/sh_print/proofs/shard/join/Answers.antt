use Rattle.std.proofs.lemmas.List.Sums.{fold-append}
use Rattle.sh_print.specs.Tokens.{join_pieces}
use Rattle.sh_print.proofs.shard.join.Goals as goal

pub returns : goal.returns
unfolding join_pieces
returns c =
    simp fold-append
    (rw (
      c.in_ok-types.ensures,
      c.in_ok-sign.ensures,
      c.in_ok-axis.ensures,
      c.in_ok-values.ensures,
      c.in_ok-word.ensures,
    ) at
    c.to_type.ensures)
