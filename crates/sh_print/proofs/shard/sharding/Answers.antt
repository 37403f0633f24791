use Rattle.std.proofs.lemmas.List.Sums.{fold-append}
use Rattle.sh_print.specs.Tokens.{sharding_op_pieces}
use Rattle.sh_print.proofs.shard.sharding.Goals as goal

pub returns : goal.returns
unfolding sharding_op_pieces
returns c =
    simp fold-append
    (rw (
      c.in_ok-sharding.ensures,
      c.in_ok-symbol.ensures,
      c.in_ok-word.ensures,
      c.as_slice.ensures,
    ) at
    c.of_type.ensures)
