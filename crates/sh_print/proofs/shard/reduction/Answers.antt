use Rattle.std.proofs.lemmas.List.Sums.{fold-append}
use Rattle.sh_print.specs.Tokens.{reduction_pieces}
use Rattle.sh_print.proofs.shard.reduction.Goals as goal

pub returns : goal.returns
unfolding reduction_pieces
returns c =
    simp fold-append
    (rw (
      c.in_ok-word.ensures,
      c.in_ok-apart.ensures,
      c.in_ok-attribute.ensures,
      c.kind_word.ensures,
    ) at
    c.sign.ensures)
