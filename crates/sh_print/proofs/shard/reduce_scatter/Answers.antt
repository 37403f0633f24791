use Rattle.std.proofs.lemmas.List.Sums.{fold-append}
use Rattle.sh_print.specs.Tokens.{reduce_scatter_pieces}
use Rattle.sh_print.proofs.shard.reduce_scatter.Goals as goal

pub returns : goal.returns
unfolding reduce_scatter_pieces
returns c =
    simp fold-append
    (rw (
      c.in_ok-axis.ensures,
      c.in_ok-reduction.ensures,
      c.in_ok-over.ensures,
    ) at
    c.from_to.ensures)
