use Rattle.std.proofs.lemmas.List.Sums.{fold-append}
use Rattle.sh_print.specs.Tokens.{all_reduce_pieces}
use Rattle.sh_print.proofs.shard.all_reduce.Goals as goal

pub returns : goal.returns
unfolding all_reduce_pieces
returns c =
    simp fold-append
    (rw (
      c.in_ok-reduction.ensures,
      c.in_ok-over.ensures,
    ) at
    c.from_to.ensures)
