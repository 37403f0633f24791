use Rattle.std.proofs.lemmas.List.Sums.{fold-append}
use Rattle.sh_print.specs.Tokens.{all_gather_pieces}
use Rattle.sh_print.proofs.shard.all_gather.Goals as goal

pub returns : goal.returns
unfolding all_gather_pieces
returns c =
    simp fold-append
    (rw (
      c.in_ok-axis.ensures,
      c.in_ok-over.ensures,
    ) at
    c.from_to.ensures)
