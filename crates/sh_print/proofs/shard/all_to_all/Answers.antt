use Rattle.std.proofs.lemmas.List.Sums.{fold-append}
use Rattle.sh_print.specs.Tokens.{all_to_all_pieces}
use Rattle.sh_print.proofs.shard.all_to_all.Goals as goal

pub returns : goal.returns
unfolding all_to_all_pieces
returns c =
    simp fold-append
    (rw (
      c.in_ok-axis-2.ensures,
      c.in_ok-axis.ensures,
      c.in_ok-over.ensures,
    ) at
    c.from_to.ensures)
