use Rattle.std.proofs.lemmas.List.Sums.{fold-append}
use Rattle.sh_print.specs.Tokens.{sharding_pieces}
use Rattle.sh_print.proofs.phrases.sharding.Goals as goal

pub returns : goal.returns
unfolding sharding_pieces
returns c =
    simp fold-append
    (rw (
      c.in_ok-listed.ensures,
      c.in_ok-splits.ensures,
    ) at
    c.listed-2.ensures)
