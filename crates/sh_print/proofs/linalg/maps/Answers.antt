use Rattle.std.proofs.lemmas.List.Sums.{fold-append}
use Rattle.sh_print.specs.Tokens.{maps_pieces}
use Rattle.sh_print.proofs.linalg.maps.Goals as goal

pub returns : goal.returns
unfolding maps_pieces
returns c =
    simp fold-append
    (rw (
      c.in_ok-attribute.ensures,
      c.as_slice.ensures,
    ) at
    c.in_brackets.ensures)
