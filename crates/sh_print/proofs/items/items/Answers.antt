use Rattle.std.proofs.lemmas.List.Sums.{fold-append}
use Rattle.sh_print.specs.Tokens.{items_pieces}
use Rattle.sh_print.proofs.items.items.Goals as goal

pub returns : goal.returns
unfolding items_pieces
returns c =
    simp fold-append
    (rw (
      c.in_ok-functions.ensures,
      c.in_ok-grids.ensures,
      c.as_slice.ensures,
      c.as_slice-2.ensures,
      c.as_slice-3.ensures,
    ) at
    c.calls.ensures)
