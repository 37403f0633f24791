use Rattle.std.proofs.lemmas.List.Sums.{fold-append}
use Rattle.sh_print.specs.Tokens.{carry_pieces}
use Rattle.sh_print.proofs.items.device.Goals as goal

pub returns : goal.returns
unfolding carry_pieces
returns c =
    simp fold-append
    (rw (
      c.in_ok-cuts-2.ensures,
      c.in_ok-arrow.ensures,
      c.in_ok-cuts.ensures,
      c.in_ok-symbol-2.ensures,
      c.in_ok-word-2.ensures,
      c.in_ok-symbol.ensures,
      c.in_ok-word.ensures,
      c.as_slice.ensures,
      c.as_slice-2.ensures,
    ) at
    c.end_line.ensures)
