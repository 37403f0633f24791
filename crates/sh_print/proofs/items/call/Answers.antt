use Rattle.std.proofs.lemmas.List.Sums.{fold-append}
use Rattle.sh_print.specs.Tokens.{call_pieces}
use Rattle.sh_print.proofs.items.call.Goals as goal

pub returns : goal.returns
unfolding call_pieces
returns c =
    simp fold-append
    (rw (
      c.in_ok-sign-2.ensures,
      c.in_ok-list_of.ensures,
      c.in_ok-sign.ensures,
      c.in_ok-symbol.ensures,
      c.in_ok-word.ensures,
      c.as_slice.ensures,
      c.as_slice-2.ensures,
    ) at
    c.end_line.ensures)
