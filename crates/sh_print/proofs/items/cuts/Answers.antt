use Rattle.std.proofs.lemmas.List.Sums.{fold-append}
use Rattle.sh_print.specs.Tokens.{cuts}
use Rattle.sh_print.proofs.items.cuts.Goals as goal

pub returns : goal.returns
unfolding cuts
returns c =
    simp fold-append
    (rw (
      c.in_ok-list_of.ensures,
      c.in_ok-sign.ensures,
      c.as_slice.ensures,
    ) at
    c.sign-2.ensures)
