use Rattle.std.proofs.lemmas.List.Sums.{fold-append}
use Rattle.sh_print.specs.Tokens.{generic_pieces}
use Rattle.sh_print.proofs.linalg.generic.Goals as goal

pub returns : goal.returns
unfolding generic_pieces
returns c =
    simp fold-append
    (rw (
      c.in_ok-region.ensures,
      c.in_ok-header.ensures,
      c.in_ok-outs.ensures,
      c.in_ok-maybe_ins.ensures,
      c.in_ok-attributes.ensures,
      c.in_ok-word.ensures,
    ) at
    c.to_type.ensures)
