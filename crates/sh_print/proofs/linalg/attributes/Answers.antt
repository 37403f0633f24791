use Rattle.std.proofs.lemmas.List.Sums.{fold-append}
use Rattle.sh_print.specs.Tokens.{generic_attributes}
use Rattle.sh_print.proofs.linalg.attributes.Goals as goal

pub returns : goal.returns
unfolding generic_attributes
returns c =
    simp fold-append
    (rw (
      c.in_ok-iterators.ensures,
      c.in_ok-sign-2.ensures,
      c.in_ok-maps.ensures,
      c.in_ok-sign.ensures,
    ) at
    c.sign-3.ensures)
