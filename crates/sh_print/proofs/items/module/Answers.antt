use Rattle.std.proofs.lemmas.List.Sums.{fold-append}
use Rattle.sh_print.specs.Tokens.{tokens_of}
use Rattle.sh_print.proofs.items.module.Goals as goal

pub returns : goal.returns
unfolding tokens_of
returns c =
    simp fold-append
    (rw (
      c.in_ok-close.ensures,
      c.in_ok-items.ensures,
      c.in_ok-open.ensures,
      c.in_ok-module_name.ensures,
      c.in_ok-word.ensures,
    ) at
    c.end_line.ensures)
