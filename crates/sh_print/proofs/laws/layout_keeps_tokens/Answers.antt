use Rattle.sh_print.proofs.LayoutLexes.{layout_lexes}
use Rattle.sh_print.proofs.laws.layout_keeps_tokens.Goals as goal

pub returns : goal.returns
returns c = layout_lexes
