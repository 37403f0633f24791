use Rattle.sh_print.specs.Tokens.{tokens_of}
use Rattle.sh_print.proofs.LayoutLexes.{layout_lexes}
use Rattle.sh_print.proofs.ReadableModules.{formed_can_be_read}
use Rattle.sh_print.proofs.laws.printed_tokens.Goals as goal

pub returns : goal.returns
returns c = λ m formed. layout_lexes (tokens_of m) (formed_can_be_read m formed)
