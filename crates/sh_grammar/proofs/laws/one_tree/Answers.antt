use Rattle.std.proofs.Common.{List, [], ◌∷◌, ◌++◌, ◌≡◌, ◌∙◌, sym, ap, refl}
use Rattle.sh_grammar.specs.Grammar.{Trees, Reads, tokens, events}
use Rattle.sh_grammar.specs.Language.{language, text_of_file}
use Rattle.sh_grammar.specs.Lexemes.{Lexeme}
use Rattle.sh_grammar.proofs.OneLanguage.{only_tree}
use Rattle.sh_grammar.proofs.laws.one_tree.Goals as goal

pub returns : goal.returns
returns c = λ ts f h p q. only_tree ts f h p q
