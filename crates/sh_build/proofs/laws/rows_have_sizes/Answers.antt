use Rattle.sh_grammar.specs.Language.{text_of_file}
use Rattle.sh_build.proofs.SizesFit.{are_sized}
use Rattle.sh_build.proofs.laws.rows_have_sizes.Goals as goal

pub returns : goal.returns
returns c = λ ts f file. are_sized text_of_file f file.0
