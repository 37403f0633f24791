use Rattle.sh_grammar.proofs.Facts.{the_facts}
use Rattle.sh_grammar.proofs.reader.read.Given as goal

abbrev pub ghost-run : goal.ghost-run
ghost-run a = the_facts
