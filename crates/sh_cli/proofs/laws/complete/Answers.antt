use Rattle.std.proofs.Common.{[]}
use Rattle.sh_print.specs.Tokens as print
use Rattle.sh_words.specs.declared.options.Tool.TheVariants.{Opt}
use Rattle.sh_cli.specs.declared.status.Status.TheVariants.{Success}
use Rattle.sh_cli.proofs.OneAnswer.{one_answer_at}
use Rattle.sh_cli.proofs.Printed.{is_printed}
use Rattle.sh_cli.proofs.laws.complete.Goals as goal

pub returns-clause-printed : goal.returns-clause-printed
returns-clause-printed c = is_printed

pub returns-clause-only : goal.returns-clause-only
returns-clause-only c = λ text m read sound admitted status output is.
    (one_answer_at Opt [] text status Success output (print.text_of m) is (is_printed text m read sound admitted)).0
