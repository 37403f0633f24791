use Rattle.std.proofs.Common.{◌∙◌, ap, is_some}
use Rattle.sh_words.proofs.Decimals.{some_decimal}
use Rattle.sh_words.proofs.values.is_number.Goals as goal

pub returns : goal.returns
returns c = c.is_some.ensures ∙ ap is_some c.decimal.ensures ∙ some_decimal c.args.text.now
