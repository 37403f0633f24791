use Rattle.std.proofs.Common.{◌∙◌, sym, arith}
use Rattle.sh_words.proofs.Decimals.{not_digits, parsed, too_long}
use Rattle.sh_words.proofs.values.decimal.Goals as goal

pub returns-then-text-gt20 : goal.returns-then-text-gt20
returns-then-text-gt20 c = too_long c.args.text.now (omega arith)

pub returns-then-not-are_digits : goal.returns-then-not-are_digits
returns-then-not-are_digits c = not_digits c.args.text.now (sym c.are_digits.ensures ∙ c.if-not-are_digits.true)

pub returns : goal.returns
returns c = c.ok.ensures.value ∙ parsed c.args.text.now c.parse.result c.parse.ensures.value.0 (sym c.are_digits.ensures ∙ c.if-not-are_digits.false) (omega arith)
