use Rattle.std.proofs.Common.{◌≡◌, take}
use Rattle.sh_lex.specs.Tokens.{decimal_of}
use Rattle.sh_parse.proofs.leaves.decimal.Given as goal

abbrev pub invariant-loop-digit : goal.invariant-loop-digit
invariant-loop-digit l = l.number ≡ decimal_of (take l.digit-index l.digits)
