use Rattle.std.proofs.Common.{◌≡◌, ◌^◌, min, take}
use Rattle.sh_lex.specs.Tokens.{decimal_of}
use Rattle.sh_lex.proofs.fronts.is_narrow.Given as goal

abbrev pub invariant-loop-digit : goal.invariant-loop-digit
invariant-loop-digit l = l.value ≡ min (decimal_of (take l.digit-index l.digits)) (2 ^ 64)
