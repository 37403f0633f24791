use Rattle.std.proofs.Common.{◌-◌, ◌++◌, List, length}
use Rattle.sh_lex.specs.declared.tokens.LexRefusal.{LexRefusal}
use Rattle.sh_lex.specs.declared.tokens.Token.{Token}
use Rattle.sh_lex.specs.Scan.{IsAt}
use Rattle.sh_lex.specs.Tokens.{HasTokens, HasTokensFrom, IsRefused, IsRefusedFrom}
use Rattle.sh_lex.proofs.lexer.lex.Given as goal

-- what holds of the text from here on holds of the whole
abbrev pub invariant-loop-tokens : goal.invariant-loop-tokens
invariant-loop-tokens l = record {
  at : IsAt l.text l.from;
  tokens : (tokens : List Token) → HasTokensFrom l.text l.from.offset tokens → HasTokens l.text (l.tokens.items ++ tokens);
  refused : (why : LexRefusal) → IsRefusedFrom l.text l.from.offset why → IsRefused l.text why;
}

abbrev pub decreases-loop-tokens : goal.decreases-loop-tokens
decreases-loop-tokens l = length l.text - l.from.offset
