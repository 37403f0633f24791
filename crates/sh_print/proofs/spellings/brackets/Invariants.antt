use Rattle.std.proofs.Common.{◌≡◌, [], ◌∷◌, length, replicate}
use Rattle.sh_lex.specs.declared.tokens.TokenKind.TheVariants as kind
use Rattle.sh_print.specs.Pages.{written}
use Rattle.sh_print.specs.Layout.Piece.{token}
use Rattle.sh_print.specs.Spellings.{begun}
use Rattle.sh_print.proofs.spellings.brackets.Given as goal

abbrev pub invariant-loop-extent : goal.invariant-loop-extent
invariant-loop-extent l =
    written l.printer (replicate (begun l.extents l.at) (token kind.Sign (l.bracket ∷ [])))
    ≡ written l.initial.printer
    (replicate (begun l.fn.extents l.fn.at) (token kind.Sign (l.bracket ∷ [])))

abbrev pub decreases-loop-extent : goal.decreases-loop-extent
decreases-loop-extent l = length l.extents
