-- The text of a page that is written piece by piece is the layout of the pieces.
use Rattle.std.proofs.Common.{◌≡◌, ℕ, zero, suc, ◌+◌, ◌*◌, ◌-◌, List, [], ◌∷◌, ◌++◌, length, take, replicate, codes, refl, sym, ap, ap₂, ◌∙◌, arith, append_assoc, append-nil}
use Rattle.std.proofs.lemmas.List.{length-replicate, take-replicate, replicate-append-replicate}
use Rattle.sh_print.specs.Layout.{Piece, behind_piece, bytes_of, depth_behind, gap, indent, layout, layout_behind}
use Rattle.sh_print.specs.Layout.Piece.{apart, closing, line_end, opening, token}
use Rattle.sh_print.specs.Pages.{Page, empty_page, put, written}

indent_more : (depth : ℕ) → indent depth ++ codes "  " ≡ indent (suc depth)
indent_more depth =
    let n : 2 * depth + 2 ≡ 2 * suc depth = omega arith in
    let blank : ℕ = 32 in
    replicate-append-replicate (2 * depth) 2 blank ∙ ap (λ m. replicate m blank) n

indent_less : (depth : ℕ) → take (length (indent depth) - 2) (indent depth) ≡ indent (depth - 1)
indent_less depth =
    let n : 2 * depth - 2 ≡ 2 * (depth - 1) = omega arith in
    let blank : ℕ = 32 in
    let len : length (indent depth) ≡ 2 * depth = length-replicate (2 * depth) blank in
    ap (λ m. take (m - 2) (indent depth)) len ∙ take-replicate (2 * depth - 2) (2 * depth) blank (omega arith) ∙ ap (λ m. replicate m blank) n

-- the page is as it is behind this piece, with so many braces open
record IsBehind (page : Page) (depth : ℕ) (before : Piece) : Type 0 where
  indented : page.indentation ≡ indent depth
  behind : page.behind ≡ behind_piece before

put_behind : (page : Page) (depth : ℕ) (before piece : Piece) → IsBehind page depth before → IsBehind (put page piece) (depth_behind depth piece) piece
unfolding put
put_behind page depth before (token kind text) is = record { indented = is.indented; behind = refl }
put_behind page depth before apart is = record { indented = is.indented; behind = refl }
put_behind page depth before opening is = record { indented = ap (λ l. l ++ codes "  ") is.indented ∙ indent_more depth; behind = refl }
put_behind page depth before closing is = record { indented = ap (λ l. take (length l - 2) l) is.indented ∙ indent_less depth; behind = refl }
put_behind page depth before line_end is = record { indented = is.indented; behind = refl }

put_text : (page : Page) (depth : ℕ) (before piece : Piece) → IsBehind page depth before → (put page piece).text ≡ (page.text ++ gap depth before piece) ++ bytes_of piece
unfolding put
put_text page depth before (token kind text) is = rw (is.indented, is.behind) refl
put_text page depth before apart is = sym (append_assoc page.text (codes " ") (codes "<"))
put_text page depth before opening is = rw (is.indented, is.behind) refl
put_text page depth before closing is = ap (λ l. (page.text ++ l) ++ codes "}") (ap (λ l. take (length l - 2) l) is.indented ∙ indent_less depth)
put_text page depth before line_end is = ap (λ l. l ++ codes "\n") (sym (append-nil page.text))

written_behind : (page : Page) (depth : ℕ) (before : Piece) (pieces : List Piece) → IsBehind page depth before
    → (written page pieces).text ≡ page.text ++ layout_behind depth before pieces
unfolding layout_behind
written_behind page depth before [] is = sym (append-nil page.text)
written_behind page depth before (piece ∷ pieces) is =
    let rest : List ℕ = layout_behind (depth_behind depth piece) piece pieces in
    written_behind (put page piece) (depth_behind depth piece) piece pieces (put_behind page depth before piece is)
    ∙ ap (λ l. l ++ rest) (put_text page depth before piece is)
    ∙ append_assoc (page.text ++ gap depth before piece) (bytes_of piece) rest
    ∙ append_assoc page.text (gap depth before piece) (bytes_of piece ++ rest)

pub written_text : (pieces : List Piece) → (written empty_page pieces).text ≡ layout pieces
written_text pieces = written_behind empty_page 0 line_end pieces (record { indented = refl; behind = refl })
