-- Places.
use Rattle.std.proofs.Common.{◌≡◌, ℕ, ◌+◌, ◌≤◌, Bool, true, false, cond, not, nat_eq, List, [], ◌∷◌, ◌++◌, length, take, drop, reverse, fold, refl, sym, ap, ◌∙◌, arith, append_assoc, add-zero}
use Rattle.std.specs.List.{prefix_len, count_by}
use Rattle.std.proofs.lemmas.List.{append-nil, reverse-append, length-reverse, length-take-le}
use Rattle.std.proofs.lemmas.List.Sums.{sum_by_push, prefix_len-le-length}
use Rattle.std.proofs.Math.Seq.{take-add}
use Rattle.sh_base.specs.declared.places.Place.{Place}
use Rattle.sh_lex.specs.Tokens.{is_line_feed, is_line_byte, place_behind, place_at}
use Rattle.sh_lex.specs.Scan.{place_past}

abbrev at_place : ℕ → ℕ → Place
at_place l c = record { line = l; column = c }

at_byte : (v : Bool) (lines column : ℕ)
    → cond v (at_place (lines + 1 + 1) 1) (at_place (lines + 1) (column + 1 + 1)) ≡ at_place (lines + cond v 1 0 + 1) (cond (not v) (1 + column) 0 + 1)
at_byte true lines column = refl
at_byte false lines column =
    let same : column + 1 + 1 ≡ 1 + column + 1 = omega arith in
    rw (add-zero, same) refl

place_past-behind : (before : List ℕ) (b : ℕ) → place_past (place_behind before) b ≡ place_behind (before ++ b ∷ [])
unfolding is_line_feed is_line_byte
place_past-behind before b =
    let lines = sum_by_push (λ c. cond (nat_eq c 10) 1 0) before b in
    let turned = reverse-append before (b ∷ []) in
    rw (lines, turned) (at_byte (nat_eq b 10) (count_by is_line_feed before) (prefix_len is_line_byte (reverse before)))

place_past_all-behind : (before bytes : List ℕ) → fold place_past (place_behind before) bytes ≡ place_behind (before ++ bytes)
place_past_all-behind before [] = ap place_behind (sym (append-nil before))
place_past_all-behind before (b ∷ bytes) =
    let first = ap (λ (p : Place). fold place_past p bytes) (place_past-behind before b) in
    first ∙ place_past_all-behind (before ++ b ∷ []) bytes ∙ ap place_behind (append_assoc before (b ∷ []) bytes)

-- the place some bytes on
pub place_past_all-at : (text : List ℕ) (n len : ℕ) → fold place_past (place_at text n) (take len (drop n text)) ≡ place_at text (n + len)
place_past_all-at text n len =
    place_past_all-behind (take n text) (take len (drop n text)) ∙ ap place_behind (sym (take-add n len text))

pub column-le : (text : List ℕ) (n : ℕ) → n ≤ length text → (place_at text n).column ≤ n + 1
column-le text n within = omega (arith, prefix_len-le-length is_line_byte (reverse (take n text)), length-reverse (take n text), length-take-le n text within)
