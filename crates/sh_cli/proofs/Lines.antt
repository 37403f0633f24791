-- What is left of an error line where it was written whole, or not.
use mathlib.Core.Bool.{true≢false}
use mathlib.Core.Path.{◌∙◌, ap, refl}
use Rattle.std.proofs.Common.{◌≡◌, ℕ, suc, ◌+◌, ◌<◌, ◌≤◌, List, [], ◌∷◌, ◌++◌, length, length-append, take, drop, flat_map, get_or, Result, Ok, Err, arith, subst, sym}
use Rattle.std.proofs.KnownBytes.{Appends-trans}
use Rattle.std.proofs.Math.Seq.{drop-cons, take-append-add}
use Rattle.std.proofs.lemmas.Grind.{common_steps, flat_map-append}
use Rattle.std.proofs.lemmas.List.{take-append-drop, take-append-le}
use Rattle.std.specs.Prelude.{IsErr}
use Rattle.std.specs.Io.KnownBytes.{Appends}
use Rattle.std.specs.declared.option.Option.{Option}
use Rattle.sh_io.specs.Causes.{HasCause}
use Rattle.sh_io.specs.Writing.{AppendsFront, WritesWhole}
use Rattle.sh_cli.specs.Line.{WritesLine, spelled}
use Rattle.sh_cli.specs.declared.line.Piece.{Piece}

whole_of : (line : List ℕ) → take (length line) line ≡ line
whole_of line = grind (arith, common_steps)

pub writes_line : {T E : Type 0} (r : Result T E) (line : List ℕ) (old new : Option (List ℕ)) (before now : ℕ) → WritesWhole old new r line → HasCause before now r → WritesLine line old new before now
writes_line (Ok x) line old new before now wrote cause = record {
  count = length line;
  appends = subst (λ (text : List ℕ). Appends old new text) (sym (whole_of line)) wrote;
  whole = λ _. whole_of line;
}
writes_line (Err e) line old new before now wrote cause = record {
  count = wrote.count;
  appends = wrote.appends;
  whole = λ calm. absurd (calm cause.failed);
}

-- ---- piece by piece

-- all of a text and the front of a second one
take_both : (first second rest : List ℕ) (k : ℕ) → k ≤ length second
    → take (length first + k) (first ++ (second ++ rest)) ≡ first ++ take k second
take_both first second rest k within =
    take-append-add first (second ++ rest) k ∙ ap (λ xs. first ++ xs) (take-append-le k second rest within)

split_pieces : (pieces : List Piece) (i : ℕ) (other : Piece) → i < length pieces
    → flat_map spelled pieces
    ≡ flat_map spelled (take i pieces) ++ (spelled (get_or pieces i other) ++ flat_map spelled (drop (suc i) pieces))
split_pieces pieces i other within =
    ap (flat_map spelled) (sym (take-append-drop i pieces))
    ∙ flat_map-append spelled (take i pieces) (drop i pieces)
    ∙ ap (λ xs. flat_map spelled (take i pieces) ++ flat_map spelled xs) (drop-cons pieces i other within)

-- the pieces before one, and the front of it, are a front of them all
pub front_of_pieces : (pieces : List Piece) (i : ℕ) (other : Piece) (old mid new : Option (List ℕ)) → i < length pieces
    → Appends old mid (flat_map spelled (take i pieces)) → AppendsFront mid new (spelled (get_or pieces i other))
    → AppendsFront old new (flat_map spelled pieces)
front_of_pieces pieces i other old mid new within before front =
    let first = flat_map spelled (take i pieces) in
    let second = spelled (get_or pieces i other) in
    let rest = flat_map spelled (drop (suc i) pieces) in
    let outer = length-append first (second ++ rest) in
    let inner = length-append second rest in
    let proper = front.proper in
    let less : front.count ≤ length second = omega (arith, proper) in
    let shorter : length first + front.count < length (first ++ (second ++ rest)) = omega (arith, outer, inner, proper) in
    subst (AppendsFront old new) (sym (split_pieces pieces i other within))
    (record {
      count = length first + front.count;
      proper = shorter;
      appends = subst (Appends old new) (sym (take_both first second rest front.count less))
          (Appends-trans old mid new first (take front.count second) before front.appends);
    })

-- what was written where writing failed
pub writes_front : {T E : Type 0} (r : Result T E) (old new : Option (List ℕ)) (text : List ℕ) → IsErr r
    → AppendsFront old new text → WritesWhole old new r text
writes_front (Ok x) old new text failed front = absurd (true≢false (sym failed))
writes_front (Err e) old new text failed front = front
