-- Blanks and comments.
use Rattle.std.proofs.Common.{◌≡◌, ℕ, ◌+◌, ◌-◌, ◌<◌, ◌≤◌, true, false, nat_eq, Some, slice_get, slice_range, List, [], ◌∷◌, ◌++◌, take, drop, codes, sym, ◌∙◌, subst, arith, one-add}
use Rattle.std.specs.List.{prefix_len, starts_with}
use Rattle.std.proofs.lemmas.List.{drop-drop}
use Rattle.std.proofs.lemmas.List.Folds.{drop_split}
use Rattle.std.proofs.Math.Seq.{take-add}
use Rattle.sh_lex.specs.Tokens.{is_blank, is_line_byte, IsGapPart, blank, comment, begins_gap, IsGap, nothing, more}
use Rattle.sh_lex.proofs.Runs.{each_in_run, stops_after_run, begins_with_two}

comment_here : (bytes : List ℕ) → let rest : List ℕ = 47 ∷ (47 ∷ bytes) in
    (0 < prefix_len is_line_byte rest) × IsGapPart (take (prefix_len is_line_byte rest) rest) (drop (prefix_len is_line_byte rest) rest)
unfolding is_line_byte
comment_here bytes =
    let rest : List ℕ = 47 ∷ (47 ∷ bytes) in
    let starts : starts_with nat_eq (take (prefix_len is_line_byte rest) rest) (codes "//") ≡ true = simp one-add in
    (omega arith, comment (starts, each_in_run is_line_byte rest) (stops_after_run is_line_byte rest))

-- `//` begins a comment, up to the line's end
pub comment_part : (rest : List ℕ) → starts_with nat_eq rest (codes "//") ≡ true
    → (0 < prefix_len is_line_byte rest) × IsGapPart (take (prefix_len is_line_byte rest) rest) (drop (prefix_len is_line_byte rest) rest)
comment_part rest e =
    let s = begins_with_two 47 47 rest e in
    subst (λ (xs : List ℕ). (0 < prefix_len is_line_byte xs) × IsGapPart (take (prefix_len is_line_byte xs) xs) (drop (prefix_len is_line_byte xs) xs)) (sym s.1) (comment_here s.0)

pub blank_part : (rest : List ℕ) (b : ℕ) → Some b ≡ slice_get rest 0 → is_blank b ≡ true → IsGapPart (take 1 rest) (drop 1 rest)
blank_part [] b e h = absurd (cc)
blank_part (x ∷ rest) b e h =
    let same : x ≡ b = cc in
    let here : is_blank x ≡ true = rw same h in
    blank here

-- a part of a gap, and a gap up to `to`, are a gap up to there
pub gap_more : (rest : List ℕ) (len part to : ℕ) → len + part ≤ to
    → IsGapPart (take part (drop len rest)) (drop part (drop len rest))
    → IsGap (drop to rest) (slice_range rest (len + part) to) → IsGap (drop to rest) (slice_range rest len to)
gap_more rest len part to order is_part is_gap =
    let follows : drop part (drop len rest) ≡ slice_range rest (len + part) to ++ drop to rest =
    drop-drop part len rest ∙ drop_split rest (len + part) to order in
    let joins : slice_range rest len to ≡ take part (drop len rest) ++ slice_range rest (len + part) to =
    let e : to - len ≡ part + (to - (len + part)) = omega arith in
    let f : take (part + (to - (len + part))) (drop len rest) ≡ take part (drop len rest) ++ take (to - (len + part)) (drop part (drop len rest)) = take-add part (to - (len + part)) (drop len rest) in
    rw e (rw (← drop-drop part len rest) f) in
    let here : IsGapPart (take part (drop len rest)) (slice_range rest (len + part) to ++ drop to rest) =
    subst (λ (after : List ℕ). IsGapPart (take part (drop len rest)) after) follows is_part in
    more here is_gap joins

pub gap_ends : (rest : List ℕ) (len : ℕ) → begins_gap (drop len rest) ≡ false → IsGap (drop len rest) (slice_range rest len len)
gap_ends rest len ends =
    let none : len - len ≡ 0 = omega arith in
    rw none (nothing ends)
