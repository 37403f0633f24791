-- A piece of a list, cut off its front.
use Rattle.std.proofs.Common.{◌≡◌, ℕ, ◌+◌, ◌≤◌, List, [], ◌++◌, length, take, drop, arith, sym}
use Rattle.std.proofs.lemmas.Grind.{common_steps}
use Rattle.std.proofs.lemmas.List.{take-append-drop}

pub piece_off : (bytes : List ℕ) (at n : ℕ) → drop at bytes ≡ take n (drop at bytes) ++ drop (at + n) bytes
piece_off bytes at n =
    let e : drop (at + n) bytes ≡ drop n (drop at bytes) = grind (arith, common_steps) in
    rw e (sym (take-append-drop n (drop at bytes)))

pub piece_at : (piece rest : List ℕ) (n : ℕ) → length piece ≡ n → take n (piece ++ rest) ≡ piece
piece_at piece rest n h = grind (arith, common_steps)

pub piece_read : (bytes piece rest : List ℕ) (at n : ℕ) → length piece ≡ n → piece ≡ take n (drop at bytes) → drop at bytes ≡ take n (piece ++ rest) ++ drop (at + n) bytes
piece_read bytes piece rest at n h e =
    rw (piece_at piece rest n h, e) (piece_off bytes at n)

pub nothing_left : (bytes : List ℕ) (at : ℕ) → length bytes ≤ at → drop at bytes ≡ []
nothing_left bytes at h = grind (arith, common_steps)
