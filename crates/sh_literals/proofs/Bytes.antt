-- Numbers of up to eight bytes.
use Rattle.std.proofs.Common.{◌≡◌, ℕ, ◌+◌, ◌*◌, ◌^◌, ◌<◌, ◌≤◌, List, [], ◌∷◌, ◌++◌, map, length, get_or, take, drop, add-one, refl, ap, sym, ◌∙◌, arith}
use Rattle.std.specs.List.{range_with_len}
use Rattle.std.proofs.lemmas.List.FromFn.{map-range_with_len_more}
use Rattle.sh_base.specs.declared.numbers.Cell.{Cell}
use Rattle.sh_base.specs.declared.numbers.Cell.TheVariants.{Val}
use Rattle.std.proofs.Math.Nat.{pow-le-pow_right, pow-suc}
use Rattle.std.proofs.Math.Seq.{drop-cons}
use Rattle.sh_literals.specs.LiteralCells.{little_endian}

-- one byte more is 256 times as many numbers
pub one_byte : (k number byte : ℕ) → number < 256 ^ k → byte < 256 → number * 256 + byte < 256 ^ (k + 1)
one_byte k number byte h b = let e : 256 ^ (k + 1) ≡ 256 ^ k * 256 = rw add-one (pow-suc 256 k) in omega arith

pub small : (k number : ℕ) → k ≤ 7 → number < 256 ^ k → number < 2 ^ 56
small k number h b = let all : 256 ^ k ≤ 256 ^ 7 = pow-le-pow_right (omega arith) h in omega arith

pub one_digit : (bytes : List ℕ) (at : ℕ) → at < length bytes
    → little_endian (drop at bytes) ≡ little_endian (drop (at + 1) bytes) * 256 + get_or bytes at 0
one_digit bytes at h = let e : drop at bytes ≡ get_or bytes at 0 ∷ drop (at + 1) bytes = rw add-one (drop-cons bytes at 0 h) in rw e refl

-- the cell of so many bytes at a place
abbrev pub cell_at : ℕ → List ℕ → ℕ → Cell
cell_at size bytes i = Val (little_endian (take size (drop (i * size) bytes)))

-- one cell more
pub one_cell : (size : ℕ) (bytes : List ℕ) (at : ℕ) (old new : List Cell) (number : ℕ) (front rest : List ℕ)
    → old ≡ map (cell_at size bytes) (range_with_len 0 at) → new ≡ old ++ Val number ∷ []
    → number ≡ little_endian front → front ≡ take size rest → rest ≡ drop (at * size) bytes
    → new ≡ map (cell_at size bytes) (range_with_len 0 (at + 1))
one_cell size bytes at old new number front rest so pushed is_number is_front is_rest =
    pushed ∙ ap (λ cells. cells ++ Val number ∷ []) so
    ∙ ap (λ n. map (cell_at size bytes) (range_with_len 0 at) ++ Val n ∷ [])
    (is_number ∙ ap little_endian is_front ∙ ap (λ rest. little_endian (take size rest)) is_rest)
    ∙ sym (map-range_with_len_more (cell_at size bytes) 0 at at (omega arith))
