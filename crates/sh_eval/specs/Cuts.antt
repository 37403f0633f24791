-- Numbers as memory holds them: one that is too great for it is cut.
use Rattle.std.specs.Prelude.{ℕ, List, map, min}

-- a coordinate, or the number of a cell
abbrev pub cut : ℕ → ℕ
cut n = min n 18446744073709551615

abbrev pub cut_index : List ℕ → List ℕ
cut_index i = map cut i

-- an extent
abbrev pub cut_extent : ℕ → ℕ
cut_extent n = min n 340282366920938463463374607431768211455

abbrev pub cut_shape : List ℕ → List ℕ
cut_shape shape = map cut_extent shape
