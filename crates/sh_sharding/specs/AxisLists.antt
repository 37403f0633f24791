-- Lists of axes as they are written: what the rules A1 to A3 speak of.
use Rattle.std.specs.Prelude.{ℕ, List, [], ◌∷◌, map, drop, get_or, ℤ, pos, negsuc, ◌≤ℤ◌, ◌<ℤ◌}
use Rattle.std.specs.List.{flat_map}
use Rattle.sh_sharding.specs.declared.shardings.Dimension.{Dimension}
use Rattle.sh_sharding.specs.Sharding.{unsplit}

-- a written number that isn't negative
abbrev pub natural : ℤ → ℕ
natural (pos n) = n
natural (negsuc n) = 0

abbrev pub IsNatural : ℤ → Type 0
IsNatural z = pos 0 ≤ℤ z

-- a written number that is below a bound, and isn't negative
abbrev pub IsBelow : ℕ → ℤ → Type 0
IsBelow n z = (pos 0 ≤ℤ z) × (z <ℤ pos n)

-- all listed axes
abbrev pub listed_axes : List (List ℤ) → List ℕ
listed_axes lists = flat_map (λ axes. map natural axes) lists

-- the dimensions with their lists of axes, where a list that is missing is empty
abbrev pub listed : List (List ℤ) → List ℕ → List Dimension
listed lists [] = []
listed lists (n ∷ s) =
    record (unsplit n) { axes = map natural (get_or lists 0 []) } ∷ listed (drop 1 lists) s
