-- Numbers of a list, one after the other.
use Rattle.std.specs.Prelude.{ℕ, ◌+◌, ◌*◌, ◌^◌, List, [], ◌∷◌, Option, Some, None, Bool, true, ℤ, pos, nat_eq, nat_lt, ◌&&◌, drop, flat_map, get_or, min, not, if◌then◌else◌}
use Rattle.std.specs.List.{list_all}
use Rattle.sh_ir.specs.declared.types.Dim.{Dim}
use Rattle.sh_ir.specs.declared.types.Dim.TheVariants.{Known, Differs}
use Rattle.sh_ir.specs.Numbers.{as_natural, as_naturals}
use Rattle.sh_ir.specs.Regions.{is_among}

-- whether the number at a place stands behind it again
abbrev pub stands_again : List ℤ → ℕ → Bool
stands_again zs at = is_among (as_naturals (drop (at + 1) zs)) (as_natural (get_or zs at (pos 0)))

-- where numbers that go on from one, each the next and below the bound, have come to
abbrev pub counts_on : ℕ → ℕ → List ℕ → Option ℕ
counts_on next bound [] = Some next
counts_on next bound (n ∷ ns) =
    if nat_lt next bound && nat_eq n next then counts_on (next + 1) bound ns else None

-- no extent is as great
abbrev pub above_extents : ℕ
above_extents = 2 ^ 64

-- whether so many cells, times these extents, are a number below; `?` may stand for any extent
abbrev pub has_product : ℕ → ℕ → List Dim → Bool
has_product count product [] = nat_eq product count
has_product count product (Differs ∷ dims) = true
has_product count product (Known n ∷ dims) =
    has_product count (min (product * n) above_extents) dims

-- the axes of all lists
abbrev pub all_axes : List (List ℤ) → List ℤ
all_axes lists = flat_map (λ axes. axes) lists

-- no number of the first list is in the second
abbrev pub is_apart : List ℤ → List ℤ → Bool
is_apart zs others = list_all (λ z. not (is_among (as_naturals others) (as_natural z))) zs
