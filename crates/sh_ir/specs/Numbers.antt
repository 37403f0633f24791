-- Written numbers: lists of axes, groups of dimensions, slices.
use Rattle.std.specs.Prelude.{ℕ, List, [], ◌∷◌, Bool, true, not, ◌&&◌, nat_eq, nat_lt, ℤ, pos, negsuc, length, map, flat_map}
use Rattle.std.specs.List.{list_all, range_with_len}
use Rattle.std.specs.Cmp.Lexicographic.{pointwise}
use Rattle.sh_ir.specs.declared.types.Dim.{Dim}
use Rattle.sh_ir.specs.declared.types.Dim.TheVariants.{Known}
use Rattle.sh_ir.specs.Formed.{is_not_negative}
use Rattle.sh_ir.specs.Regions.{is_among}

-- a written number that isn't negative
abbrev pub as_natural : ℤ → ℕ
as_natural (pos n) = n
as_natural (negsuc n) = 0

-- written extents
abbrev pub known_dims : List ℤ → List Dim
known_dims zs = map (λ z. Known (as_natural z)) zs

abbrev pub as_naturals : List ℤ → List ℕ
as_naturals zs = map as_natural zs

-- whether it is written as a number from 0 on, and below the bound
abbrev pub is_below : ℕ → ℤ → Bool
is_below bound z = is_not_negative z && nat_lt (as_natural z) bound

-- whether no number stands in the list twice
abbrev pub are_distinct : List ℕ → Bool
are_distinct [] = true
are_distinct (n ∷ ns) = not (is_among ns n) && are_distinct ns

-- distinct numbers below a bound, as the axes of a grid or the dimensions of a tensor
abbrev pub are_axes_below : ℕ → List ℤ → Bool
are_axes_below bound zs = list_all (is_below bound) zs && are_distinct (as_naturals zs)

-- each number below a bound, once
abbrev pub is_permutation : ℕ → List ℤ → Bool
is_permutation bound zs = nat_eq (length zs) bound && are_axes_below bound zs

-- so many numbers, none negative
abbrev pub are_naturals : ℕ → List ℤ → Bool
are_naturals count zs = nat_eq (length zs) count && list_all is_not_negative zs

-- so many numbers from 1 on
abbrev pub is_positive : ℤ → Bool
is_positive z = is_not_negative z && nat_lt 0 (as_natural z)

abbrev pub are_positive : ℕ → List ℤ → Bool
are_positive count zs = nat_eq (length zs) count && list_all is_positive zs

-- groups of all numbers below a bound, in order, none empty
abbrev pub are_groups_of : ℕ → List (List ℤ) → Bool
are_groups_of bound groups =
    list_all (λ group. nat_lt 0 (length group)) groups
    && (list_all (λ group. list_all is_not_negative group) groups
    && pointwise nat_eq (flat_map as_naturals groups) (range_with_len 0 bound))
