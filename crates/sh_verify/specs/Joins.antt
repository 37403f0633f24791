-- The operands of a join, dimension by dimension.
use Rattle.std.specs.Prelude.{ℕ, List, [], ◌∷◌, Bool, true, ◌||◌, ◌+◌, get_or, nat_eq, if◌then◌else◌}
use Rattle.std.specs.List.{list_all}
use Rattle.sh_ir.specs.declared.types.Dim.{Dim}
use Rattle.sh_ir.specs.declared.types.Dim.TheVariants.{Known, Differs}
use Rattle.sh_ir.specs.declared.types.ValueType.{ValueType}
use Rattle.sh_ir.specs.Agreement.{differs, dims_agree, dims_of}

abbrev pub dim_at : ValueType → ℕ → Dim
dim_at t i = get_or (dims_of t) i Differs

-- the first extent of a dimension that is known
abbrev pub column : List ValueType → ℕ → Dim
column [] i = Differs
column (t ∷ types) i = if differs (dim_at t i) then column types i else dim_at t i

abbrev pub column_agrees : List ValueType → ℕ → Bool
column_agrees types i = list_all (λ t. dims_agree (column types i) (dim_at t i)) types

-- the extents of each dimension but that of the axis agree
abbrev pub columns_agree : ℕ → List ValueType → List ℕ → Bool
columns_agree axis types numbers = list_all (λ i. nat_eq i axis || column_agrees types i) numbers

-- whether so many cells, and these extents, are a number; `?` may stand for any extent
abbrev pub has_sum : ℕ → ℕ → List Dim → Bool
has_sum count total [] = nat_eq total count
has_sum count total (Differs ∷ dims) = true
has_sum count total (Known n ∷ dims) = has_sum count (total + n) dims
