-- Types side by side: when two are the same, and when they may stand for one.
use Rattle.std.specs.Prelude.{ℕ, ◌+◌, List, [], ◌∷◌, Bool, true, false, ◌&&◌, nat_eq, length}
use Rattle.std.specs.List.{list_any}
use Rattle.std.specs.Cmp.Lexicographic.{pointwise}
use Rattle.sh_base.specs.Cells.{bits_of}
use Rattle.sh_ir.specs.declared.types.Dim.{Dim}
use Rattle.sh_ir.specs.declared.types.Dim.TheVariants.{Known, Differs}
use Rattle.sh_ir.specs.declared.types.TensorType.{TensorType}
use Rattle.sh_ir.specs.declared.types.ValueType.{ValueType}
use Rattle.sh_ir.specs.declared.types.ValueType.TheVariants.{Nothing, Scalar, Tensor, Sharding, Index}

-- ---- what a type is

abbrev pub is_tensor : ValueType → Bool
is_tensor (Tensor t) = true
is_tensor (Scalar w) = false
is_tensor Nothing = false
is_tensor Sharding = false
is_tensor Index = false

abbrev pub differs : Dim → Bool
differs Differs = true
differs (Known n) = false

-- the extents of a tensor type; none of another type
abbrev pub dims_of : ValueType → List Dim
dims_of (Tensor t) = t.dims
dims_of (Scalar w) = []
dims_of Nothing = []
dims_of Sharding = []
dims_of Index = []

abbrev pub rank_of : ValueType → ℕ
rank_of t = length (dims_of t)

-- whether it has an extent that is `?`
abbrev pub has_differing : ValueType → Bool
has_differing t = list_any differs (dims_of t)

-- how many bits a cell has; 0 where the type has none
abbrev pub cell_bits : ValueType → ℕ
cell_bits (Tensor t) = bits_of t.width
cell_bits (Scalar w) = bits_of w
cell_bits Nothing = 0
cell_bits Sharding = 0
cell_bits Index = 0

abbrev pub same_bits : ValueType → ValueType → Bool
same_bits t u = nat_eq (cell_bits t) (cell_bits u)

abbrev pub same_rank_and_bits : ValueType → ValueType → Bool
same_rank_and_bits t u = same_bits t u && nat_eq (rank_of t) (rank_of u)

-- ---- the same type

-- Between a value's type and the type that is written for it there is no leniency: `?` is `?`.
abbrev pub same_dim : Dim → Dim → Bool
same_dim (Known m) (Known n) = nat_eq m n
same_dim (Known m) Differs = false
same_dim Differs (Known n) = false
same_dim Differs Differs = true

abbrev pub same_tensor_type : TensorType → TensorType → Bool
same_tensor_type t u =
    nat_eq (bits_of t.width) (bits_of u.width) && pointwise same_dim t.dims u.dims

abbrev pub same_type : ValueType → ValueType → Bool
same_type (Tensor t) (Tensor u) = same_tensor_type t u
same_type (Scalar v) (Scalar w) = nat_eq (bits_of v) (bits_of w)
same_type Nothing Nothing = true
same_type Sharding Sharding = true
same_type Index Index = true
same_type _ _ = false

unfoldable pub same_types : List ValueType → List ValueType → Bool
same_types ts us = pointwise same_type ts us

-- ---- types that agree

-- `?` may stand for any extent
abbrev pub dims_agree : Dim → Dim → Bool
dims_agree (Known m) (Known n) = nat_eq m n
dims_agree (Known m) Differs = true
dims_agree Differs d = true

-- one rank, and extents that agree
abbrev pub shapes_agree : List Dim → List Dim → Bool
shapes_agree ds es = pointwise dims_agree ds es

-- tensor types of one width whose shapes agree
unfoldable pub types_agree : ValueType → ValueType → Bool
types_agree t u =
    (is_tensor t && is_tensor u) && (same_bits t u && shapes_agree (dims_of t) (dims_of u))

-- each pair of extents is related, by the number of its dimension; the ranks are one
abbrev pub all_related : (ℕ → Dim → Dim → Bool) → ℕ → List Dim → List Dim → Bool
all_related R at [] [] = true
all_related R at [] (e ∷ es) = false
all_related R at (d ∷ ds) [] = false
all_related R at (d ∷ ds) (e ∷ es) = R at d e && all_related R (at + 1) ds es
