-- Tensors of a type: what a type knows of their extents, and their width.
use Rattle.std.specs.Prelude.{◌≡◌, ℕ, ◌==◌, Bool, true, false, ◌&&◌, List, [], ◌∷◌, map}
use Rattle.sh_base.specs.Cells.{bits_of}
use Rattle.sh_base.specs.declared.numbers.Width.{Width}
use Rattle.sh_ir.specs.declared.types.Dim.{Dim}
use Rattle.sh_ir.specs.declared.types.Dim.TheVariants.{Known, Differs}
use Rattle.sh_ir.specs.declared.types.TensorType.{TensorType}
use Rattle.sh_ir.specs.declared.types.ValueType.{ValueType}
use Rattle.sh_ir.specs.declared.types.ValueType.TheVariants.{Nothing, Scalar, Tensor, Sharding, Index}
use Rattle.sh_tensor.specs.Tensor.{TensorValue, IsTensor}

-- ---- in device form, where a type may leave extents open

-- the extents are as many as the type says, and those that it knows
abbrev pub have_extents : List Dim → List ℕ → Bool
have_extents [] [] = true
have_extents [] (n ∷ ns) = false
have_extents (d ∷ ds) [] = false
have_extents (Known m ∷ ds) (n ∷ ns) = (m == n) && have_extents ds ns
have_extents (Differs ∷ ds) (n ∷ ns) = have_extents ds ns

-- the two widths are one
abbrev pub same_width : Width → Width → Bool
same_width v w = bits_of v == bits_of w

abbrev pub has_type : ValueType → TensorValue → Bool
has_type (Tensor type) t = same_width type.width t.width && have_extents type.dims t.shape
has_type (Scalar w) t = same_width w t.width && have_extents [] t.shape
has_type Nothing t = false
has_type Sharding t = false
has_type Index t = false

-- ---- in source form

-- a tensor of this type
pub record IsOfTensorType (type : TensorType) (t : TensorValue) : Type 0 where
  pub extents : map (λ n. Known n) t.shape ≡ type.dims
  pub width : t.width ≡ type.width
  pub whole : IsTensor t

abbrev pub IsOfType : ValueType → TensorValue → Type 0
IsOfType (Tensor type) t = IsOfTensorType type t
IsOfType (Scalar w) t = ⊥
IsOfType Nothing t = ⊥
IsOfType Sharding t = ⊥
IsOfType Index t = ⊥

-- one tensor for each type
abbrev pub AreOfTypes : List ValueType → List TensorValue → Type 0
AreOfTypes [] [] = Unit {0}
AreOfTypes [] (t ∷ ts) = ⊥
AreOfTypes (type ∷ types) [] = ⊥
AreOfTypes (type ∷ types) (t ∷ ts) = IsOfType type t × AreOfTypes types ts
