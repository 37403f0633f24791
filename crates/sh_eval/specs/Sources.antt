-- Functions in source form that keep the limits and the rules, and tensors of the types of values.
use Rattle.std.specs.Prelude.{◌≡◌, ℕ, Bool, true, false, List, [], ◌∷◌, Some, None, slice_get, IsSomeAnd}
use Rattle.sh_base.specs.declared.numbers.Width.{Width}
use Rattle.sh_base.specs.declared.rules.Rule.{Rule}
use Rattle.sh_ir.specs.declared.functions.Func.{Func}
use Rattle.sh_ir.specs.declared.modules.Module.{Module}
use Rattle.sh_ir.specs.declared.types.TensorType.{TensorType}
use Rattle.sh_ir.specs.declared.types.ValueType.{ValueType}
use Rattle.sh_ir.specs.declared.types.ValueType.TheVariants.{Nothing, Scalar, Tensor, Sharding, Index}
use Rattle.sh_ir.specs.Faults.{KeepsModule}
use Rattle.sh_ir.specs.Formed.{IsFormed}
use Rattle.sh_ir.specs.Scope.{Value, value_named}
use Rattle.sh_sem.specs.Meaning.{Values}
use Rattle.sh_sem.specs.Types.{IsOfTensorType, have_extents}
use Rattle.sh_tensor.specs.Tensor.{TensorValue, IsTensor}
use Rattle.sh_eval.specs.Values.{IsFew}

-- a function in source form of a module that keeps the limits and the rules
pub record IsOfSource (f : Func) : Type 0 where
  pub whole : Module
  pub formed : IsFormed whole
  pub keeps : (rule : Rule) → KeepsModule rule whole
  pub place : ℕ
  pub stands : slice_get whole.funcs place ≡ Some f
  pub source : f.carry ≡ None

-- ---- tensors of the types of values

-- a scalar is a tensor of rank 0
pub record IsOfScalarType (w : Width) (t : TensorValue) : Type 0 where
  pub shape : t.shape ≡ []
  pub width : t.width ≡ w
  pub whole : IsTensor t

-- in source form a tensor has all extents of its type
abbrev pub IsOfSourceType : ValueType → TensorValue → Type 0
IsOfSourceType (Tensor type) t = IsOfTensorType type t
IsOfSourceType (Scalar w) t = IsOfScalarType w t
IsOfSourceType Nothing t = ⊥
IsOfSourceType Sharding t = ⊥
IsOfSourceType Index t = ⊥

-- in device form it has those that its type knows, and few cells
pub record IsOfOpenType (type : TensorType) (t : TensorValue) : Type 0 where
  pub extents : have_extents type.dims t.shape ≡ true
  pub width : t.width ≡ type.width
  pub whole : IsTensor t
  pub few : IsFew t.shape

-- a tensor of the type of a value, in either form
abbrev pub IsOfValueType : ValueType → TensorValue → Type 0
IsOfValueType (Tensor type) t = IsOfOpenType type t
IsOfValueType (Scalar w) t = IsOfScalarType w t
IsOfValueType Nothing t = ⊥
IsOfValueType Sharding t = ⊥
IsOfValueType Index t = ⊥

-- whether values of this type have a tensor
abbrev pub has_value : ValueType → Bool
has_value (Tensor type) = true
has_value (Scalar w) = true
has_value Nothing = false
has_value Sharding = false
has_value Index = false

-- every tensor or scalar value of the scope has a tensor of its type
abbrev pub HaveTypes : List Value → Values → Type 0
HaveTypes scope values =
    (name : ℕ) (v : Value) → value_named scope name ≡ Some v → has_value v.value_type ≡ true
    → IsSomeAnd (values name) (IsOfValueType v.value_type)

-- one tensor for each type
abbrev pub AreOfValueTypes : List ValueType → List TensorValue → Type 0
AreOfValueTypes [] [] = Unit {0}
AreOfValueTypes [] (t ∷ ts) = ⊥
AreOfValueTypes (type ∷ types) [] = ⊥
AreOfValueTypes (type ∷ types) (t ∷ ts) = IsOfValueType type t × AreOfValueTypes types ts
