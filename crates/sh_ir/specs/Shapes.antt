-- Shapes of types, and the types of a function's arguments.
use Rattle.std.specs.Prelude.{ℕ, List, [], map}
use Rattle.sh_ir.specs.declared.functions.Func.{Func}
use Rattle.sh_ir.specs.declared.types.Dim.{Dim}
use Rattle.sh_ir.specs.declared.types.Dim.TheVariants.{Known, Differs}
use Rattle.sh_ir.specs.declared.types.ValueType.{ValueType}
use Rattle.sh_ir.specs.declared.types.ValueType.TheVariants.{Nothing, Scalar, Tensor, Sharding, Index}

-- an extent; 0 where devices differ
abbrev pub extent_of : Dim → ℕ
extent_of (Known n) = n
extent_of Differs = 0

-- the extents of a tensor type; none of another type
abbrev pub shape_of : ValueType → List ℕ
shape_of (Tensor t) = map extent_of t.dims
shape_of (Scalar w) = []
shape_of Nothing = []
shape_of Sharding = []
shape_of Index = []

abbrev pub argument_types : Func → List ValueType
argument_types f = map (λ arg. arg.value_type) f.args
