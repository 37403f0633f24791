-- The loops of an operation, and what each dimension of its operands and of its result follows.
use Rattle.std.specs.Prelude.{ℕ, Bool, false, List, Option, Some, None, map, get_or}
use Rattle.std.specs.List.{AllByRecursion}
use Rattle.sh_base.specs.declared.numbers.Width.{Width}
use Rattle.sh_base.specs.declared.operations.Kind.{Kind}
use Rattle.sh_iface.specs.declared.options.Follow.{Follow}
use Rattle.sh_iface.specs.declared.options.How.{How}
use Rattle.sh_iface.specs.declared.options.How.TheVariants.{Same, Scale, Window}

pub record Loop : Type 0 where
  pub extent : ℕ
  -- whether an option may split it
  pub splittable : Bool
  -- of a loop that the result doesn't follow: how the parts of a reduction along it are combined
  pub kind : Option Kind

-- a dimension of a value
pub record NestDim : Type 0 where
  pub extent : ℕ
  -- the loop that it follows, if it follows one
  pub follow : Option Follow

-- an operand, or the result
pub record NestValue : Type 0 where
  pub dims : List NestDim
  pub width : Width

pub record LoopNest : Type 0 where
  pub loops : List Loop
  -- the tensor operands
  pub operands : List NestValue
  pub result : NestValue

-- the operand with this number; their count means the result
abbrev pub value_at : LoopNest → ℕ → NestValue
value_at nest v = get_or nest.operands v nest.result

abbrev pub shape_of : NestValue → List ℕ
shape_of value = map (λ d. d.extent) value.dims

abbrev pub loop_extents : LoopNest → List ℕ
loop_extents nest = map (λ l. l.extent) nest.loops

-- the dimension with this number, and the loop with this number
abbrev pub dim_at : NestValue → ℕ → NestDim
dim_at value dim = get_or value.dims dim (record { extent = 0; follow = None })

abbrev pub loop_at : LoopNest → ℕ → Loop
loop_at nest l = get_or nest.loops l (record { extent = 0; splittable = false; kind = None })

-- ---- values that aren't read through a window

abbrev pub IsPlainHow : How → Type 0
IsPlainHow Same = Unit {0}
IsPlainHow (Scale factor) = Unit {0}
IsPlainHow (Window kernel) = ⊥

abbrev pub IsPlainFollow : Option Follow → Type 0
IsPlainFollow None = Unit {0}
IsPlainFollow (Some f) = IsPlainHow f.how

abbrev pub HasNoWindows : NestValue → Type 0
HasNoWindows value = AllByRecursion (λ d. IsPlainFollow d.follow) value.dims

-- no operand is, nor is the result
abbrev pub IsPlainNest : LoopNest → Type 0
IsPlainNest nest = AllByRecursion HasNoWindows nest.operands × HasNoWindows nest.result
