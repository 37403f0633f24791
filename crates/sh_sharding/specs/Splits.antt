-- Shardings as ways to split tensors among the devices of a grid, for programs in pieces.
use Rattle.std.specs.Prelude.{◌≡◌}
use Rattle.sh_base.specs.declared.numbers.Width.{Width}
use Rattle.sh_tensor.specs.Tensor.{TensorValue, IsTensor}
use Rattle.sh_pieces.specs.Promises.{Splitting}
use Rattle.sh_sharding.specs.Sharding.{ShardingValue, whole_of}
use Rattle.sh_sharding.specs.Cut.{cut_of}

-- a way to split tensors of one shape and width
pub record TensorSplit : Type 0 where
  pub sharding : ShardingValue
  pub width : Width

-- a tensor that can be split so: of the sharding's shape, and of the width
pub record IsOfSplit (s : TensorSplit) (t : TensorValue) : Type 0 where
  pub tensor : IsTensor t
  pub shape : t.shape ≡ whole_of s.sharding
  pub width : t.width ≡ s.width

-- each device has its cut
abbrev pub tensor_splitting : Splitting TensorValue TensorValue TensorSplit
tensor_splitting = record { cut = λ s t c. cut_of s.sharding t c; Fits = IsOfSplit }
