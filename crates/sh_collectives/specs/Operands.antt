-- The operands of a group.
use Rattle.std.specs.Prelude.{◌≡◌, ℕ, ◌<◌, true, List, length, map, Option, IfSome, option_map, option_and_then, slice_get}
use Rattle.std.specs.List.{All, range_with_len}
use Rattle.sh_base.specs.declared.numbers.Width.{Width}
use Rattle.sh_sem.specs.Collected.{collected, piece_of, shapes_collected}
use Rattle.sh_sem.specs.Scalars.{width_of}
use Rattle.sh_tensor.specs.Tensor.{TensorValue, IsTensor, build}
use Rattle.sh_ir.specs.declared.types.Dim.{Dim}
use Rattle.sh_collectives.specs.declared.ways.Way.{Way}
use Rattle.sh_collectives.specs.Described.{shapes_given}
use Rattle.sh_collectives.specs.Sizes.{is_small}
use Rattle.sh_collectives.specs.Ways.{collecting_by, dims_worked}
use Rattle.sh_ir.specs.declared.operations.Op.{Op}
use Rattle.sh_turns.specs.Program.{all_there}

-- tensors of one width
pub record AreTensors (w : Width) (ts : List TensorValue) : Type 0 where
  pub whole : All IsTensor ts
  pub widths : All (λ (t : TensorValue). t.width ≡ w) ts

-- the piece at a place of each tensor, of as many pieces of one size as there are tensors
abbrev pub pieces_at : ℕ → ℕ → List TensorValue → List TensorValue
pieces_at axis place ts = map (piece_of axis (length ts) place) ts

-- the shape at a place of a group, where the operands' and the results' types know these extents
abbrev pub shape_by : List Dim → List Dim → Way → List (List ℕ) → ℕ → Option (List ℕ)
shape_by operand result w shapes place =
    option_and_then (λ ss. slice_get ss place) (shapes_given operand result w shapes)

-- the result at a place
abbrev pub value_by : List Dim → List Dim → Width → Way → List TensorValue → ℕ → Option TensorValue
value_by operand result width w ts place =
    option_map (λ s. build s width ((collecting_by w).cell place ts))
    (shape_by operand result w (map (λ t. t.shape) ts) place)

-- operands of a group for a collective: they have the dimensions along which it works, and its width
pub record AreGroupOperands (op : Op) (ts : List TensorValue) : Type 0 where
  pub dims : All (λ a. All (λ s. a < length s) (map (λ t. t.shape) ts)) (dims_worked op.kind)
  pub widths : All (λ t. t.width ≡ width_of op.result) ts

-- the shape of what a collective gives at a place of a group
abbrev pub shape_collected : List ℕ → Op → ℕ → List TensorValue → Option (List ℕ)
shape_collected grid op place ts =
    option_and_then (λ ss. slice_get ss place) (shapes_collected op grid (map (λ t. t.shape) ts))

-- a shape that is there is small
abbrev pub IsSmall : Option (List ℕ) → Type 0
IsSmall shape = IfSome shape (λ s. is_small s ≡ true)

-- what a collective gives to each member of a group, in group order
abbrev pub group_results : Op → List ℕ → List TensorValue → Option (List TensorValue)
group_results op grid ts = all_there (map (collected op grid ts) (range_with_len 0 (length ts)))
