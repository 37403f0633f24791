-- What is described of a collective, and what is asked of its group.
use Rattle.std.specs.Prelude.{◌≡◌, ℕ, ◌<◌, List, [], ◌∷◌, All, length, nat_eq, position, Option, Some, None, if◌then◌else◌}
use Rattle.std.specs.List.{list_all}
use Rattle.sh_collectives.specs.declared.ways.Described.{Described}
use Rattle.sh_collectives.specs.declared.ways.Shifting.{Shifting}
use Rattle.sh_collectives.specs.declared.ways.Way.{Way}
use Rattle.sh_collectives.specs.Ways.{collecting_by, dims_along, dims_worked, IsOfSize}
use Rattle.sh_grid.specs.Grid.{AreAxesOf, group_size_of, on_axes}
use Rattle.sh_ir.specs.declared.operations.Op.{Op}
use Rattle.sh_ir.specs.declared.operations.OpKind.{OpKind}
use Rattle.sh_ir.specs.declared.shard_ops.Shift as declared_shift
use Rattle.sh_ir.specs.declared.types.Dim.{Dim}
use Rattle.sh_ir.specs.declared.types.TensorType.{TensorType}
use Rattle.sh_ir.specs.declared.types.ValueType.{ValueType}
use Rattle.sh_ir.specs.declared.types.ValueType.TheVariants.{Tensor}
use Rattle.sh_ir.specs.Numbers.{as_naturals}
use Rattle.sh_ir.specs.Typing.{typing_of}
use Rattle.sh_sem.specs.Collected.{collecting, shapes_by}
use Rattle.sh_sem.specs.Given.{have_all_extents}
use Rattle.sh_sem.specs.Steps.{axes_of}
use Rattle.sh_sem.specs.Types.{have_extents}

-- the shift of an operation on a grid
pub record IsShift (x : declared_shift.Shift) (grid : List ℕ) (s : Shifting) : Type 0 where
  pub extents : s.extents ≡ on_axes (as_naturals x.on.grid_axes) grid
  pub along : s.along ≡ position (nat_eq x.shift_axis) (as_naturals x.on.grid_axes)
  pub offset : s.offset ≡ x.offset
  pub rotate : s.rotate ≡ x.rotate

-- what it does, the dimensions along which it works, and the extents that its operands' type knows
pub record IsDescription (kind : OpKind) (grid : List ℕ) (x : Described) : Type 0 where
  pub collecting : collecting kind grid ≡ Some (collecting_by x.way)
  pub dims : dims_along x.way ≡ dims_worked kind
  pub size : IsOfSize x.way (group_size_of grid (axes_of kind))
  pub operand : (result : ValueType) (shape : List ℕ)
      → have_all_extents (typing_of kind result) (shape ∷ []) ≡ have_extents x.dims.now shape

-- the shapes of all results of a group, where the operands' and the results' types know these
-- extents
abbrev pub shapes_given : List Dim → List Dim → Way → List (List ℕ) → Option (List (List ℕ))
shapes_given operand result w shapes =
    if list_all (have_extents operand) shapes
    then shapes_by result shapes (collecting_by w)
    else None

-- an operation of this kind that gives a tensor of this type
pub record IsOf (kind : OpKind) (type : TensorType) (op : Op) : Type 0 where
  pub does : op.kind ≡ kind
  pub gives : op.result ≡ Tensor type

-- A collective of a verified function on a grid of these extents, the shapes of a group's operands,
-- one a member, and a place of the group.
pub record CanCollect (kind : OpKind) (grid : List ℕ) (shapes : List (List ℕ)) (place : ℕ) : Type 0 where
  pub axes : AreAxesOf (length grid) (axes_of kind)
  pub counted : length shapes ≡ group_size_of grid (axes_of kind)
  pub within : place < length shapes
  pub dims : All (λ a. All (λ s. a < length s) shapes) (dims_worked kind)
