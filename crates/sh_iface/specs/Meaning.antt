-- What an interface says of an operation: its loops, what it gives of whole operands, and its local
-- part, with the instructions that combine the parts of a reduction.
use Rattle.std.specs.Prelude.{ℕ, suc, ◌+◌, ◌-◌, pos, List, [], ◌∷◌, ◌++◌, map, length, Option, Some, None}
use Rattle.sh_base.specs.declared.numbers.Width.{Width}
use Rattle.sh_base.specs.declared.operations.Kind.{Kind}
use Rattle.sh_base.specs.declared.places.Place.{Place}
use Rattle.sh_grid.specs.Grid.{GridValue}
use Rattle.sh_int.specs.Reduction.{operation_of}
use Rattle.sh_ir.specs.declared.operations.Op.{Op}
use Rattle.sh_ir.specs.declared.operations.OpKind.TheVariants.{Binary, AllReduce}
use Rattle.sh_ir.specs.declared.types.ValueType.{ValueType}
use Rattle.sh_ir.specs.declared.types.ValueType.TheVariants.{Tensor}
use Rattle.sh_sharding.specs.LocalTypes.{local_dims}
use Rattle.sh_sharding.specs.Splits.{TensorSplit}
use Rattle.sh_tensor.specs.Tensor.{TensorValue}
use Rattle.sh_iface.specs.declared.options.Split.{Split}
use Rattle.sh_iface.specs.declared.parts.LocalPart.{LocalPart}
use Rattle.sh_iface.specs.LoopNest.{Loop, LoopNest}
use Rattle.sh_iface.specs.Splits.{OptionValue, split_of, scalar_split}

pub record Meaning : Type 0 where
  pub nest : LoopNest
  -- the widths of the scalars that it uses besides its tensor operands
  pub scalars : List Width
  -- what it gives of the whole operands, the tensors first and then the scalars. None: it is stuck
  pub whole : List TensorValue → Option TensorValue
  -- the place of the operation, which its instructions have too
  pub place : Place
  -- the local part, by the grid and the option
  pub part : GridValue → OptionValue → LocalPart

-- ---- how the values are split under an option

module _ (m : Meaning) (g : GridValue) (o : OptionValue) where
  abbrev pub operand_splits : List TensorSplit
  operand_splits = map (split_of g m.nest o) m.nest.operands ++ map (scalar_split g) m.scalars

  abbrev pub result_split : TensorSplit
  result_split = split_of g m.nest o m.nest.result

-- the type of the local tensors: an extent that isn't the same on all devices is `?`
unfoldable pub local_type : TensorSplit → ValueType
local_type s = Tensor (record { dims = local_dims s.sharding; width = s.width })

-- ---- the parts of a reduction

abbrev pub axes_where : Option Kind → Option Split → List ℕ
axes_where (Some k) (Some split) = split.axes
axes_where (Some k) None = []
axes_where None split = []

-- the axes along which reduction loops are split, in the order of the loops
abbrev pub reduction_axes : List Loop → OptionValue → List ℕ
reduction_axes [] o = []
reduction_axes (loop ∷ loops) [] = []
reduction_axes (loop ∷ loops) (split ∷ o) = axes_where loop.kind split ++ reduction_axes loops o

-- An all_reduce of the value `last` along these axes, and the kind's operation on the outs and the
-- combination.
abbrev pub combining : GridValue → List ℕ → Kind → ℕ → ℕ → ValueType → Place → List Op
combining g axes kind outs last type place =
    record {
      kind = AllReduce (record {
        on = record { grid = g.name; grid_axes = map (λ a. pos a) axes };
        reduction = kind;
        operand_type = type;
      });
      operands = last ∷ [];
      defines = Some (suc last);
      result = type;
      place = place;
    } ∷ record {
      kind = Binary (operation_of kind);
      operands = outs ∷ suc last ∷ [];
      defines = Some (suc (suc last));
      result = type;
      place = place;
    } ∷ []

-- what follows the instructions of a local part, of which the last defines `last`
abbrev pub completion : Meaning → GridValue → OptionValue → Option Kind → ℕ → List Op
completion m g o None last = []
completion m g o (Some kind) last =
    combining g (reduction_axes m.nest.loops o) kind (length m.nest.operands - 1) last
    (local_type (result_split m g o)) m.place

-- how many names the operands have
abbrev pub operand_count : Meaning → ℕ
operand_count m = length m.nest.operands + length m.scalars

-- all instructions: those of the local part, and those that combine
unfoldable pub instructions : Meaning → GridValue → OptionValue → List Op
instructions m g o =
    let part = m.part g o in
    part.ops ++ completion m g o part.combine (operand_count m + length part.ops - 1)
