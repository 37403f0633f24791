-- A structured operation with a kind, of which reduction loops are split too: each device folds its
-- part of the points, and the parts are combined over the group.
use Rattle.std.specs.Prelude.{◌≡◌, ℕ, suc, ◌<◌, true, false, List, [], ◌∷◌, ◌++◌, get_or, length, Option, Some, None, option_map}
use Rattle.std.specs.List.{range_with_len}
use Rattle.sh_base.specs.Cells.{IsCellOf}
use Rattle.sh_base.specs.declared.numbers.Cell.{Cell}
use Rattle.sh_base.specs.declared.numbers.Width.{Width}
use Rattle.sh_base.specs.declared.operations.Kind.{Kind}
use Rattle.sh_base.specs.Shape.{cell_count}
use Rattle.sh_grid.specs.Grid.{GridValue}
use Rattle.sh_int.specs.Reduction.{combine_of, neutral_of, operation_of}
use Rattle.sh_ir.specs.declared.operations.Op.{Op}
use Rattle.sh_ir.specs.declared.operations.OpKind.TheVariants.{AllReduce, Binary}
use Rattle.sh_ir.specs.declared.shard_ops.AllReduce as declared_all_reduce
use Rattle.sh_ir.specs.declared.types.ValueType.{ValueType}
use Rattle.sh_ir.specs.Agreement.{dims_of}
use Rattle.sh_ir.specs.Classes.{class_of}
use Rattle.sh_ir.specs.Numbers.{as_naturals}
use Rattle.sh_sem.specs.Given.{Seat, given}
use Rattle.sh_sem.specs.Scalars.{width_of}
use Rattle.sh_sem.specs.Steps.{is_collective_class}
use Rattle.sh_sem.specs.Types.{have_extents}
use Rattle.sh_sharding.specs.declared.shardings.Dimension.{Dimension}
use Rattle.sh_sharding.specs.Sharding.{local_shape}
use Rattle.sh_tensor.specs.Tensor.{build}
use Rattle.sh_nest_laws.specs.Folds.{IfThere}
use Rattle.sh_nest_laws.specs.LoopSplits.{Operand, PlainNest, IsOperationOf, AreCellsOf, AreSplit, AreLoopsApart, HasLocalTypes, reduction_axes, sharding_on, splits_by, widths_of}

-- the step combines the value so far with a term of the scalars and input cells, which may be stuck
pub record HasKind (k : Kind) (nest : PlainNest) (term : List Cell → List Cell → Option Cell)
    : Type 0 where
  pub combines : (scalars cells : List Cell) (z : Cell) → AreCellsOf nest.captured scalars
      → AreCellsOf (widths_of nest.ins) cells → IsCellOf nest.out.width z
      → nest.step scalars cells z
      ≡ option_map (λ y. combine_of k nest.out.width z y) (term scalars cells)
  pub valid : (scalars cells : List Cell) → AreCellsOf nest.captured scalars
      → AreCellsOf (widths_of nest.ins) cells
      → IfThere (IsCellOf nest.out.width) (term scalars cells)

-- ---- a fill of an output with a scalar: a loop for each dimension

abbrev pub first_of : List Cell → Option Cell
first_of [] = None
first_of (cell ∷ cells) = Some cell

abbrev pub fill_nest : Operand → PlainNest
fill_nest out = record {
  loops = length out.dims;
  ins = record { dims = []; width = out.width } ∷ [];
  out = record { dims = range_with_len 0 (length out.dims); width = out.width };
  captured = [];
  step = λ scalars cells z. first_of cells;
}

-- how its loops are divided where those of the operation are divided as D says
abbrev pub fill_division : (ℕ → Dimension) → Operand → ℕ → Dimension
fill_division D out i = D (get_or out.dims i 0)

-- ---- the instructions

-- a local instruction with these operands, whose value has this name
pub record IsLocalStep (op : Op) (reads : List ℕ) (name : ℕ) : Type 0 where
  pub alone : is_collective_class (class_of op.kind) ≡ false
  pub operands : op.operands ≡ reads
  pub defines : op.defines ≡ Some name

-- a type knows of the local tensors of the output only what is so
abbrev pub FitsLocal : GridValue → (ℕ → Dimension) → Operand → ValueType → Type 0
FitsLocal g D out type =
    (c : ℕ) → c < cell_count g.extents
    → have_extents (dims_of type) (local_shape (sharding_on g D out.dims) c) ≡ true

-- a scalar constant, the neutral cell of the kind
pub record IsNeutral (k : Kind) (w : Width) (op : Op) : Type 0 where
  pub gives : (seat : Seat) → given op seat [] ≡ Some (build [] w (λ i. neutral_of k w))

-- an all_reduce over the axes of the split reduction loops
pub record IsCombination (g : GridValue) (D : ℕ → Dimension) (nest : PlainNest) (k : Kind) (op : Op)
    : Type 0 where
  pub reduce : declared_all_reduce.AllReduce
  pub kind : op.kind ≡ AllReduce reduce
  pub reduction : reduce.reduction ≡ k
  pub axes : as_naturals reduce.on.grid_axes ≡ reduction_axes D nest
  pub width : width_of op.result ≡ nest.out.width
  pub operand : FitsLocal g D nest.out reduce.operand_type
  pub result : FitsLocal g D nest.out op.result

-- the element operation of the kind
pub record IsJoining (g : GridValue) (D : ℕ → Dimension) (nest : PlainNest) (k : Kind) (op : Op)
    : Type 0 where
  pub kind : op.kind ≡ Binary (operation_of k)
  pub width : width_of op.result ≡ nest.out.width
  pub result : FitsLocal g D nest.out op.result

-- The names of the instructions: the inputs, the outs and the scalars come first.
abbrev pub outs_name : PlainNest → ℕ
outs_name nest = length nest.ins

abbrev pub first_name : GridValue → (ℕ → Dimension) → PlainNest → ℕ
first_name g D nest = length (splits_by g D nest)

-- The operands of the operation at local sizes: the inputs, the filled outs, and the scalars.
abbrev pub local_operands : GridValue → (ℕ → Dimension) → PlainNest → List ℕ
local_operands g D nest =
    range_with_len 0 (length nest.ins) ++ suc (first_name g D nest)
    ∷ range_with_len (suc (length nest.ins)) (length nest.captured)

-- A constant, the neutral cell of the kind; a fill of the local outs with it; the operation on that;
-- an all_reduce over the axes of the split reduction loops; the kind's element operation on the
-- local outs and the combination.
pub record IsSplitPart (g : GridValue) (D : ℕ → Dimension) (nest : PlainNest) (k : Kind)
    (term : List Cell → List Cell → Option Cell)
    (whole_op constant fill local_op reduce join : Op) : Type 0 where
  pub split : AreSplit g D nest
  pub apart : AreLoopsApart D nest
  pub has_kind : HasKind k nest term
  pub whole : IsOperationOf nest whole_op
  pub neutral : IsNeutral k nest.out.width constant
  pub neutral_step : IsLocalStep constant [] (first_name g D nest)
  pub filled : IsOperationOf (fill_nest nest.out) fill
  pub filled_types : HasLocalTypes g (fill_division D nest.out) (fill_nest nest.out) fill
  pub filled_step : IsLocalStep fill (first_name g D nest ∷ outs_name nest ∷ [])
      (suc (first_name g D nest))
  pub local : IsOperationOf nest local_op
  pub local_types : HasLocalTypes g D nest local_op
  pub local_step : IsLocalStep local_op (local_operands g D nest) (suc (suc (first_name g D nest)))
  pub combination : IsCombination g D nest k reduce
  pub combined_operands : reduce.operands ≡ suc (suc (first_name g D nest)) ∷ []
  pub combined_name : reduce.defines ≡ Some (suc (suc (suc (first_name g D nest))))
  pub joining : IsJoining g D nest k join
  pub joined_step : IsLocalStep join (outs_name nest ∷ suc (suc (suc (first_name g D nest))) ∷ [])
      (suc (suc (suc (suc (first_name g D nest)))))
