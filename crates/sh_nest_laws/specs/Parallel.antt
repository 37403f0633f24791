-- A structured operation of which only loops of the output are split.
use Rattle.std.specs.Prelude.{◌≡◌, ℕ, length, Some}
use Rattle.std.specs.List.{range_with_len}
use Rattle.sh_grid.specs.Grid.{GridValue}
use Rattle.sh_ir.specs.declared.operations.Op.{Op}
use Rattle.sh_sharding.specs.declared.shardings.Dimension.{Dimension}
use Rattle.sh_nest_laws.specs.LoopSplits.{PlainNest, IsOperationOf, KeepsWidth, AreSplit, SplitsParallel, HasLocalTypes, splits_by}

-- `whole_op` is the operation on whole tensors, and `local_op` the same at local sizes, on the
-- operands 0, 1, ..
pub record IsParallelPart (g : GridValue) (D : ℕ → Dimension) (nest : PlainNest)
    (whole_op local_op : Op)
    : Type 0 where
  pub split : AreSplit g D nest
  pub parallel : SplitsParallel D nest
  pub keeps : KeepsWidth nest
  pub whole : IsOperationOf nest whole_op
  pub local : IsOperationOf nest local_op
  pub types : HasLocalTypes g D nest local_op
  pub operands : local_op.operands ≡ range_with_len 0 (length (splits_by g D nest))
  pub defines : local_op.defines ≡ Some (length (splits_by g D nest))
