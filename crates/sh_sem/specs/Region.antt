-- What a region gives at one loop point. Its names become places once, and what it gives is by the
-- places alone: so a region whose names are others means the same.
use Rattle.std.specs.Prelude.{ℕ, List, [], ◌∷◌, ◌++◌, map, slice_get, Option, Some, option_map, option_and_then}
use Rattle.sh_base.specs.declared.numbers.Cell.{Cell}
use Rattle.sh_base.specs.declared.numbers.Cell.TheVariants.{Val}
use Rattle.sh_base.specs.declared.numbers.Width.TheVariants.{I64}
use Rattle.sh_base.specs.declared.operations.CastOp.TheVariants.{Trunci}
use Rattle.sh_ir.specs.declared.bodies.Body.{Body}
use Rattle.sh_ir.specs.declared.bodies.BodyOp.{BodyOp}
use Rattle.sh_ir.specs.declared.bodies.BodyKind.{BodyKind}
use Rattle.sh_ir.specs.declared.bodies.BodyKind.TheVariants.{Constant, Binary, Compare, Select, Cast, Index, IndexCast}
use Rattle.sh_ir.specs.declared.types.ValueType.{ValueType}
use Rattle.sh_turns.specs.Program.{all_there}
use Rattle.sh_pieces.specs.Instructions.{last_place}
use Rattle.sh_sem.specs.Scalars.{binary, compare, choice, cast, formula_cell, constant_cell, width_of}

-- ---- one operation

-- What it gives at a loop point, by its operands' cells. None: it is stuck. An index is the point's
-- coordinate, which its cast takes modulo two to the width.
unfoldable pub body_cell : BodyKind → ValueType → List ℕ → List Cell → Option Cell
body_cell (Constant x) result point cells = constant_cell x.contents 0
body_cell (Binary op) result point cells = formula_cell (binary op (width_of result)) cells
body_cell (Compare x) result point cells =
    formula_cell (compare x.predicate (width_of x.operand_type)) cells
body_cell (Select x) result point cells = formula_cell choice cells
body_cell (Cast x) result point cells =
    formula_cell (cast x.op (width_of x.operand_type) (width_of result)) cells
body_cell (Index x) result point cells = option_map (λ k. Val k) (slice_get point x.dimension)
body_cell IndexCast result point cells = formula_cell (cast Trunci I64 (width_of result)) cells

-- ---- places

-- an operation whose operands are places among the cells before it
pub record PlacedOp : Type 0 where
  pub kind : BodyKind
  pub result : ValueType
  pub sources : List (Option ℕ)

pub record PlacedBody : Type 0 where
  pub ops : List PlacedOp
  pub yields : Option ℕ

abbrev pub placed_op : List (Option ℕ) → BodyOp → PlacedOp
placed_op names op = record {
  kind = op.kind;
  result = op.result;
  sources = map (last_place names) op.operands;
}

abbrev pub placed_ops : List (Option ℕ) → List BodyOp → List PlacedOp
placed_ops names [] = []
placed_ops names (op ∷ ops) = placed_op names op ∷ placed_ops (names ++ Some op.defines ∷ []) ops

-- the names of the scalars of the function that the region uses, then those of the block arguments
abbrev pub first_names : List ℕ → Body → List (Option ℕ)
first_names captured body = map (λ name. Some name) (captured ++ body.args)

-- and then those of its operations
abbrev pub all_names : List ℕ → Body → List (Option ℕ)
all_names captured body = first_names captured body ++ map (λ op. Some op.defines) body.ops

unfoldable pub placed : List ℕ → Body → PlacedBody
placed captured body = record {
  ops = placed_ops (first_names captured body) body.ops;
  yields = last_place (all_names captured body) body.yields;
}

-- ---- what it gives

abbrev pub source_cells : List Cell → List (Option ℕ) → Option (List Cell)
source_cells cells sources = all_there (map (option_and_then (slice_get cells)) sources)

abbrev pub placed_op_cell : PlacedOp → List ℕ → List Cell → Option Cell
placed_op_cell op point cells =
    option_and_then (body_cell op.kind op.result point) (source_cells cells op.sources)

-- the cells once these operations have theirs, if none is stuck
abbrev pub cells_after : List PlacedOp → List ℕ → List Cell → Option (List Cell)
cells_after [] point cells = Some cells
cells_after (op ∷ ops) point cells =
    option_and_then (λ cell. cells_after ops point (cells ++ cell ∷ []))
    (placed_op_cell op point cells)

-- the cell that a region yields at a loop point, by the cells of the captured scalars and of the
-- block arguments
unfoldable pub region_cell : PlacedBody → List ℕ → List Cell → Option Cell
region_cell body point cells =
    option_and_then (λ after. option_and_then (slice_get after) body.yields)
    (cells_after body.ops point cells)
