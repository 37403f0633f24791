-- Regions placed in memory: their operations stand one by one for those of the definition.
use Rattle.std.specs.Prelude.{◌≡◌, ℕ, List, [], ◌∷◌, ◌++◌, drop, map, get_or, Option, Some}
use Rattle.std.specs.List.{AllByRecursion}
use Rattle.sh_base.specs.Cells.{IsCellOf}
use Rattle.sh_base.specs.declared.numbers.Cell.{Cell}
use Rattle.sh_base.specs.declared.numbers.Width.{Width}
use Rattle.sh_base.specs.declared.numbers.Width.TheVariants.{I1, I64}
use Rattle.sh_int.specs.Elements.{CanCast}
use Rattle.sh_ir.specs.declared.bodies.BodyOp.{BodyOp}
use Rattle.sh_ir.specs.declared.bodies.BodyKind.{BodyKind}
use Rattle.sh_ir.specs.declared.bodies.BodyKind.TheVariants.{Constant, Binary, Compare, Select, Cast, Index, IndexCast}
use Rattle.sh_ir.specs.declared.types.ValueType.{ValueType}
use Rattle.sh_loops.specs.declared.regions.PlacedStep.{PlacedStep}
use Rattle.sh_loops.specs.declared.regions.Region.{Region}
use Rattle.sh_loops.specs.Cells.{HoldsCellsOf}
use Rattle.sh_loops.specs.Regions.{TakesWork, work_cell}
use Rattle.sh_sem.specs.Region.{PlacedBody, PlacedOp, body_cell, placed_op_cell, placed_ops, source_cells}
use Rattle.sh_sem.specs.Scalars.{width_of}

-- ---- what operations may be done on

-- it may be done on these cells
unfoldable pub TakesBody : BodyKind → ValueType → List Cell → Type 0
TakesBody (Constant x) result cells = Unit {0}
TakesBody (Binary op) result cells = AllByRecursion (IsCellOf (width_of result)) cells
TakesBody (Compare x) result cells = AllByRecursion (IsCellOf (width_of x.operand_type)) cells
TakesBody (Select x) result cells = AllByRecursion (IsCellOf (width_of result)) (drop 1 cells)
TakesBody (Cast x) result cells =
    CanCast x.op (width_of x.operand_type) (width_of result)
    × AllByRecursion (IsCellOf (width_of x.operand_type)) cells
TakesBody (Index x) result cells = Unit {0}
TakesBody IndexCast result cells = AllByRecursion (IsCellOf I64) cells

-- these may be done one after the other
abbrev pub CanRunPlaced : List PlacedOp → List ℕ → List Cell → Type 0
CanRunPlaced [] point cells = Unit {0}
CanRunPlaced (op ∷ ops) point cells =
    ((found : List Cell) → source_cells cells op.sources ≡ Some found → TakesBody op.kind op.result found)
    × ((c : Cell) → placed_op_cell op point cells ≡ Some c → CanRunPlaced ops point (cells ++ c ∷ []))

-- ---- one operation stands for another

pub record IsAlike (s : PlacedStep) (op : PlacedOp) : Type 0 where
  pub sources : s.sources ≡ op.sources
  pub gives : (point : List ℕ) (cells : List Cell)
      → work_cell s.work point cells ≡ body_cell op.kind op.result point cells
  pub takes : (cells : List Cell) → TakesBody op.kind op.result cells → TakesWork s.work cells

abbrev pub AreAlike : List PlacedStep → List PlacedOp → Type 0
AreAlike [] [] = Unit {0}
AreAlike [] (op ∷ ops) = ⊥
AreAlike (s ∷ steps) [] = ⊥
AreAlike (s ∷ steps) (op ∷ ops) = IsAlike s op × AreAlike steps ops

-- operations are placed behind these names, and then there are those
pub record ArePlaced (steps : List PlacedStep) (names : List ℕ) (ops : List BodyOp)
    (after : List ℕ) : Type 0 where
  pub steps_alike : AreAlike steps (placed_ops (map (λ n. Some n) names) ops)
  pub names_after : after ≡ names ++ map (λ (op : BodyOp). op.defines) ops

-- a region stands for a body
pub record StandsForBody (r : Region) (body : PlacedBody) : Type 0 where
  pub steps : AreAlike r.steps body.ops
  pub yields : r.yields ≡ body.yields

-- ---- the widths of cells

-- the width of what an operation gives
unfoldable pub width_given : BodyKind → ValueType → Width
width_given (Constant x) result = width_of result
width_given (Binary op) result = width_of result
width_given (Compare x) result = I1
width_given (Select x) result = width_of result
width_given (Cast x) result = width_of result
width_given (Index x) result = I64
width_given IndexCast result = width_of result

-- the cells are of these widths, one by one
abbrev pub AreCellsOf : List Width → List Cell → Type 0
AreCellsOf [] [] = Unit {0}
AreCellsOf [] (c ∷ cells) = ⊥
AreCellsOf (w ∷ widths) [] = ⊥
AreCellsOf (w ∷ widths) (c ∷ cells) = IsCellOf w c × AreCellsOf widths cells

-- what stands at a place is of a width
abbrev pub IsSourceOf : List Width → Width → Option ℕ → Type 0
IsSourceOf widths w source = (k : ℕ) → source ≡ Some k → get_or widths k w ≡ w

abbrev pub AreSourcesOf : List Width → Width → List (Option ℕ) → Type 0
AreSourcesOf widths w sources = AllByRecursion (IsSourceOf widths w) sources

-- the operands of an operation are of the widths at which it works
unfoldable pub FitsBody : BodyKind → ValueType → List Width → List (Option ℕ) → Type 0
FitsBody (Constant x) result widths sources = HoldsCellsOf (width_of result) x.contents
FitsBody (Binary op) result widths sources = AreSourcesOf widths (width_of result) sources
FitsBody (Compare x) result widths sources =
    AreSourcesOf widths (width_of x.operand_type) sources
FitsBody (Select x) result widths sources =
    AreSourcesOf widths (width_of result) (drop 1 sources)
FitsBody (Cast x) result widths sources =
    CanCast x.op (width_of x.operand_type) (width_of result)
    × AreSourcesOf widths (width_of x.operand_type) sources
FitsBody (Index x) result widths sources = Unit {0}
FitsBody IndexCast result widths sources = AreSourcesOf widths I64 sources

-- so is each, behind cells of these widths
abbrev pub FitOps : List Width → List PlacedOp → Type 0
FitOps widths [] = Unit {0}
FitOps widths (op ∷ ops) =
    FitsBody op.kind op.result widths op.sources
    × FitOps (widths ++ width_given op.kind op.result ∷ []) ops

abbrev pub widths_after : List Width → List PlacedOp → List Width
widths_after widths [] = widths
widths_after widths (op ∷ ops) = widths_after (widths ++ width_given op.kind op.result ∷ []) ops

-- a region's operations fit cells of these widths, and it yields one of width w
pub record FitsRegion (widths : List Width) (body : PlacedBody) (w : Width) : Type 0 where
  pub ops : FitOps widths body.ops
  pub yields : IsSourceOf (widths_after widths body.ops) w body.yields
