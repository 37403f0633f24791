-- The operations of a region as memory holds them.
use Rattle.std.specs.Prelude.{◌≡◌, ℕ, Bool, true, false, List, [], ◌∷◌, ◌++◌, slice_get, Option, Some, None, option_map, option_and_then}
use Rattle.std.specs.List.{AllByRecursion}
use Rattle.sh_base.specs.Cells.{IsCellOf}
use Rattle.sh_base.specs.declared.numbers.Cell.{Cell}
use Rattle.sh_base.specs.declared.numbers.Cell.TheVariants.{Val}
use Rattle.sh_base.specs.declared.numbers.Width.{Width}
use Rattle.sh_base.specs.declared.numbers.Width.TheVariants.{I64}
use Rattle.sh_base.specs.declared.operations.CastOp.TheVariants.{Trunci}
use Rattle.sh_loops.specs.declared.regions.RegionWork.{RegionWork}
use Rattle.sh_loops.specs.declared.regions.RegionWork.TheVariants.{Constant, Formula, Index, IndexCast}
use Rattle.sh_loops.specs.Formulas.{CanApply, formula_of, measured, operand_width}
use Rattle.sh_loops.specs.declared.regions.PlacedStep.{PlacedStep}
use Rattle.sh_loops.specs.declared.regions.Region.{Region}
use Rattle.sh_sem.specs.Region.{source_cells}
use Rattle.sh_sem.specs.Scalars.{cast, formula_cell}

-- what it gives at a loop point of its operands' cells
unfoldable pub work_cell : RegionWork → List ℕ → List Cell → Option Cell
work_cell (Constant cell) point cells = cell
work_cell (Formula f) point cells = formula_cell (formula_of f) cells
work_cell (Index l) point cells = option_map (λ k. Val k) (slice_get point l)
work_cell (IndexCast w) point cells = formula_cell (cast Trunci I64 w) cells

-- it may be done on these cells
unfoldable pub TakesWork : RegionWork → List Cell → Type 0
TakesWork (Constant cell) cells = Unit {0}
TakesWork (Formula f) cells = CanApply f × AllByRecursion (IsCellOf (operand_width f)) (measured f cells)
TakesWork (Index l) cells = Unit {0}
TakesWork (IndexCast w) cells = AllByRecursion (IsCellOf I64) cells

-- ---- placed operations

-- what one gives at a loop point of the cells before it
unfoldable pub step_given : PlacedStep → List ℕ → List Cell → Option Cell
step_given s point cells = option_and_then (work_cell s.work point) (source_cells cells s.sources)

-- the cells once these have theirs, if none is stuck
abbrev pub steps_given : List PlacedStep → List ℕ → List Cell → Option (List Cell)
steps_given [] point cells = Some cells
steps_given (s ∷ steps) point cells =
    option_and_then (λ c. steps_given steps point (cells ++ c ∷ [])) (step_given s point cells)

-- the cell that a region yields
unfoldable pub region_given : Region → List ℕ → List Cell → Option Cell
region_given r point cells =
    option_and_then (λ after. option_and_then (slice_get after) r.yields)
    (steps_given r.steps point cells)

-- they may be done one after the other
abbrev pub CanRun : List PlacedStep → List ℕ → List Cell → Type 0
CanRun [] point cells = Unit {0}
CanRun (s ∷ steps) point cells =
    ((found : List Cell) → source_cells cells s.sources ≡ Some found → TakesWork s.work found)
    × ((c : Cell) → step_given s point cells ≡ Some c → CanRun steps point (cells ++ c ∷ []))

-- the cells after a run that came to its end, or was stuck
abbrev pub ran : Bool → List Cell → Option (List Cell)
ran true cells = Some cells
ran false cells = None
