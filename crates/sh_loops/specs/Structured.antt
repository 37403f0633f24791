-- Structured operations in memory: which steps stand for those of a structure, and on which operands
-- an operation can be folded.
use Rattle.std.specs.Prelude.{◌≡◌, ◌+◌, ◌≤◌, ℕ, true, List, [], ◌∷◌, ◌++◌, map, take, drop, length, get_or, Option, Some, option_and_then}
use Rattle.std.specs.List.{AllByRecursion}
use Rattle.sh_base.specs.Cells.{bits_of}
use Rattle.sh_base.specs.Shape.{max_rank}
use Rattle.sh_base.specs.declared.numbers.Cell.{Cell}
use Rattle.sh_base.specs.declared.numbers.Width.{Width}
use Rattle.sh_ir.specs.declared.bodies.Body.{Body}
use Rattle.sh_ir.specs.declared.operations.OpKind.{OpKind}
use Rattle.sh_ir.specs.Loops.{Step, Structure, copied, product_added, by_region, structure_of}
use Rattle.sh_loops.specs.declared.loops.Loops as memory
use Rattle.sh_loops.specs.Structures.{loops_in}
use Rattle.sh_tensor.specs.Tensor.{TensorValue, at}
use Rattle.sh_loops.specs.declared.regions.Region.{Region}
use Rattle.sh_loops.specs.declared.steps.PointStep as declared
use Rattle.sh_loops.specs.declared.steps.PointStep.TheVariants.{Copied, ProductAdded, Yielded}
use Rattle.sh_loops.specs.Nests.{all_follow_loops}
use Rattle.sh_loops.specs.Placing.{FitsRegion, StandsForBody}
use Rattle.sh_sem.specs.Given.{Giving, built_of, outs_of}
use Rattle.sh_sem.specs.Nest.{Fixed, extents_by, maps_of, sizes_agree}
use Rattle.sh_sem.specs.Region.{placed}

-- ---- steps

-- a step that does what a region's body says, with these cells for the function's scalars
pub record IsRegionStep (step : declared.PointStep) (body : Body) (captured : List ℕ)
    (scalars : List Cell) : Type 0 where
  pub region : Region
  pub step_is : step ≡ Yielded region
  pub stands : StandsForBody region (placed captured body)
  pub scalars_are : region.scalars ≡ scalars

-- the step in memory is that of a structure, on inputs of these widths
abbrev pub IsStep : declared.PointStep → Step → List Width → Width → List ℕ → List Cell → Type 0
IsStep step copied widths w captured scalars = step ≡ Copied
IsStep step product_added widths w captured scalars =
    step ≡ ProductAdded (get_or widths 0 w) (get_or widths 1 w)
IsStep step (by_region body) widths w captured scalars = IsRegionStep step body captured scalars

-- inputs and scalars of these widths are those at which a step works, with an output of width w
abbrev pub FitsStep : Step → List Width → Width → List ℕ → List Width → Type 0
FitsStep copied widths w captured scalars = AllByRecursion (λ v. v ≡ w) widths
FitsStep product_added widths w captured scalars =
    AllByRecursion (λ v. bits_of v ≤ bits_of w) widths
FitsStep (by_region body) widths w captured scalars =
    FitsRegion (scalars ++ widths ++ w ∷ []) (placed captured body) w

-- ---- operands

abbrev pub widths_of : List TensorValue → List Width
widths_of ts = map (λ t. t.width) ts

-- an operation of this structure can be folded on these operands, and gives cells of width w
pub record CanNest (s : Structure) (operands : List ℕ) (w : Width) (ts : List TensorValue)
    : Type 0 where
  pub few : s.loops ≤ max_rank
  -- each dimension follows some of the loops
  pub follow : all_follow_loops s.loops (maps_of s) ≡ true
  -- the output has the width of the result
  pub output : AllByRecursion (λ t. t.width ≡ w) (outs_of s ts)
  pub step : FitsStep s.step (widths_of (take (length s.inputs) ts)) w
      (drop (length s.inputs + 1) operands) (widths_of (drop (length s.inputs + 1) ts))

-- what stays the same from point to point, by the inputs, the output and the scalars
abbrev pub fixed_by : List ℕ → List TensorValue → TensorValue → List TensorValue → Fixed
fixed_by captured front outs rest = record {
  widths = widths_of front;
  width = outs.width;
  captured = captured;
  scalars = map (λ t. at t []) rest;
}

-- the loops are those of an operation's structure, which can be folded on these operands
pub record IsOfStructure (kind : OpKind) (loops : memory.Loops) (operands : List ℕ) (w : Width)
    (ts : List TensorValue) : Type 0 where
  pub structure : Structure
  pub kind_is : structure_of kind ≡ Some structure
  pub loops_are : loops ≡ loops_in structure
  pub fits : CanNest structure operands w ts

-- the same of the inputs, the output and the scalars, whose sizes agree
pub record CanFoldParts (kind : OpKind) (loops : memory.Loops) (captured extents : List ℕ)
    (front : List TensorValue) (outs : TensorValue) (rest : List TensorValue) : Type 0 where
  pub structure : Structure
  pub kind_is : structure_of kind ≡ Some structure
  pub loops_are : loops ≡ loops_in structure
  pub inputs_long : length structure.inputs ≡ length front
  pub few : structure.loops ≤ max_rank
  pub follow : all_follow_loops structure.loops (maps_of structure) ≡ true
  pub agree : sizes_agree structure (map (λ t. t.shape) (front ++ outs ∷ [])) ≡ true
  pub extents_are : extents ≡ extents_by structure (map (λ t. t.shape) (front ++ outs ∷ []))
  pub step : FitsStep structure.step (widths_of front) outs.width captured (widths_of rest)

-- ---- what is given

-- the tensor of width w that a rule gives of operands
abbrev pub value_by : Giving → Width → List TensorValue → Option TensorValue
value_by x w ts =
    option_and_then (λ shape. built_of shape w (x.cell ts shape)) (x.shape (map (λ t. t.shape) ts))
