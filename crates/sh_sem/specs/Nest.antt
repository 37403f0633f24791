-- What a structured operation gives: a nest of loops over the cells of its operands.
use Rattle.std.specs.Prelude.{ℕ, ◌+◌, ◌==◌, Bool, true, ◌&&◌, ◌||◌, not, List, [], ◌∷◌, ◌++◌, map, filter, fold, length, get_or, sum, slice_get, nat_eq, Option, Some, None, option_and_then, if◌then◌else◌}
use Rattle.std.specs.List.{list_all, range_with_len}
use Rattle.std.specs.Cmp.Lexicographic.{pointwise}
use Rattle.sh_base.specs.declared.numbers.Cell.{Cell}
use Rattle.sh_base.specs.declared.numbers.Width.{Width}
use Rattle.sh_base.specs.declared.operations.BinOp.TheVariants.{Addi, Muli}
use Rattle.sh_base.specs.declared.operations.CastOp.TheVariants.{Extsi}
use Rattle.sh_base.specs.Shape.{cell_count, unflat_of}
use Rattle.sh_int.specs.Elements.{element_of, cast_of}
use Rattle.sh_ir.specs.Loops.{LoopMap, Step, Structure, copied, product_added, by_region}
use Rattle.sh_tensor.specs.Tensor.{TensorValue, at}
use Rattle.sh_sem.specs.Region.{placed, region_cell}

-- ---- loops and their extents

-- a dimension of an operand: the loops whose coordinates its index sums, and its extent
pub record Followed : Type 0 where
  pub loops : List ℕ
  pub extent : ℕ

abbrev pub followed : LoopMap → List ℕ → List Followed
followed [] extents = []
followed (loops ∷ dims) [] = []
followed (loops ∷ dims) (n ∷ extents) = record { loops = loops; extent = n } ∷ followed dims extents

abbrev pub all_followed : List LoopMap → List (List ℕ) → List Followed
all_followed [] shapes = []
all_followed (dims ∷ maps) [] = []
all_followed (dims ∷ maps) (s ∷ shapes) = followed dims s ++ all_followed maps shapes

-- the extent of a loop is that of the first dimension which follows it alone
abbrev pub extent_of_loop : List Followed → ℕ → ℕ
extent_of_loop [] l = 0
extent_of_loop (d ∷ ds) l =
    if pointwise nat_eq d.loops (l ∷ []) then d.extent else extent_of_loop ds l

-- A dimension has the extent of its loop. One that sums the coordinates of a window and of a kernel
-- has room for all sums; nothing is asked of it where the window has no place.
abbrev pub has_room : (ℕ → ℕ) → Followed → Bool
has_room extent d =
    elim d.loops [
      | [] ↦ true
      | l ∷ others ↦
          (not (length others == 0) && (extent l == 0))
          || (d.extent + length others == sum (map extent d.loops))
    ]

abbrev pub have_ranks : List LoopMap → List (List ℕ) → Bool
have_ranks maps shapes = pointwise (λ dims s. length dims == length s) maps shapes

abbrev pub maps_of : Structure → List LoopMap
maps_of s = s.inputs ++ s.output ∷ []

-- the extents of the loops, by the shapes of the inputs and of the output
abbrev pub extents_by : Structure → List (List ℕ) → List ℕ
extents_by s shapes =
    map (extent_of_loop (all_followed (maps_of s) shapes)) (range_with_len 0 s.loops)

-- the operands' sizes agree
abbrev pub sizes_agree : Structure → List (List ℕ) → Bool
sizes_agree s shapes =
    let dims = all_followed (maps_of s) shapes in
    have_ranks (maps_of s) shapes && list_all (has_room (extent_of_loop dims)) dims

-- ---- points

-- the index that an operand has at a loop point
abbrev pub index_at : LoopMap → List ℕ → List ℕ
index_at dims point = map (λ loops. sum (map (λ l. get_or point l 0) loops)) dims

-- all points of the loops, in row-major order
abbrev pub points_of : List ℕ → List (List ℕ)
points_of extents = map (unflat_of extents) (range_with_len 0 (cell_count extents))

-- those that the output's map sends to an index
abbrev pub points_to : Structure → List ℕ → List ℕ → List (List ℕ)
points_to s extents o = filter (λ p. pointwise nat_eq (index_at s.output p) o) (points_of extents)

abbrev pub input_cells : List LoopMap → List TensorValue → List ℕ → List Cell
input_cells [] ins p = []
input_cells (dims ∷ maps) [] p = []
input_cells (dims ∷ maps) (t ∷ ins) p = at t (index_at dims p) ∷ input_cells maps ins p

-- ---- one step

-- what stays the same from point to point
pub record Fixed : Type 0 where
  pub widths : List Width  -- of the inputs
  pub width : Width  -- of the output
  pub captured : List ℕ  -- the names of the scalars of the function that the region uses
  pub scalars : List Cell  -- and their cells

-- the cell of an input, extended by sign to the output's width
abbrev pub extended : Fixed → ℕ → Cell → Cell
extended x input a = cast_of Extsi (get_or x.widths input x.width) x.width a

abbrev pub product_cell : Fixed → List Cell → Option Cell
product_cell x (a ∷ b ∷ []) = element_of Muli x.width (extended x 0 a) (extended x 1 b)
product_cell x cells = None

-- the next value of the output's cell. None: it is stuck
abbrev pub step_cell : Step → Fixed → List ℕ → List Cell → Cell → Option Cell
step_cell copied x p cells so_far = slice_get cells 0
step_cell product_added x p cells so_far =
    option_and_then (element_of Addi x.width so_far) (product_cell x cells)
step_cell (by_region body) x p cells so_far =
    region_cell (placed x.captured body) p (x.scalars ++ cells ++ so_far ∷ [])

-- ---- the cell at an index

abbrev pub visit : Structure → Fixed → List TensorValue → Option Cell → List ℕ → Option Cell
visit s x ins so_far p = option_and_then (step_cell s.step x p (input_cells s.inputs ins p)) so_far

-- The fold over the loop points that the output's map sends to the index, in row-major order, from
-- the output's own cell. None: a point is stuck.
unfoldable pub folded_cell : Structure → Fixed → List ℕ → List TensorValue → TensorValue → List ℕ
    → Option Cell
folded_cell s x extents ins outs o =
    fold (visit s x ins) (Some (at outs o)) (points_to s extents o)
