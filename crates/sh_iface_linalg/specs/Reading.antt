-- The structured operation that an operation is, by what is read off it.
use Rattle.std.specs.Prelude.{ℕ, Bool, List, [], ◌∷◌, ◌++◌, length, map, Option, Some, None, is_some, if◌then◌else◌}
use Rattle.std.specs.List.{range_with_len}
use Rattle.sh_base.specs.declared.numbers.Width.{Width}
use Rattle.sh_base.specs.declared.places.Place.{Place}
use Rattle.sh_ir.specs.declared.linalg_ops.InsOuts.{InsOuts}
use Rattle.sh_ir.specs.declared.operations.OpKind.{OpKind}
use Rattle.sh_ir.specs.declared.operations.OpKind.TheVariants.{Constant, Binary, Compare, Select, Cast, Empty, ExtractSlice, InsertSlice, CollapseShape, ExpandShape, Fill, Matmul, BatchMatmul, Matvec, Vecmat, Dot, Conv1d, Conv2d, Transpose, Broadcast, Reduce, Generic, Sharding, Shard, AllGather, AllSlice, AllReduce, ReduceScatter, AllToAll, Shift, UpdateHalo, Take, Pad, Join, Call, Return}
use Rattle.sh_nest_laws.specs.LoopSplits.{Operand}
use Rattle.sh_ir.specs.declared.types.Dim.{Dim}
use Rattle.sh_ir.specs.declared.types.ValueType.{ValueType}
use Rattle.sh_ir.specs.Loops.{places_in, single, unlisted}
use Rattle.sh_ir.specs.Numbers.{as_naturals}
use Rattle.sh_ir.specs.Shapes.{extent_of, shape_of}
use Rattle.sh_sem.specs.Nest.{all_followed, extent_of_loop}
use Rattle.sh_sem.specs.Scalars.{width_of}
use Rattle.sh_iface.specs.Meaning.{Meaning}
use Rattle.sh_iface_linalg.specs.declared.kinds.LinalgKind.{LinalgKind}
use Rattle.sh_iface_linalg.specs.declared.kinds.LinalgKind.TheVariants as linalg
use Rattle.sh_iface_linalg.specs.declared.maps.DimLoops.{DimLoops}
use Rattle.sh_iface_linalg.specs.declared.maps.DimLoops.TheVariants.{Listed, Places, Unlisted}
use Rattle.sh_iface_linalg.specs.Structured.{Form, Structured, inputs_at, kind_of_form, structured_meaning}
use Rattle.sh_iface_linalg.specs.Structured.{fill, matmul, batch_matmul, matvec, vecmat, dot, transpose, broadcast, reduce, generic}

-- which one a kind is, if it is one
abbrev pub form_of : OpKind → Option Form
form_of (Fill x) = Some fill
form_of (Matmul x) = Some matmul
form_of (BatchMatmul x) = Some batch_matmul
form_of (Matvec x) = Some matvec
form_of (Vecmat x) = Some vecmat
form_of (Dot x) = Some dot
form_of (Transpose x) = Some (transpose x.permutation)
form_of (Broadcast x) = Some (broadcast x.dimensions)
form_of (Constant x) = None
form_of (Binary x) = None
form_of (Compare x) = None
form_of (Select x) = None
form_of (Cast x) = None
form_of Empty = None
form_of (ExtractSlice x) = None
form_of (InsertSlice x) = None
form_of (CollapseShape x) = None
form_of (ExpandShape x) = None
form_of (Conv1d x) = None
form_of (Conv2d x) = None
form_of (Reduce x) = None
form_of (Generic x) = None
form_of (Sharding x) = None
form_of (Shard x) = None
form_of (AllGather x) = None
form_of (AllSlice x) = None
form_of (AllReduce x) = None
form_of (ReduceScatter x) = None
form_of (AllToAll x) = None
form_of (Shift x) = None
form_of (UpdateHalo x) = None
form_of (Take x) = None
form_of (Pad x) = None
form_of (Join x) = None
form_of (Call x) = None
form_of (Return x) = None

-- the kind of this form with these operands
abbrev pub kind_with : Form → InsOuts → OpKind
kind_with fill x = Fill x
kind_with matmul x = Matmul x
kind_with batch_matmul x = BatchMatmul x
kind_with matvec x = Matvec x
kind_with vecmat x = Vecmat x
kind_with dot x = Dot x
kind_with (transpose permutation) x =
    Transpose (record { ins_outs = x; permutation = permutation })
kind_with (broadcast dimensions) x = Broadcast (record { ins_outs = x; dimensions = dimensions })
kind_with (reduce first dimensions r) x =
    Reduce (record { ins_outs = x; dimensions = dimensions; body = r.body })
kind_with (generic maps iterators r) x = Generic (record {
  ins_outs = x;
  indexing_maps = maps;
  iterator_types = iterators;
  body = r.body;
})

-- it has a name of its own, and no region
abbrev pub IsNamed : Form → Type 0
IsNamed fill = Unit {0}
IsNamed matmul = Unit {0}
IsNamed batch_matmul = Unit {0}
IsNamed matvec = Unit {0}
IsNamed vecmat = Unit {0}
IsNamed dot = Unit {0}
IsNamed (transpose permutation) = Unit {0}
IsNamed (broadcast dimensions) = Unit {0}
IsNamed (reduce first dimensions r) = ⊥
IsNamed (generic maps iterators r) = ⊥

-- ---- as the code holds them

abbrev pub meant : LinalgKind → Form
meant linalg.Fill = fill
meant linalg.Matmul = matmul
meant linalg.BatchMatmul = batch_matmul
meant linalg.Matvec = matvec
meant linalg.Vecmat = vecmat
meant linalg.Dot = dot
meant (linalg.Transpose permutation) = transpose permutation.now
meant (linalg.Broadcast dimensions) = broadcast dimensions.now

abbrev pub loops_in : DimLoops → List ℕ
loops_in (Listed loops) = loops.now
loops_in (Places rank numbers) = places_in rank (as_naturals numbers.now)
loops_in (Unlisted bound numbers) = unlisted bound (as_naturals numbers.now)

abbrev pub count_unless : Bool → ℕ
count_unless listed = if listed then 0 else 1

-- ---- its parts

-- inputs of these loops and widths, as many as there are both
abbrev pub inputs_by : List (List ℕ) → List Width → List Operand
inputs_by [] ws = []
inputs_by (dims ∷ maps) [] = []
inputs_by (dims ∷ maps) (w ∷ ws) = record { dims = dims; width = w } ∷ inputs_by maps ws

-- the loop that is reduced is the last one
abbrev pub reduced_extents : Form → ℕ → List ℕ
reduced_extents form reduced = if is_some (kind_of_form form) then reduced ∷ [] else []

-- By the shape of the result, the extent of the loop that is reduced, if one is, and the widths of
-- the inputs and of the result.
abbrev pub structured_by : Form → List ℕ → ℕ → Width → Width → Width → Place → Structured
structured_by form shape reduced first second width place = record {
  form = form;
  extents = shape ++ reduced_extents form reduced;
  ins = inputs_by (inputs_at form (length shape) (length shape)) (first ∷ second ∷ []);
  out = record { dims = range_with_len 0 (length shape); width = width };
  captured = [];
  place = place;
}

-- of a value of the code's type
abbrev pub structured_of : LinalgKind → List Dim → ℕ → Width → Width → Width → Place → Structured
structured_of kind dims reduced first second width place =
    structured_by (meant kind) (map extent_of dims) reduced first second width place

abbrev pub meaning_by : LinalgKind → List Dim → ℕ → Width → Width → Width → Place → Meaning
meaning_by kind dims reduced first second width place =
    structured_meaning (structured_of kind dims reduced first second width place)

-- ---- with a region

-- the extent of a loop: that of the first dimension which follows it
abbrev pub extent_by : List (List ℕ) → List ℕ → List (List ℕ) → ℕ → ℕ
extent_by inputs output shapes l =
    extent_of_loop (all_followed (map single inputs ++ single output ∷ []) shapes) l

-- of loops that dimensions of these types follow so
abbrev pub regional_by : Form → ℕ → List (List ℕ) → List ℕ → List ValueType → ValueType → List Width
    → Place → Structured
regional_by form loops inputs output ins out scalars place = record {
  form = form;
  extents = map (extent_by inputs output (map shape_of (ins ++ out ∷ []))) (range_with_len 0 loops);
  ins = inputs_by inputs (map width_of ins);
  out = record { dims = output; width = width_of out };
  captured = scalars;
  place = place;
}
