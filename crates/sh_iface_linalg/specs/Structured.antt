-- Structured operations but convolutions, as plain data: fills, products, copies of cells, reductions
-- and generics.
use Rattle.std.specs.Prelude.{◌≡◌, ℕ, suc, ◌+◌, ◌-◌, ◌<◌, ◌≤◌, ◌&&◌, ◌||◌, Bool, true, false, ℤ, List, [], ◌∷◌, ◌++◌, map, take, drop, length, get_or, nat_le, nat_lt, Option, Some, None, is_some, if◌then◌else◌}
use Rattle.std.specs.List.{AllByRecursion, list_all, range_with_len}
use Rattle.std.specs.Cmp.Lexicographic.{pointwise}
use Rattle.sh_base.specs.Cells.{bits_of}
use Rattle.sh_base.specs.declared.numbers.Width.{Width}
use Rattle.sh_base.specs.declared.operations.Kind.{Kind}
use Rattle.sh_base.specs.declared.operations.Kind.TheVariants.{Sum}
use Rattle.sh_base.specs.declared.places.Place.{Place}
use Rattle.sh_base.specs.Shape.{max_cells, max_rank}
use Rattle.sh_grid.specs.Grid.{AreAxesOf, GridValue}
use Rattle.sh_int.specs.Reduction.{neutral_of}
use Rattle.sh_ir.specs.declared.arith_ops.Contents.TheVariants.{Held}
use Rattle.sh_ir.specs.declared.linalg_ops.AffineMap.{AffineMap}
use Rattle.sh_ir.specs.declared.linalg_ops.InsOuts.{InsOuts}
use Rattle.sh_ir.specs.declared.linalg_ops.IteratorType.{IteratorType}
use Rattle.sh_ir.specs.declared.operations.Op.{Op}
use Rattle.sh_ir.specs.declared.operations.OpKind.{OpKind}
use Rattle.sh_ir.specs.declared.operations.OpKind.TheVariants as op_kind
use Rattle.sh_ir.specs.declared.types.Dim.{Dim}
use Rattle.sh_ir.specs.declared.types.Dim.TheVariants.{Known}
use Rattle.sh_ir.specs.declared.types.ValueType.{ValueType}
use Rattle.sh_ir.specs.declared.types.ValueType.TheVariants.{Scalar}
use Rattle.sh_ir.specs.Limits.{max_inputs}
use Rattle.sh_ir.specs.Loops.{Step, by_region, copied, first_results, places_in, product_added, unlisted}
use Rattle.sh_ir.specs.Maps.{is_iterator, is_projection, is_used, last_of}
use Rattle.sh_ir.specs.Numbers.{are_axes_below, as_naturals, is_permutation}
use Rattle.sh_ir.specs.Regions.{is_among}
use Rattle.sh_nest_laws.specs.LoopSplits.{Operand, names}
use Rattle.sh_sharding.specs.LocalTypes.{local_dim}
use Rattle.sh_sharding.specs.declared.shardings.Dimension.{Dimension}
use Rattle.sh_sharding.specs.Sharding.{counted_cells}
use Rattle.sh_iface.specs.BodyKinds.{kind_of_body}
use Rattle.sh_iface.specs.declared.options.How.TheVariants.{Same}
use Rattle.sh_iface.specs.declared.parts.LocalPart.{LocalPart}
use Rattle.sh_iface.specs.Elements.{tensor_of}
use Rattle.sh_iface.specs.LoopNest.{Loop, LoopNest, NestValue}
use Rattle.sh_iface.specs.Meaning.{Meaning}
use Rattle.sh_iface.specs.Splits.{OptionValue, followed}
use Rattle.sh_iface.specs.Table.{follows}
use Rattle.sh_iface.specs.Whole.{whole_of}
use Rattle.sh_iface_linalg.specs.Bodies.{IsRegion, Region, renumbered}

-- which one it is, with the numbers that it writes
pub data Form : Type 0 where
  fill : Form
  matmul : Form
  batch_matmul : Form
  matvec : Form
  vecmat : Form
  dot : Form
  transpose : List ℤ → Form
  broadcast : List ℤ → Form
  reduce : ℕ → List ℤ → Region → Form  -- with the rank of its input
  generic : List AffineMap → List IteratorType → Region → Form

pub record Structured : Type 0 where
  pub form : Form
  pub extents : List ℕ  -- of the loops
  -- the inputs and the output: for each dimension the loop that it follows
  pub ins : List Operand
  pub out : Operand
  pub captured : List Width  -- of the scalars that its region uses
  pub place : Place

-- how many inputs these maps are for, the output's being the last
abbrev pub inputs_of_maps : List AffineMap → ℕ
inputs_of_maps maps = length maps - 1

-- ---- one line a form: by the ranks of the first input and of the output

abbrev pub loops_at : Form → ℕ → ℕ
loops_at fill rank = rank
loops_at matmul rank = 3
loops_at batch_matmul rank = 4
loops_at matvec rank = 2
loops_at vecmat rank = 2
loops_at dot rank = 1
loops_at (transpose permutation) rank = rank
loops_at (broadcast dimensions) rank = rank
loops_at (reduce first dimensions r) rank = first
loops_at (generic maps iterators r) rank = length iterators

abbrev pub inputs_at : Form → ℕ → ℕ → List (List ℕ)
inputs_at fill first rank = [] ∷ []
inputs_at matmul first rank = (0 ∷ 2 ∷ []) ∷ (2 ∷ 1 ∷ []) ∷ []
inputs_at batch_matmul first rank = (0 ∷ 1 ∷ 3 ∷ []) ∷ (0 ∷ 3 ∷ 2 ∷ []) ∷ []
inputs_at matvec first rank = (0 ∷ 1 ∷ []) ∷ (1 ∷ []) ∷ []
inputs_at vecmat first rank = (1 ∷ []) ∷ (1 ∷ 0 ∷ []) ∷ []
inputs_at dot first rank = (0 ∷ []) ∷ (0 ∷ []) ∷ []
inputs_at (transpose permutation) first rank = places_in first (as_naturals permutation) ∷ []
inputs_at (broadcast dimensions) first rank = unlisted rank (as_naturals dimensions) ∷ []
inputs_at (reduce own dimensions r) first rank = range_with_len 0 first ∷ []
inputs_at (generic maps iterators r) first rank =
    map (λ m. m.results) (take (inputs_of_maps maps) maps)

abbrev pub output_at : Form → ℕ → List ℕ
output_at fill rank = range_with_len 0 rank
output_at matmul rank = 0 ∷ 1 ∷ []
output_at batch_matmul rank = 0 ∷ 1 ∷ 2 ∷ []
output_at matvec rank = 0 ∷ []
output_at vecmat rank = 0 ∷ []
output_at dot rank = []
output_at (transpose permutation) rank = range_with_len 0 rank
output_at (broadcast dimensions) rank = range_with_len 0 rank
output_at (reduce first dimensions r) rank = unlisted first (as_naturals dimensions)
output_at (generic maps iterators r) rank = first_results (drop (inputs_of_maps maps) maps)

abbrev pub step_at : Form → Step
step_at fill = copied
step_at matmul = product_added
step_at batch_matmul = product_added
step_at matvec = product_added
step_at vecmat = product_added
step_at dot = product_added
step_at (transpose permutation) = copied
step_at (broadcast dimensions) = copied
step_at (reduce first dimensions r) = by_region r.body
step_at (generic maps iterators r) = by_region r.body

-- how the parts of a reduction are combined
abbrev pub kind_of_form : Form → Option Kind
kind_of_form fill = None
kind_of_form matmul = Some Sum
kind_of_form batch_matmul = Some Sum
kind_of_form matvec = Some Sum
kind_of_form vecmat = Some Sum
kind_of_form dot = Some Sum
kind_of_form (transpose permutation) = None
kind_of_form (broadcast dimensions) = None
kind_of_form (reduce first dimensions r) = kind_of_body r.body
kind_of_form (generic maps iterators r) = kind_of_body r.body

abbrev pub ins_outs_by : List ValueType → ValueType → InsOuts
ins_outs_by ins out = record {
  ins_count = length ins;
  ins_types = ins;
  outs_count = 1;
  outs_types = out ∷ [];
}

-- the operation on operands of these types
abbrev pub kind_at : Form → List ValueType → ValueType → OpKind
kind_at fill ins out = op_kind.Fill (ins_outs_by ins out)
kind_at matmul ins out = op_kind.Matmul (ins_outs_by ins out)
kind_at batch_matmul ins out = op_kind.BatchMatmul (ins_outs_by ins out)
kind_at matvec ins out = op_kind.Matvec (ins_outs_by ins out)
kind_at vecmat ins out = op_kind.Vecmat (ins_outs_by ins out)
kind_at dot ins out = op_kind.Dot (ins_outs_by ins out)
kind_at (transpose permutation) ins out = op_kind.Transpose (record {
  ins_outs = ins_outs_by ins out;
  permutation = permutation;
})
kind_at (broadcast dimensions) ins out = op_kind.Broadcast (record {
  ins_outs = ins_outs_by ins out;
  dimensions = dimensions;
})
kind_at (reduce first dimensions r) ins out = op_kind.Reduce (record {
  ins_outs = ins_outs_by ins out;
  dimensions = dimensions;
  body = r.body;
})
kind_at (generic maps iterators r) ins out = op_kind.Generic (record {
  ins_outs = ins_outs_by ins out;
  indexing_maps = maps;
  iterator_types = iterators;
  body = r.body;
})

-- under other names: its scalars from `first` on, the names of its region from `base` on
abbrev pub renumbered_form : ℕ → ℕ → Form → Form
renumbered_form first base fill = fill
renumbered_form first base matmul = matmul
renumbered_form first base batch_matmul = batch_matmul
renumbered_form first base matvec = matvec
renumbered_form first base vecmat = vecmat
renumbered_form first base dot = dot
renumbered_form first base (transpose permutation) = transpose permutation
renumbered_form first base (broadcast dimensions) = broadcast dimensions
renumbered_form first base (reduce own dimensions r) = reduce own dimensions (renumbered first base r)
renumbered_form first base (generic maps iterators r) =
    generic maps iterators (renumbered first base r)

-- a fill takes a scalar, the others take tensors
abbrev pub is_fill : Form → Bool
is_fill fill = true
is_fill matmul = false
is_fill batch_matmul = false
is_fill matvec = false
is_fill vecmat = false
is_fill dot = false
is_fill (transpose permutation) = false
is_fill (broadcast dimensions) = false
is_fill (reduce first dimensions r) = false
is_fill (generic maps iterators r) = false

abbrev pub multiplies : Width → List Width → Bool
multiplies w ins =
    nat_lt 1 (bits_of w)
    && (list_all (λ v. nat_lt 1 (bits_of v)) ins && list_all (λ v. nat_le (bits_of v) (bits_of w)) ins)

-- Two factors of a product are no wider than its output, and neither is `i1`; what is copied has the
-- width of the output.
abbrev pub FitsWidths : Form → Width → List Width → Type 0
FitsWidths fill w ins = ins ≡ w ∷ []
FitsWidths matmul w ins = multiplies w ins ≡ true
FitsWidths batch_matmul w ins = multiplies w ins ≡ true
FitsWidths matvec w ins = multiplies w ins ≡ true
FitsWidths vecmat w ins = multiplies w ins ≡ true
FitsWidths dot w ins = multiplies w ins ≡ true
FitsWidths (transpose permutation) w ins = ins ≡ w ∷ []
FitsWidths (broadcast dimensions) w ins = ins ≡ w ∷ []
FitsWidths (reduce first dimensions r) w ins = Unit {0}
FitsWidths (generic maps iterators r) w ins = Unit {0}

-- the region is in order, by the widths of the scalars that it uses
abbrev pub FitsRegion : Form → List Width → List Width → Width → Type 0
FitsRegion fill scalars ins w = scalars ≡ []
FitsRegion matmul scalars ins w = scalars ≡ []
FitsRegion batch_matmul scalars ins w = scalars ≡ []
FitsRegion matvec scalars ins w = scalars ≡ []
FitsRegion vecmat scalars ins w = scalars ≡ []
FitsRegion dot scalars ins w = scalars ≡ []
FitsRegion (transpose permutation) scalars ins w = scalars ≡ []
FitsRegion (broadcast dimensions) scalars ins w = scalars ≡ []
FitsRegion (reduce first dimensions r) scalars ins w = IsRegion r scalars ins w
FitsRegion (generic maps iterators r) scalars ins w = IsRegion r scalars ins w

-- The maps name each loop once, each loop is in one of them, and those of the output are parallel.
pub record AreMaps (maps : List AffineMap) (iterators : List IteratorType) : Type 0 where
  pub some : length maps ≡ inputs_of_maps maps + 1
  pub few : inputs_of_maps maps ≤ max_inputs true
  pub projections : list_all (is_projection (length iterators)) maps ≡ true
  pub used : list_all (is_used (map (λ m. m.results) maps)) (range_with_len 0 (length iterators)) ≡ true
  pub iterators_fit : pointwise
      (λ l iterator. is_iterator (is_among (last_of (map (λ m. m.results) maps)) l) iterator)
      (range_with_len 0 (length iterators)) iterators ≡ true

-- the numbers that are written are in order, by the ranks
abbrev pub FitsNumbers : Form → ℕ → ℕ → Type 0
FitsNumbers fill first rank = Unit {0}
FitsNumbers matmul first rank = Unit {0}
FitsNumbers batch_matmul first rank = Unit {0}
FitsNumbers matvec first rank = Unit {0}
FitsNumbers vecmat first rank = Unit {0}
FitsNumbers dot first rank = Unit {0}
FitsNumbers (transpose permutation) first rank =
    (is_permutation rank permutation ≡ true) × (first ≡ rank)
FitsNumbers (broadcast dimensions) first rank =
    (are_axes_below rank dimensions ≡ true) × (first + length dimensions ≡ rank)
FitsNumbers (reduce own dimensions r) first rank =
    (are_axes_below own dimensions ≡ true) × (own ≡ first)
    × (rank + length dimensions ≡ first)
FitsNumbers (generic maps iterators r) first rank = AreMaps maps iterators

-- ---- one that is in order

abbrev pub first_rank : List Operand → ℕ
first_rank [] = 0
first_rank (x ∷ ins) = length x.dims

abbrev pub shape_by : List ℕ → List ℕ → List ℕ
shape_by extents dims = map (λ l. get_or extents l 0) dims

-- its dimensions follow loops that are there, and it keeps the limits
pub record IsFollowing (extents : List ℕ) (x : Operand) : Type 0 where
  pub below : AllByRecursion (λ l. l < length extents) x.dims
  pub short : length x.dims ≤ max_rank
  pub small : counted_cells (shape_by extents x.dims) ≤ max_cells

-- an input or the output follows the loop
abbrev pub is_named : List Operand → Operand → ℕ → Bool
is_named [] out l = names out.dims l
is_named (x ∷ ins) out l = names x.dims l || is_named ins out l

pub record IsStructured (e : Structured) : Type 0 where
  pub loops : loops_at e.form (length e.out.dims) ≡ length e.extents
  pub inputs : inputs_at e.form (first_rank e.ins) (length e.out.dims) ≡ map (λ x. x.dims) e.ins
  pub output : output_at e.form (length e.out.dims) ≡ e.out.dims
  pub widths : FitsWidths e.form e.out.width (map (λ x. x.width) e.ins)
  pub region : FitsRegion e.form e.captured (map (λ x. x.width) e.ins) e.out.width
  pub numbers : FitsNumbers e.form (first_rank e.ins) (length e.out.dims)
  pub few : length e.extents ≤ max_rank
  pub ins : AllByRecursion (IsFollowing e.extents) e.ins
  pub out : IsFollowing e.extents e.out
  pub once : AreAxesOf (length e.extents) e.out.dims
  pub named : (l : ℕ) → l < length e.extents → is_named e.ins e.out l ≡ true

-- ---- as an operation, by the extents that types know of the loops

abbrev pub input_type : Form → List Dim → Width → ValueType
input_type form dims w = if is_fill form then Scalar w else tensor_of dims w

module _ (e : Structured) (dim : ℕ → Dim) where
  abbrev pub input_types : List ValueType
  input_types = map (λ x. input_type e.form (map dim x.dims) x.width) e.ins

  abbrev pub output_type : ValueType
  output_type = tensor_of (map dim e.out.dims) e.out.width

  -- the names of its region stand behind its own
  abbrev pub op_by : List ℕ → ℕ → Op
  op_by operands name = record {
    kind = kind_at (renumbered_form (length e.ins + 1) (name + 1) e.form) input_types output_type;
    operands = operands;
    defines = Some name;
    result = output_type;
    place = e.place;
  }

-- how many operands: the inputs, the output, and the scalars that its region uses
abbrev pub operands_in : Structured → ℕ
operands_in e = length e.ins + 1 + length e.captured

-- on whole tensors
abbrev pub known : List ℕ → ℕ → Dim
known extents l = Known (get_or extents l 0)

abbrev pub whole_op : Structured → Op
whole_op e = op_by e (known e.extents) (range_with_len 0 (operands_in e)) (operands_in e)

-- ---- its loops

abbrev pub value_by : List ℕ → Operand → NestValue
value_by extents x = record {
  dims = map (λ l. follows Same l (get_or extents l 0)) x.dims;
  width = x.width;
}

abbrev pub loop_by : Structured → ℕ → Loop
loop_by e l =
    let kind = if names e.out.dims l then None else kind_of_form e.form in
    record {
      extent = get_or e.extents l 0;
      splittable = names e.out.dims l || is_some kind;
      kind = kind;
    }

-- the inputs that are tensors
abbrev pub tensor_ins : Structured → List Operand
tensor_ins e = if is_fill e.form then [] else e.ins

-- the widths of the scalars, which stand behind the tensors
abbrev pub scalar_widths : Structured → List Width
scalar_widths e = if is_fill e.form then map (λ x. x.width) e.ins else e.captured

unfoldable pub structured_nest : Structured → LoopNest
structured_nest e = record {
  loops = map (loop_by e) (range_with_len 0 (length e.extents));
  operands = map (value_by e.extents) (tensor_ins e ++ e.out ∷ []);
  result = value_by e.extents e.out;
}

-- ---- its local part

-- how a loop is divided
abbrev pub loop_division : List ℕ → GridValue → OptionValue → ℕ → Dimension
loop_division extents g o l =
    followed g.extents extents o [] 0 (get_or extents l 0)
    (Some (record { loop_index = l; how = Same }))

-- the extent of a loop that all devices have in common, if there is one
abbrev pub local_loop : List ℕ → GridValue → OptionValue → ℕ → Dim
local_loop extents g o l = local_dim g.extents (loop_division extents g o l)

-- whether a reduction loop is split
abbrev pub splits_reduction : List Loop → OptionValue → Bool
splits_reduction [] o = false
splits_reduction (loop ∷ loops) [] = false
splits_reduction (loop ∷ loops) (x ∷ o) =
    (is_some loop.kind && is_some x) || splits_reduction loops o

-- a scalar of a fill stands first as it is written, and last in its local part
abbrev pub part_names : Structured → List ℕ
part_names e = if is_fill e.form then 1 ∷ 0 ∷ [] else range_with_len 0 (operands_in e)

-- the operands where parts are combined: these outs stand in place of the operands' own
abbrev pub reducing_names : Structured → ℕ → List ℕ
reducing_names e outs =
    range_with_len 0 (length e.ins) ++ outs
    ∷ range_with_len (length e.ins + 1) (length e.captured)

module _ (e : Structured) (dim : ℕ → Dim) where
  abbrev pub own_type : ValueType
  own_type = tensor_of (map dim e.out.dims) e.out.width

  -- a scalar constant, the neutral cell of the kind
  abbrev pub neutral_op : Kind → ℕ → Op
  neutral_op k name = record {
    kind = op_kind.Constant (record {
      value_type = Scalar e.out.width;
      contents = Held (neutral_of k e.out.width ∷ []);
    });
    operands = [];
    defines = Some name;
    result = Scalar e.out.width;
    place = e.place;
  }

  -- the outs, filled with it
  abbrev pub fill_op : ℕ → ℕ → Op
  fill_op outs name = record {
    kind = op_kind.Fill (ins_outs_by (Scalar e.out.width ∷ []) own_type);
    operands = name ∷ outs ∷ [];
    defines = Some (suc name);
    result = own_type;
    place = e.place;
  }

  -- where a reduction loop is split: the operation on these
  abbrev pub reducing_ops : Kind → List Op
  reducing_ops k =
      let count = operands_in e in
      neutral_op k count ∷ fill_op (length e.ins) count
      ∷ op_by e dim (reducing_names e (suc count)) (suc (suc count)) ∷ []

  abbrev pub part_by : Option Kind → LocalPart
  part_by None =
      record { ops = op_by e dim (part_names e) (operands_in e) ∷ []; combine = None }
  part_by (Some k) = record { ops = reducing_ops k; combine = Some k }

-- by which kind parts have to be combined, if they have
unfoldable pub combining_kind : Structured → OptionValue → Option Kind
combining_kind e o =
    if splits_reduction (structured_nest e).loops o then kind_of_form e.form else None

unfoldable pub structured_part : Structured → GridValue → OptionValue → LocalPart
structured_part e g o = part_by e (local_loop e.extents g o) (combining_kind e o)

abbrev pub structured_meaning : Structured → Meaning
structured_meaning e = record {
  nest = structured_nest e;
  scalars = scalar_widths e;
  whole = whole_of (whole_op e);
  place = e.place;
  part = structured_part e;
}
