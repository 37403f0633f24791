-- What the loop nest of a slice says of each loop and each dimension.
use Rattle.std.proofs.Common.{ap₂, ◌≡◌, ℕ, zero, suc, ◌+◌, ◌<◌, ◌≤◌, Bool, true, false, List, [], ◌∷◌, ◌++◌, map, length, None, refl, ap, sym, ◌∙◌, arith, subst}
use Rattle.std.proofs.lemmas.List.{length-map}
use Rattle.std.specs.List.{AllByRecursion}
use Rattle.std.specs.Prelude.{get_or, if◌then◌else◌, pos}
use Rattle.sh_base.specs.declared.numbers.Width.{Width}
use Rattle.sh_base.specs.declared.places.Place.{Place}
use Rattle.sh_grid.specs.Grid.{GridValue}
use Rattle.sh_ir.specs.declared.tensor_ops.Slice.{Slice}
use Rattle.sh_ir.specs.declared.types.Dim.{Dim}
use Rattle.sh_ir.specs.Numbers.{as_naturals}
use Rattle.sh_ir.specs.Shapes.{extent_of}
use Rattle.sh_sem.specs.Slices.{Range}
use Rattle.sh_base.specs.Shape.{max_cells}
use Rattle.sh_sharding.specs.declared.shardings.Dimension.{Dimension}
use Rattle.sh_sharding.specs.Sharding.{HasNoHalos, ShardingValue, counted_cells, unsplit}
use Rattle.sh_sharding.proofs.PartLaws.{extents_few}
use Rattle.sh_ir.specs.declared.operations.Op.{Op}
use Rattle.sh_iface.specs.Splits.{OptionValue, implied_of}
use Rattle.sh_iface.proofs.Implied.{plain-implied}
use Rattle.sh_iface.specs.LoopNest.{HasNoWindows, IsPlainNest, Loop, NestDim, NestValue, dim_at, loop_at, value_at}
use Rattle.sh_iface.specs.Table.{parallel, takes_whole}
use Rattle.sh_iface_tensor.specs.declared.slices.SliceKind.{SliceKind}
use Rattle.sh_iface_tensor.specs.declared.slices.SliceKind.TheVariants.{Extract, Insert}
use Rattle.sh_iface_tensor.specs.FollowLists.{dim_in, length_loops, length_some, loop_in, may_follow}
use Rattle.sh_iface_tensor.specs.SliceLaws.{naturals_written, slice_by_test, slice_test, sliced_by as sliced_by_test, sliced_test}
use Rattle.sh_iface_tensor.specs.SliceLawful.{plain_slice, plain_sliced}
use Rattle.sh_iface_tensor.specs.SliceOf.{IsSliceRead, follows_at, is_sliced, sliced_by}
use Rattle.sh_iface_tensor.specs.Slices.{Sliced, extents_of, is_whole, local_op, loop_extents_by, offsets_of, operand_count, operands_by, result_by, sizes_of, slice_value, sliced_nest, sliced_part, sliced_value, strides_of}

value_is : (kind : SliceKind) (a b : NestValue) (v : ℕ) → get_or (operands_by kind a b) v (result_by kind a b) ≡ (if is_sliced kind v then a else b)
value_is Extract a b zero = refl
value_is Extract a b (suc v) = refl
value_is Insert a b zero = refl
value_is Insert a b (suc zero) = refl
value_is Insert a b (suc (suc v)) = refl

module _ (kind : SliceKind) (slice : Slice) (dims : List Dim) (w : Width) (place : Place) (read : IsSliceRead kind slice dims w place) where
  abbrev x : Sliced
  x = sliced_by kind slice dims w place

  pub ranges_counted : length x.ranges ≡ length dims
  ranges_counted = sym (length-map x.ranges (λ r. r.extent)) ∙ ap length read.extents ∙ length-map dims extent_of

  pub whole_alike : (i : ℕ) → is_whole x.ranges i ≡ takes_whole slice (map extent_of dims) i
  whole_alike i = λ j. takes_whole (record { offsets = read.offsets j; sizes = read.sizes j; strides = read.strides j }) (read.extents j) i

  pub sizes_counted : length (sizes_of x.ranges) ≡ length dims
  sizes_counted = length-map x.ranges (λ r. r.size) ∙ ranges_counted

  loop_extents_counted : (k : SliceKind) → length (loop_extents_by k x.ranges) ≡ length dims
  loop_extents_counted Extract = sizes_counted
  loop_extents_counted Insert = length-map x.ranges (λ r. r.extent) ∙ ranges_counted

  pub loops_counted : length (sliced_nest x).loops ≡ length dims
  unfolding sliced_nest
  loops_counted = length_loops (is_whole x.ranges) 0 (loop_extents_by kind x.ranges) ∙ loop_extents_counted kind

  pub operands_counted : length (sliced_nest x).operands ≡ operand_count kind
  unfolding sliced_nest
  operands_counted = go kind (sliced_value x) (slice_value x)
    where
      go : (k : SliceKind) (a b : NestValue) → length (operands_by k a b) ≡ operand_count k
      go Extract a b = refl
      go Insert a b = refl

  pub loop_is : (l : ℕ) → l < length dims → loop_at (sliced_nest x) l ≡ parallel (takes_whole slice (map extent_of dims) l) (get_or (loop_extents_by kind x.ranges) l 0)
  unfolding sliced_nest
  loop_is l below =
      let n = loop_extents_counted kind in
      let first : 0 + l ≡ l = omega arith in
      loop_in (is_whole x.ranges) 0 (loop_extents_by kind x.ranges) l (record { extent = 0; splittable = false; kind = None }) (omega (arith, n, below))
      ∙ ap (λ k. parallel (is_whole x.ranges k) (get_or (loop_extents_by kind x.ranges) l 0)) first
      ∙ ap (λ b. parallel b (get_or (loop_extents_by kind x.ranges) l 0)) (whole_alike l)

  abbrev extents_at : Bool → List ℕ
  extents_at b = if b then extents_of x.ranges else sizes_of x.ranges

  value_counted : (b : Bool) → length (if b then sliced_value x else slice_value x).dims ≡ length dims
  value_counted true = ap length (sym (sliced_by_test kind x.ranges)) ∙ length_some (sliced_test kind x.ranges) 0 (extents_of x.ranges) ∙ length-map x.ranges (λ r. r.extent) ∙ ranges_counted
  value_counted false = ap length (sym (slice_by_test kind x.ranges)) ∙ length_some (slice_test kind x.ranges) 0 (sizes_of x.ranges) ∙ sizes_counted

  value_of : (v : ℕ) → value_at (sliced_nest x) v ≡ (if is_sliced kind v then sliced_value x else slice_value x)
  unfolding sliced_nest
  value_of v = value_is kind (sliced_value x) (slice_value x) v

  pub dims_counted : (v : ℕ) → length (value_at (sliced_nest x) v).dims ≡ length dims
  dims_counted v = ap (λ (y : NestValue). length y.dims) (value_of v) ∙ value_counted (is_sliced kind v)

  pub loop_below : (l : ℕ) → l < length (sliced_nest x).loops → l < length dims
  loop_below l le = let n = loops_counted in omega (arith, n, le)

  pub dim_below : (v i : ℕ) → i < length (value_at (sliced_nest x) v).dims → i < length dims
  dim_below v i le = let n = dims_counted v in omega (arith, n, le)

  tests_are : (k : SliceKind) (v i : ℕ) → (if is_sliced k v then sliced_test k x.ranges i else slice_test k x.ranges i) ≡ follows_at (is_whole x.ranges) v i
  tests_are Extract zero i = refl
  tests_are Extract (suc v) i = refl
  tests_are Insert zero i = refl
  tests_are Insert (suc v) i = refl

  dim_of : (b : Bool) (i : ℕ) → i < length dims → dim_at (if b then sliced_value x else slice_value x) i ≡ may_follow (if b then sliced_test kind x.ranges i else slice_test kind x.ranges i) i (get_or (extents_at b) i 0)
  dim_of true i below =
      let n = length-map x.ranges (λ r. r.extent) ∙ ranges_counted in
      let first : 0 + i ≡ i = omega arith in
      ap (λ ds. get_or ds i (record { extent = 0; follow = None })) (sym (sliced_by_test kind x.ranges))
      ∙ dim_in (sliced_test kind x.ranges) 0 (extents_of x.ranges) i (record { extent = 0; follow = None }) (omega (arith, n, below))
      ∙ ap (λ k. may_follow (sliced_test kind x.ranges k) k (get_or (extents_of x.ranges) i 0)) first
  dim_of false i below =
      let n = sizes_counted in
      let first : 0 + i ≡ i = omega arith in
      ap (λ ds. get_or ds i (record { extent = 0; follow = None })) (sym (slice_by_test kind x.ranges))
      ∙ dim_in (slice_test kind x.ranges) 0 (sizes_of x.ranges) i (record { extent = 0; follow = None }) (omega (arith, n, below))
      ∙ ap (λ k. may_follow (slice_test kind x.ranges k) k (get_or (sizes_of x.ranges) i 0)) first

  whole_at : (v i : ℕ) → follows_at (is_whole x.ranges) v i ≡ follows_at (takes_whole slice (map extent_of dims)) v i
  whole_at zero i = whole_alike i
  whole_at (suc v) i = refl

  pub dim_is : (v i : ℕ) → i < length dims → dim_at (value_at (sliced_nest x) v) i ≡ may_follow (follows_at (takes_whole slice (map extent_of dims)) v i) i (get_or (extents_at (is_sliced kind v)) i 0)
  dim_is v i below =
      ap (λ (y : NestValue). dim_at y i) (value_of v)
      ∙ dim_of (is_sliced kind v) i below
      ∙ ap (λ b. may_follow b i (get_or (extents_at (is_sliced kind v)) i 0)) (tests_are kind v i ∙ whole_at v i)

  -- no value is read through a window
  pub plain_nest : IsPlainNest (sliced_nest x)
  unfolding sliced_nest
  plain_nest = go kind
    where
      go : (k : SliceKind) → AllByRecursion HasNoWindows (operands_by k (sliced_value x) (slice_value x)) × HasNoWindows (result_by k (sliced_value x) (slice_value x))
      go Extract = ((plain_sliced kind x.ranges w, tt), plain_slice kind x.ranges w)
      go Insert = ((plain_slice kind x.ranges w, (plain_sliced kind x.ranges w, tt)), plain_sliced kind x.ranges w)

  pub plain_value : (v : ℕ) → HasNoWindows (value_at (sliced_nest x) v)
  plain_value v = subst HasNoWindows (sym (value_of v)) (go (is_sliced kind v))
    where
      go : (b : Bool) → HasNoWindows (if b then sliced_value x else slice_value x)
      go true = plain_sliced kind x.ranges w
      go false = plain_slice kind x.ranges w

-- ---- extents

few_at : (shape : List ℕ) (i : ℕ) → AllByRecursion (λ (d : Dimension). d.extent ≤ max_cells) (map unsplit shape) → get_or shape i 0 ≤ max_cells
few_at [] i h = omega arith
few_at (n ∷ shape) zero h = h.0
few_at (n ∷ shape) (suc i) h = few_at shape i h.1

extents-whole : (shape : List ℕ) → map (λ (d : Dimension). d.extent) (map unsplit shape) ≡ shape
extents-whole [] = refl
extents-whole (n ∷ shape) = ap (λ ns. n ∷ ns) (extents-whole shape)

pub small_at : (shape : List ℕ) (i : ℕ) → counted_cells shape ≤ max_cells → get_or shape i 0 ≤ max_cells
small_at shape i small = few_at shape i (extents_few (map unsplit shape) max_cells (subst (λ ns. counted_cells ns ≤ max_cells) (sym (extents-whole shape)) small))

module _ (kind : SliceKind) (slice : Slice) (dims : List Dim) (w : Width) (place : Place) (read : IsSliceRead kind slice dims w place) where
  abbrev ranges : List Range
  ranges = (sliced_by kind slice dims w place).ranges

  pub natural_sizes : as_naturals slice.sizes ≡ sizes_of ranges
  natural_sizes = ap as_naturals (sym read.sizes) ∙ naturals_written (sizes_of ranges)

  pub size_is : (i : ℕ) → get_or (as_naturals slice.sizes) i 0 ≡ get_or (sizes_of ranges) i 0
  size_is i = ap (λ ns. get_or ns i 0) natural_sizes

  pub size_small : (i : ℕ) → get_or (as_naturals slice.sizes) i 0 ≤ max_cells
  size_small i = subst (λ n. n ≤ max_cells) (sym (size_is i)) (small_at (sizes_of ranges) i read.sliced.sizes)

  pub extent_is : (i : ℕ) → get_or (map extent_of dims) i 0 ≡ get_or (extents_of ranges) i 0
  extent_is i = ap (λ ns. get_or ns i 0) (sym read.extents)

  -- the numbers of the slice stand for each dimension
  pub offsets_counted : length slice.offsets ≡ length dims
  offsets_counted = ap length (sym read.offsets) ∙ length-map (offsets_of ranges) (λ n. pos n) ∙ length-map ranges (λ r. r.offset) ∙ ranges_counted kind slice dims w place read

  pub strides_counted : length slice.strides ≡ length dims
  strides_counted = ap length (sym read.strides) ∙ length-map (strides_of ranges) (λ n. pos n) ∙ length-map ranges (λ r. r.stride) ∙ ranges_counted kind slice dims w place read

  pub written_sizes_counted : length slice.sizes ≡ length dims
  written_sizes_counted = ap length (sym read.sizes) ∙ length-map (sizes_of ranges) (λ n. pos n) ∙ sizes_counted kind slice dims w place read

  pub loop_extent_is : (l : ℕ) → l < length dims → get_or (loop_extents_by kind ranges) l 0 ≡ (loop_at (sliced_nest (sliced_by kind slice dims w place)) l).extent
  loop_extent_is l below = ap (λ (y : Loop). y.extent) (sym (loop_is kind slice dims w place read l below))

  extent_by : (b : Bool) (i n : ℕ) → (may_follow b i n).extent ≡ n
  extent_by true i n = refl
  extent_by false i n = refl

  dim_extent_is : (v i : ℕ) (b : Bool) → is_sliced kind v ≡ b → i < length dims → get_or (if b then extents_of ranges else sizes_of ranges) i 0 ≡ (dim_at (value_at (sliced_nest (sliced_by kind slice dims w place)) v) i).extent
  dim_extent_is v i b same below =
      ap (λ c. get_or (if c then extents_of ranges else sizes_of ranges) i 0) (sym same)
      ∙ sym (extent_by (follows_at (takes_whole slice (map extent_of dims)) v i) i (get_or (if is_sliced kind v then extents_of ranges else sizes_of ranges) i 0))
      ∙ ap (λ (d : NestDim). d.extent) (sym (dim_is kind slice dims w place read v i below))

  pub extent_of_sliced : (v i : ℕ) → is_sliced kind v ≡ true → i < length dims → get_or (map extent_of dims) i 0 ≡ (dim_at (value_at (sliced_nest (sliced_by kind slice dims w place)) v) i).extent
  extent_of_sliced v i same below = extent_is i ∙ dim_extent_is v i true same below

  pub extent_of_slice : (v i : ℕ) → is_sliced kind v ≡ false → i < length dims → get_or (sizes_of ranges) i 0 ≡ (dim_at (value_at (sliced_nest (sliced_by kind slice dims w place)) v) i).extent
  extent_of_slice v i same below = dim_extent_is v i false same below

  pub follow_is : (v i : ℕ) (b : Bool) → b ≡ follows_at (takes_whole slice (map extent_of dims)) v i → i < length dims → (may_follow b i 0).follow ≡ (dim_at (value_at (sliced_nest (sliced_by kind slice dims w place)) v) i).follow
  follow_is v i b same below =
      ap (λ c. (may_follow c i 0).follow) same
      ∙ any_extent (follows_at (takes_whole slice (map extent_of dims)) v i) i 0 (get_or (if is_sliced kind v then extents_of ranges else sizes_of ranges) i 0)
      ∙ ap (λ (d : NestDim). d.follow) (sym (dim_is kind slice dims w place read v i below))
    where
      any_extent : (c : Bool) (i m n : ℕ) → (may_follow c i m).follow ≡ (may_follow c i n).follow
      any_extent true i m n = refl
      any_extent false i m n = refl

  -- ---- the local part

  pub at_most : (v : ℕ) → v ≤ operand_count kind → v ≤ length (sliced_nest (sliced_by kind slice dims w place)).operands
  at_most v le = let n = operands_counted kind slice dims w place read in omega (arith, n, le)

  implied_at : (g : GridValue) (o : OptionValue) (v : ℕ) (b : Bool) → is_sliced kind v ≡ b
      → implied_of g (sliced_nest (sliced_by kind slice dims w place)) o (value_at (sliced_nest (sliced_by kind slice dims w place)) v)
      ≡ implied_of g (sliced_nest (sliced_by kind slice dims w place)) o (if b then sliced_value (sliced_by kind slice dims w place) else slice_value (sliced_by kind slice dims w place))
  implied_at g o v b same =
      ap (implied_of g (sliced_nest (sliced_by kind slice dims w place)) o)
      (value_of kind slice dims w place read v ∙ ap (λ (c : Bool). if c then sliced_value (sliced_by kind slice dims w place) else slice_value (sliced_by kind slice dims w place)) same)

  pub part_is : (g : GridValue) (o : OptionValue) (a b : ℕ) (s p : ShardingValue) (ops old : List Op) → is_sliced kind a ≡ true → is_sliced kind b ≡ false
      → s ≡ implied_of g (sliced_nest (sliced_by kind slice dims w place)) o (value_at (sliced_nest (sliced_by kind slice dims w place)) a)
      → p ≡ implied_of g (sliced_nest (sliced_by kind slice dims w place)) o (value_at (sliced_nest (sliced_by kind slice dims w place)) b)
      → old ≡ [] → ops ≡ old ++ local_op (sliced_by kind slice dims w place) s p ∷ []
      → ops ≡ (sliced_part (sliced_by kind slice dims w place) g o).ops
  part_is g o a b s p ops old first second e f none made =
      made
      ∙ ap (λ xs. xs ++ local_op (sliced_by kind slice dims w place) s p ∷ []) none
      ∙ ap₂ (λ t q. local_op (sliced_by kind slice dims w place) t q ∷ []) (e ∙ implied_at g o a true first) (f ∙ implied_at g o b false second)

  pub no_halos : (g : GridValue) (o : OptionValue) (v : ℕ) (s : ShardingValue) → s ≡ implied_of g (sliced_nest (sliced_by kind slice dims w place)) o (value_at (sliced_nest (sliced_by kind slice dims w place)) v)
      → HasNoHalos s.dimensions
  no_halos g o v s e =
      subst (λ (t : ShardingValue). HasNoHalos t.dimensions) (sym e)
      (plain-implied g (sliced_nest (sliced_by kind slice dims w place)) o (value_at (sliced_nest (sliced_by kind slice dims w place)) v) (plain_value kind slice dims w place read v))
