-- A verified slice is one of the slices of the laws, and its interface is that of the table.
use Rattle.std.proofs.Common.{ap₂, ◌≡◌, ℕ, ◌≤◌, Bool, true, false, ◌&&◌, List, [], ◌∷◌, ◌++◌, map, length, Option, Some, refl, ap, sym, ◌∙◌, arith, subst}
use Rattle.std.proofs.lemmas.Bool.Decides.{nat_tests}
use Rattle.std.proofs.lemmas.List.{append-nil, length-map}
use Rattle.std.specs.List.{list_all}
use Rattle.std.specs.Prelude.{◌||◌, drop, nat_eq, not, take}
use Rattle.sh_base.specs.Cells.{bits_of}
use Rattle.sh_base.specs.declared.numbers.Width.{Width}
use Rattle.sh_base.specs.declared.places.Place.{Place}
use Rattle.sh_base.specs.declared.rules.Rule.TheVariants.{V5}
use Rattle.sh_base.specs.Shape.{max_cells, max_rank}
use Rattle.sh_ir.specs.declared.operations.Op.{Op}
use Rattle.sh_ir.specs.declared.operations.OpKind.{OpKind}
use Rattle.sh_ir.specs.declared.operations.OpKind.TheVariants.{ExtractSlice, InsertSlice}
use Rattle.sh_ir.specs.declared.tensor_ops.ExtractSlice as declared_extract_slice
use Rattle.sh_ir.specs.declared.tensor_ops.InsertSlice as declared_insert_slice
use Rattle.sh_ir.specs.declared.tensor_ops.Slice.{Slice}
use Rattle.sh_ir.specs.declared.types.Dim.{Dim}
use Rattle.sh_ir.specs.declared.types.Dim.TheVariants.{Known}
use Rattle.sh_ir.specs.declared.types.ValueType.{ValueType}
use Rattle.sh_ir.specs.Agreement.{cell_bits, dims_of, shapes_agree}
use Rattle.sh_ir.specs.Attributes.{numbers_fit, slice_fits, sliced_dims}
use Rattle.sh_ir.specs.Formed.{is_not_negative}
use Rattle.sh_ir.specs.Numbers.{are_naturals, are_positive, as_naturals, is_positive}
use Rattle.sh_ir.specs.Operands.{is_part_of, operands_fit}
use Rattle.sh_ir.specs.Results.{is_slice, result_fits}
use Rattle.sh_ir.specs.Rules.{keeps}
use Rattle.sh_ir.specs.Shapes.{extent_of}
use Rattle.sh_ir.specs.Typing.{tensor_types}
use Rattle.sh_ir.proofs.KeptLaws.{kept_here}
use Rattle.sh_sem.specs.Given.{alone, cell_given, given, giving, shape_given}
use Rattle.sh_sem.specs.Scalars.{width_of}
use Rattle.sh_sem.specs.Slices.{Range}
use Rattle.sh_sharding.specs.Sharding.{counted_cells}
use Rattle.sh_tensor.specs.Tensor.{TensorValue}
use Rattle.sh_iface.specs.Elements.{known_dims, tensor_of}
use Rattle.sh_iface.specs.LoopNest.{LoopNest, NestValue}
use Rattle.sh_iface.specs.Meaning.{operand_count}
use Rattle.sh_iface.specs.Table.{each_follows, loops_where, nest_of, some_follow, takes_whole}
use Rattle.sh_iface.specs.Verified.{IsOfVerified}
use Rattle.sh_iface.specs.Whole.{IsInterfaceOf, leading_scalars, part_operands, whole_of}
use Rattle.sh_iface.proofs.ElementOf.{both, extents_known, in_order, sound, source_types}
use Rattle.sh_iface_tensor.specs.declared.slices.SliceKind.{SliceKind}
use Rattle.sh_iface_tensor.specs.declared.slices.SliceKind.TheVariants.{Extract, Insert}
use Rattle.sh_iface_tensor.specs.SliceOf.{IsSliceRead, meaning_by, ranges_from}
use Rattle.sh_iface_tensor.specs.Slices.{IsSliced, Sliced, extents_of, kind_at, operand_count as slice_operands, operands_by, result_by, sizes_of, slice_by, slice_value, sliced_meaning, sliced_nest, sliced_value, whole_op}
use Rattle.sh_iface_tensor.specs.SliceLaws.{naturals_written}
use Rattle.sh_iface_tensor.proofs.SliceReads.{IsReadList, one_width, read_list, sizes_are}

-- ---- the numbers

record IsOrder (x : Slice) (ns : List ℕ) : Type 0 where
  list : IsReadList ns x.offsets x.sizes x.strides
  counted : length x.sizes ≡ length ns

same_count : (m n : ℕ) → nat_eq m n ≡ true → m ≡ n
same_count m n h = grind (arith, nat_tests)

order : (x : Slice) (ns : List ℕ) → slice_fits x (known_dims ns) ≡ true → IsOrder x ns
unfolding slice_fits
order x ns h =
    let n = length-map ns (λ n. Known n) in
    let a = both (are_naturals (length (known_dims ns)) x.offsets) _ h in
    let b = both (are_positive (length (known_dims ns)) x.sizes) _ a.1 in
    let c = both (are_positive (length (known_dims ns)) x.strides) _ b.1 in
    let a' = both (nat_eq (length x.offsets) (length (known_dims ns))) (list_all is_not_negative x.offsets) a.0 in
    let b' = both (nat_eq (length x.sizes) (length (known_dims ns))) (list_all is_positive x.sizes) b.0 in
    let c' = both (nat_eq (length x.strides) (length (known_dims ns))) (list_all is_positive x.strides) c.0 in
    let sizes : length x.sizes ≡ length ns = same_count (length x.sizes) (length (known_dims ns)) b'.0 ∙ n in
    record {
      list = read_list ns x.offsets x.sizes x.strides
          (same_count (length x.offsets) (length (known_dims ns)) a'.0 ∙ n) sizes (same_count (length x.strides) (length (known_dims ns)) c'.0 ∙ n)
          a'.1 b'.1 c'.1 c.1;
      counted = sizes;
    }

-- ---- the interface of a slice

abbrev nest_by : SliceKind → Slice → List ℕ → List ℕ → Width → LoopNest
nest_by Extract x e s w = record {
  loops = loops_where (takes_whole x e) 0 s;
  operands = record { dims = some_follow (takes_whole x e) 0 e; width = w } ∷ [];
  result = record { dims = each_follows 0 s; width = w };
}
nest_by Insert x e s w = record {
  loops = loops_where (takes_whole x e) 0 e;
  operands = record { dims = some_follow (takes_whole x e) 0 s; width = w } ∷ record { dims = each_follows 0 e; width = w } ∷ [];
  result = record { dims = each_follows 0 e; width = w };
}

table_at : (kind : SliceKind) (rs : List Range) (w : Width) (e s : List ℕ) → nest_of (kind_at kind rs (sizes_of rs) w (known_dims e) (known_dims s)) (tensor_of (result_by kind (known_dims e) (known_dims s)) w)
    ≡ Some (nest_by kind (slice_by rs (sizes_of rs)) (map extent_of (known_dims e)) (map extent_of (known_dims s)) w)
unfolding nest_of
table_at Extract rs w e s = refl
table_at Insert rs w e s = refl

nest_is : (kind : SliceKind) (rs : List Range) (w : Width) (place : Place) → nest_by kind (slice_by rs (sizes_of rs)) (extents_of rs) (sizes_of rs) w ≡ sliced_nest (record { what = kind; ranges = rs; width = w; place = place })
unfolding sliced_nest
nest_is Extract rs w place = refl
nest_is Insert rs w place = refl

-- an operation that is this slice on whole tensors
record IsSliceOf (op : Op) (x : Sliced) : Type 0 where
  kind : op.kind ≡ kind_at x.what x.ranges (sizes_of x.ranges) x.width (known_dims (extents_of x.ranges)) (known_dims (sizes_of x.ranges))
  result : op.result ≡ tensor_of (result_by x.what (known_dims (extents_of x.ranges)) (known_dims (sizes_of x.ranges))) x.width
  place : x.place ≡ op.place
  operands : length op.operands ≡ slice_operands x.what

none_leading : (kind : SliceKind) (rs : List Range) (ks : List ℕ) (w : Width) (a b : List Dim) → leading_scalars (kind_at kind rs ks w a b) ≡ 0
none_leading Extract rs ks w a b = refl
none_leading Insert rs ks w a b = refl

given_alike : (kind : SliceKind) (rs : List Range) (ks : List ℕ) (w : Width) (a b : List Dim) (xs ys : List ℕ) (x y : Option ℕ) (p q : Place) (ts : List TensorValue)
    → given (record { kind = kind_at kind rs ks w a b; operands = xs; defines = x; result = tensor_of (result_by kind a b) w; place = p }) alone ts
    ≡ given (record { kind = kind_at kind rs ks w a b; operands = ys; defines = y; result = tensor_of (result_by kind a b) w; place = q }) alone ts
unfolding given shape_given cell_given giving
given_alike Extract rs ks w a b xs ys x y p q ts = refl
given_alike Insert rs ks w a b xs ys x y p q ts = refl

counted_operands : (kind : SliceKind) (a b : NestValue) → length (operands_by kind a b) ≡ slice_operands kind
counted_operands Extract a b = refl
counted_operands Insert a b = refl

module _ (op : Op) (x : Sliced) (is : IsSliceOf op x) where
  abbrev e : List Dim
  e = known_dims (extents_of x.ranges)

  abbrev s : List Dim
  s = known_dims (sizes_of x.ranges)

  none : leading_scalars op.kind ≡ 0
  none = ap leading_scalars is.kind ∙ none_leading x.what x.ranges (sizes_of x.ranges) x.width e s

  table_is : nest_of op.kind op.result ≡ Some (sliced_nest x)
  table_is =
      ap₂ nest_of is.kind is.result
      ∙ table_at x.what x.ranges x.width (extents_of x.ranges) (sizes_of x.ranges)
      ∙ ap₂ (λ a b. Some (nest_by x.what (slice_by x.ranges (sizes_of x.ranges)) a b x.width)) (extents_known (extents_of x.ranges)) (extents_known (sizes_of x.ranges))
      ∙ ap (λ (n : LoopNest). Some n) (nest_is x.what x.ranges x.width x.place)

  whole_is : (ts : List TensorValue) → given (whole_op x) alone ts ≡ whole_of op ts
  unfolding whole_of
  whole_is ts =
      let same : given op alone ts ≡ given (whole_op x) alone ts =
      ap₂ (λ k r. given (record { kind = k; operands = op.operands; defines = op.defines; result = r; place = op.place }) alone ts) is.kind is.result
      ∙ given_alike x.what x.ranges (sizes_of x.ranges) x.width e s op.operands (whole_op x).operands op.defines (whole_op x).defines op.place x.place ts in
      sym same ∙ ap (given op alone) (sym (in_order (leading_scalars op.kind) ts none))

  counted_is : length (part_operands op) ≡ operand_count (sliced_meaning x)
  unfolding sliced_nest
  counted_is =
      let all : length (part_operands op) ≡ length (op.operands ++ []) = ap (λ k. length (drop k op.operands ++ take k op.operands)) none in
      let plain : length (op.operands ++ []) ≡ length op.operands = ap length (append-nil op.operands) in
      let counted = counted_operands x.what (sliced_value x) (slice_value x) in
      let operands = is.operands in
      omega (arith, all, plain, counted, operands)

  -- Its interface is that of the table, and gives what it gives.
  slice_interface : IsInterfaceOf op (sliced_meaning x)
  slice_interface = record {
    nest = table_is;
    whole = whole_is;
    counted = counted_is;
    place = is.place;
  }

-- ---- kind by kind

-- what is read of it is in order, and it has that interface
pub record IsSliceFound (op : Op) (kind : SliceKind) (slice : Slice) (dims : List Dim) (width : Width) (place : Place) : Type 0 where
  pub read : IsSliceRead kind slice dims width place
  pub interface : IsInterfaceOf op (meaning_by kind slice dims width place)

abbrev ranges_by : Slice → List ℕ → List Range
ranges_by x n = ranges_from n (as_naturals x.offsets) (as_naturals x.sizes) (as_naturals x.strides)

sizes_from : (x : Slice) (n : List ℕ) → IsReadList n x.offsets x.sizes x.strides → sizes_of (ranges_by x n) ≡ as_naturals x.sizes
sizes_from x n list = sym (naturals_written (sizes_of (ranges_by x n))) ∙ ap as_naturals list.sizes

-- the same, of any list that is these extents
record IsRead (kind : SliceKind) (x : Slice) (w : Width) (place : Place) (n : List ℕ) : Type 0 where
  sliced : IsSliced (record { what = kind; ranges = ranges_by x n; width = w; place = place })
  list : IsReadList n x.offsets x.sizes x.strides

read_by : (kind : SliceKind) (x : Slice) (n : List ℕ) (k : List ℕ) (w : Width) (place : Place) → IsReadList n x.offsets x.sizes x.strides → as_naturals x.sizes ≡ k
    → length n ≤ max_rank → counted_cells n ≤ max_cells → counted_cells k ≤ max_cells → IsSliceRead kind x (known_dims n) w place
read_by kind x n k w place list sizes short small few =
    let rs = ranges_by x n in
    let ranks : length rs ≡ length n = sym (length-map rs (λ r. r.extent)) ∙ ap length list.extents in
    let made : IsRead kind x w place n = record {
      sliced = record {
        each = list.ranges;
        short = omega (arith, ranks, short);
        extents = subst (λ m. counted_cells m ≤ max_cells) (sym list.extents) small;
        sizes = subst (λ m. counted_cells m ≤ max_cells) (sym (sizes_from x n list ∙ sizes)) few;
      };
      list = list;
    } in
    let there : IsRead kind x w place (map extent_of (known_dims n)) = subst (IsRead kind x w place) (sym (extents_known n)) made in
    record {
      sliced = there.sliced;
      extents = there.list.extents;
      offsets = there.list.offsets;
      sizes = there.list.sizes;
      strides = there.list.strides;
    }

slice_is : (x : Slice) (n : List ℕ) → IsReadList n x.offsets x.sizes x.strides → slice_by (ranges_by x n) (sizes_of (ranges_by x n)) ≡ x
slice_is x n list = λ j. record { offsets = list.offsets j; sizes = list.sizes j; strides = list.strides j }

ranges_alike : (x : Slice) (n : List ℕ) → ranges_by x (map extent_of (known_dims n)) ≡ ranges_by x n
ranges_alike x n = ap (ranges_by x) (extents_known n)

module _ (operands : List ℕ) (defines : Option ℕ) (place : Place) (x : Slice) (e s : List ℕ) (w : Width) (list : IsReadList e x.offsets x.sizes x.strides) (sizes : as_naturals x.sizes ≡ s) where
  abbrev rs : List Range
  rs = ranges_by x e

  source_is : tensor_of (known_dims e) w ≡ tensor_of (known_dims (extents_of rs)) w
  source_is = ap (λ n. tensor_of (known_dims n) w) (sym list.extents)

  slice_type : tensor_of (known_dims s) w ≡ tensor_of (known_dims (sizes_of rs)) w
  slice_type = ap (λ n. tensor_of (known_dims n) w) (sym (sizes_from x e list ∙ sizes))

  abbrev sliced_here : SliceKind → List Range → Sliced
  sliced_here kind rs = record { what = kind; ranges = rs; width = w; place = place }

  abbrev extraction : Op
  extraction = record { kind = ExtractSlice (record { slice = x; source_type = tensor_of (known_dims e) w }); operands = operands; defines = defines; result = tensor_of (known_dims s) w; place = place }

  abbrev insertion : Op
  insertion = record { kind = InsertSlice (record { slice = x; source_type = tensor_of (known_dims s) w }); operands = operands; defines = defines; result = tensor_of (known_dims e) w; place = place }

  extraction_is : length operands ≡ 1 → IsSliceOf extraction (sliced_here Extract rs)
  extraction_is count = record {
    kind = λ j. ExtractSlice (record { slice = sym (slice_is x e list) j; source_type = source_is j });
    result = slice_type;
    place = refl;
    operands = count;
  }

  insertion_is : length operands ≡ 2 → IsSliceOf insertion (sliced_here Insert rs)
  insertion_is count = record {
    kind = λ j. InsertSlice (record { slice = sym (slice_is x e list) j; source_type = slice_type j });
    result = source_is;
    place = refl;
    operands = count;
  }

  extraction_found : length operands ≡ 1 → IsInterfaceOf extraction (meaning_by Extract x (known_dims e) w place)
  extraction_found count = subst (λ r. IsInterfaceOf extraction (sliced_meaning (sliced_here Extract r))) (sym (ranges_alike x e)) (slice_interface extraction (sliced_here Extract rs) (extraction_is count))

  insertion_found : length operands ≡ 2 → IsInterfaceOf insertion (meaning_by Insert x (known_dims e) w place)
  insertion_found count = subst (λ r. IsInterfaceOf insertion (sliced_meaning (sliced_here Insert r))) (sym (ranges_alike x e)) (slice_interface insertion (sliced_here Insert rs) (insertion_is count))

numbers_kept : (op : Op) (h : IsOfVerified op) → numbers_fit h.scope op.kind op.result ≡ true
unfolding keeps
numbers_kept op h = kept_here V5 h.scope op (h.keeps V5)

-- what a rule asks where the numbers are in order
asked : (a b c d : Bool) → c ≡ true → ((a && b) && (not c || d)) ≡ true → (a ≡ true) × (d ≡ true)
asked true true true true e h = (refl, refl)
asked true true true false e h = absurd (cc)
asked true true false d e h = absurd (cc)
asked true false c d e h = absurd (cc)
asked false b c d e h = absurd (cc)

module _ (operands : List ℕ) (defines : Option ℕ) (result : ValueType) (place : Place) where
  abbrev op_by : OpKind → Op
  op_by kind = record { kind = kind; operands = operands; defines = defines; result = result; place = place }

  pub of_extraction : (x : declared_extract_slice.ExtractSlice) → IsOfVerified (op_by (ExtractSlice x)) → IsSliceFound (op_by (ExtractSlice x)) Extract x.slice (dims_of x.source_type) (width_of result) place
  unfolding tensor_types result_fits is_slice numbers_fit
  of_extraction x h =
      let op = op_by (ExtractSlice x) in
      let so = sound op h in
      let types = source_types (x.source_type ∷ result ∷ []) h.spelled so.tensors so.known so.dims so.cells in
      let a = types.0 in
      let b = types.1.0 in
      let numbers : slice_fits x.slice (dims_of x.source_type) ≡ true = numbers_kept op h in
      let order' = order x.slice a.shape (subst (λ t. slice_fits x.slice (dims_of t) ≡ true) a.is numbers) in
      let fits = asked _ _ _ _ numbers so.result in
      let widths : a.width ≡ b.width = one_width a.width b.width (subst (λ t. nat_eq (bits_of a.width) (cell_bits t) ≡ true) b.is (subst (λ t. nat_eq (cell_bits t) (cell_bits result) ≡ true) a.is fits.0)) in
      let agree : shapes_agree (sliced_dims x.slice.sizes (known_dims a.shape)) (known_dims b.shape) ≡ true =
      subst (λ t. shapes_agree (sliced_dims x.slice.sizes (known_dims a.shape)) (dims_of t) ≡ true) b.is (subst (λ t. shapes_agree (sliced_dims x.slice.sizes (dims_of t)) (dims_of result) ≡ true) a.is fits.1) in
      let sizes = sizes_are a.shape x.slice.sizes b.shape order'.counted agree in
      let source : x.source_type ≡ tensor_of (known_dims a.shape) b.width = a.is ∙ ap (λ w. tensor_of (known_dims a.shape) w) widths in
      subst (λ (q : ValueType × ValueType). IsSliceFound (record { kind = ExtractSlice (record { slice = x.slice; source_type = q.0 }); operands = operands; defines = defines; result = q.1; place = place }) Extract x.slice (dims_of q.0) (width_of q.1) place)
      (λ j. (sym source j, sym b.is j))
      (record {
        read = read_by Extract x.slice a.shape b.shape b.width place order'.list sizes a.short a.small b.small;
        interface = extraction_found operands defines place x.slice a.shape b.shape b.width order'.list sizes h.counted;
      })

  pub of_insertion : (x : declared_insert_slice.InsertSlice) → IsOfVerified (op_by (InsertSlice x)) → IsSliceFound (op_by (InsertSlice x)) Insert x.slice (dims_of result) (width_of result) place
  unfolding tensor_types operands_fit is_part_of numbers_fit
  of_insertion x h =
      let op = op_by (InsertSlice x) in
      let so = sound op h in
      let types = source_types (x.source_type ∷ result ∷ []) h.spelled so.tensors so.known so.dims so.cells in
      let a = types.0 in
      let b = types.1.0 in
      let numbers : slice_fits x.slice (dims_of result) ≡ true = numbers_kept op h in
      let order' = order x.slice b.shape (subst (λ t. slice_fits x.slice (dims_of t) ≡ true) b.is numbers) in
      let fits = asked _ _ _ _ numbers so.operands in
      let widths : a.width ≡ b.width = one_width a.width b.width (subst (λ t. nat_eq (bits_of a.width) (cell_bits t) ≡ true) b.is (subst (λ t. nat_eq (cell_bits t) (cell_bits result) ≡ true) a.is fits.0)) in
      let agree : shapes_agree (sliced_dims x.slice.sizes (known_dims b.shape)) (known_dims a.shape) ≡ true =
      subst (λ t. shapes_agree (sliced_dims x.slice.sizes (known_dims b.shape)) (dims_of t) ≡ true) a.is (subst (λ t. shapes_agree (sliced_dims x.slice.sizes (dims_of t)) (dims_of x.source_type) ≡ true) b.is fits.1) in
      let sizes = sizes_are b.shape x.slice.sizes a.shape order'.counted agree in
      let source : x.source_type ≡ tensor_of (known_dims a.shape) b.width = a.is ∙ ap (λ w. tensor_of (known_dims a.shape) w) widths in
      subst (λ (q : ValueType × ValueType). IsSliceFound (record { kind = InsertSlice (record { slice = x.slice; source_type = q.0 }); operands = operands; defines = defines; result = q.1; place = place }) Insert x.slice (dims_of q.1) (width_of q.1) place)
      (λ j. (sym source j, sym b.is j))
      (record {
        read = read_by Insert x.slice b.shape a.shape b.width place order'.list sizes b.short b.small a.small;
        interface = insertion_found operands defines place x.slice b.shape a.shape b.width order'.list sizes h.counted;
      })

-- ---- by what is read

pub extraction_of : (op : Op) (x : declared_extract_slice.ExtractSlice) (dims : List Dim) (w : Width) → op.kind ≡ ExtractSlice x → IsOfVerified op → dims ≡ dims_of x.source_type → w ≡ width_of op.result
    → IsSliceFound op Extract x.slice dims w op.place
extraction_of op x dims w k h d e =
    subst (λ (q : OpKind × List Dim × Width). IsSliceFound (record { kind = q.0; operands = op.operands; defines = op.defines; result = op.result; place = op.place }) Extract x.slice q.1 q.2 op.place)
    (λ j. (sym k j, sym d j, sym e j))
    (of_extraction op.operands op.defines op.result op.place x (subst (λ kind. IsOfVerified (record { kind = kind; operands = op.operands; defines = op.defines; result = op.result; place = op.place })) k h))

pub insertion_of : (op : Op) (x : declared_insert_slice.InsertSlice) (dims : List Dim) (w : Width) → op.kind ≡ InsertSlice x → IsOfVerified op → dims ≡ dims_of op.result → w ≡ width_of op.result
    → IsSliceFound op Insert x.slice dims w op.place
insertion_of op x dims w k h d e =
    subst (λ (q : OpKind × List Dim × Width). IsSliceFound (record { kind = q.0; operands = op.operands; defines = op.defines; result = op.result; place = op.place }) Insert x.slice q.1 q.2 op.place)
    (λ j. (sym k j, sym d j, sym e j))
    (of_insertion op.operands op.defines op.result op.place x (subst (λ kind. IsOfVerified (record { kind = kind; operands = op.operands; defines = op.defines; result = op.result; place = op.place })) k h))
