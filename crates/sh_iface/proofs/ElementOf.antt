-- A verified element operation is one of the element operations of the laws, and its interface is that of the table.
use Rattle.std.proofs.Common.{ap₂, ◌≡◌, ℕ, ◌-◌, ◌≤◌, Bool, true, false, ◌&&◌, List, [], ◌∷◌, ◌++◌, map, max, length, Option, Some, None, refl, ap, sym, ◌∙◌, arith, subst}
use Rattle.std.proofs.lemmas.Bool.Decides.{nat_tests}
use Rattle.std.proofs.lemmas.List.{append-nil, length-map}
use Rattle.std.specs.List.{AllByRecursion, list_all, list_any}
use Rattle.std.specs.Option.{option_map_or}
use Rattle.std.specs.Prelude.{◌||◌, drop, nat_eq, not, take}
use Rattle.sh_base.specs.Cells.{bits_of}
use Rattle.sh_base.specs.declared.numbers.Width.{Width}
use Rattle.sh_base.specs.declared.numbers.Width.TheVariants.{I1, I8, I16, I32, I64}
use Rattle.sh_base.specs.declared.operations.BinOp.{BinOp}
use Rattle.sh_base.specs.declared.operations.CastOp.{CastOp}
use Rattle.sh_base.specs.declared.places.Place.{Place}
use Rattle.sh_base.specs.declared.rules.Rule.TheVariants.{V3, V4, V10, L2, L4}
use Rattle.sh_base.specs.Shape.{cell_count, max_cells, max_rank}
use Rattle.sh_ir.specs.declared.arith_ops.Cast as declared_cast
use Rattle.sh_ir.specs.declared.arith_ops.Compare as declared_compare
use Rattle.sh_ir.specs.declared.arith_ops.Select as declared_select
use Rattle.sh_ir.specs.declared.operations.Op.{Op}
use Rattle.sh_ir.specs.declared.operations.OpKind.{OpKind}
use Rattle.sh_ir.specs.declared.operations.OpKind.TheVariants as op_kind
use Rattle.sh_ir.specs.declared.operations.OpKind.TheVariants.{Binary, Compare, Select, Cast}
use Rattle.sh_ir.specs.declared.classification.OpClass.TheVariants as class
use Rattle.sh_ir.specs.Classes.{class_of}
use Rattle.sh_ir.specs.Written.{test_type}
use Rattle.sh_ir.specs.declared.types.Dim.{Dim}
use Rattle.sh_ir.specs.declared.types.Dim.TheVariants.{Known, Differs}
use Rattle.sh_ir.specs.declared.types.ValueType.{ValueType}
use Rattle.sh_ir.specs.declared.types.ValueType.TheVariants.{Nothing, Scalar, Tensor, Sharding, Index}
use Rattle.sh_ir.specs.Agreement.{differs, has_differing, shapes_agree}
use Rattle.sh_ir.specs.Formed.{is_scalar, is_spelled_type}
use Rattle.sh_ir.specs.Limits.{counted_dim, has_few_cells, has_few_dims}
use Rattle.sh_ir.specs.Operands.{is_test_of, operands_fit}
use Rattle.sh_ir.specs.Results.{changes_bits, is_cast, result_fits}
use Rattle.sh_ir.specs.Rules.{is_in_form, keeps, op_types_of, takes_operands}
use Rattle.sh_ir.specs.Shapes.{extent_of}
use Rattle.sh_ir.specs.Typing.{tensor_types, typing_of}
use Rattle.sh_ir.proofs.KeptLaws.{kept_here}
use Rattle.sh_sem.specs.Given.{alone, cell_given, given, giving, shape_given}
use Rattle.sh_sharding.specs.Sharding.{counted_cells}
use Rattle.sh_tensor.specs.Tensor.{TensorValue}
use Rattle.sh_iface.specs.Elements.{IsSomeElement, What, by_operation, by_predicate, by_choice, by_cast, Element, IsElementOf, widths_by, kind_at, op_at, tensor_of, known_dims, element_value, element_nest, element_meaning}
use Rattle.sh_iface.specs.LoopNest.{LoopNest}
use Rattle.sh_iface.specs.Table.{always, loops_where, nest_of}
use Rattle.sh_iface.specs.Verified.{IsOfVerified}
use Rattle.sh_iface.specs.Meaning.{operand_count}
use Rattle.sh_iface.specs.Whole.{IsInterfaceOf, leading_scalars, part_operands, whole_of}

pub both : (a b : Bool) → (a && b) ≡ true → (a ≡ true) × (b ≡ true)
both true b h = (refl, h)
both false b h = absurd (cc)

pub neither : (a b : Bool) → (a || b) ≡ false → (a ≡ false) × (b ≡ false)
neither true b h = absurd (cc)
neither false b h = (refl, h)

pub is_not : (b : Bool) → not b ≡ true → b ≡ false
is_not true h = absurd (cc)
is_not false h = refl

-- ---- types of source form

pub all_known : (dims : List Dim) → list_any differs dims ≡ false → dims ≡ known_dims (map extent_of dims)
all_known [] h = refl
all_known (Known n ∷ dims) h = ap (λ ds. Known n ∷ ds) (all_known dims h)
all_known (Differs ∷ dims) h = absurd (cc)

pub extents_known : (shape : List ℕ) → map extent_of (known_dims shape) ≡ shape
extents_known [] = refl
extents_known (n ∷ shape) = ap (λ ns. n ∷ ns) (extents_known shape)

counted_known : (shape : List ℕ) → map counted_dim (known_dims shape) ≡ map (max 1) shape
counted_known [] = refl
counted_known (n ∷ shape) = ap (λ ns. max 1 n ∷ ns) (counted_known shape)

pub agree_known : (s t : List ℕ) → shapes_agree (known_dims s) (known_dims t) ≡ true → s ≡ t
agree_known [] [] h = refl
agree_known [] (n ∷ t) h = absurd (cc)
agree_known (m ∷ s) [] h = absurd (cc)
agree_known (m ∷ s) (n ∷ t) h =
    let parts = both (nat_eq m n) (shapes_agree (known_dims s) (known_dims t)) h in
    let same : m ≡ n = let e = parts.0 in grind (arith, nat_tests) in
    ap₂ ◌∷◌ same (agree_known s t parts.1)

-- a tensor type that keeps the limits, all of whose extents are known
pub record IsSourceType (t : ValueType) : Type 0 where
  pub width : Width
  pub shape : List ℕ
  pub is : t ≡ tensor_of (known_dims shape) width
  pub short : length shape ≤ max_rank
  pub small : counted_cells shape ≤ max_cells

pub source_type : (t : ValueType) → is_spelled_type t ≡ true → not (is_scalar t) ≡ true → has_differing t ≡ false → has_few_dims t ≡ true → has_few_cells t ≡ true → IsSourceType t
unfolding has_few_dims has_few_cells
source_type (Tensor t) spelled tensor known dims cells =
    let shape = map extent_of t.dims in
    let all = all_known t.dims known in
    let counted : length shape ≡ length t.dims = length-map t.dims extent_of in
    let short : length t.dims ≤ max_rank = grind (arith, nat_tests) in
    let few : cell_count (map counted_dim t.dims) ≤ max_cells = grind (arith, nat_tests) in
    let same : map counted_dim t.dims ≡ map (max 1) shape = ap (map counted_dim) all ∙ counted_known shape in
    record {
      width = t.width;
      shape = shape;
      is = ap (λ ds. tensor_of ds t.width) all;
      short = omega (arith, counted, short);
      small = subst (λ ns. cell_count ns ≤ max_cells) same few;
    }
source_type (Scalar w) spelled tensor known dims cells = absurd (cc)
source_type Nothing spelled tensor known dims cells = absurd (cc)
source_type Sharding spelled tensor known dims cells = absurd (cc)
source_type Index spelled tensor known dims cells = absurd (cc)

pub source_types : (ts : List ValueType) → list_all is_spelled_type ts ≡ true → list_all (λ t. not (is_scalar t)) ts ≡ true → list_any has_differing ts ≡ false → list_all has_few_dims ts ≡ true → list_all has_few_cells ts ≡ true
    → AllByRecursion IsSourceType ts
source_types [] spelled tensors known dims cells = tt
source_types (t ∷ ts) spelled tensors known dims cells =
    let a = both (is_spelled_type t) (list_all is_spelled_type ts) spelled in
    let b = both (not (is_scalar t)) (list_all (λ t. not (is_scalar t)) ts) tensors in
    let c = neither (has_differing t) (list_any has_differing ts) known in
    let d = both (has_few_dims t) (list_all has_few_dims ts) dims in
    let e = both (has_few_cells t) (list_all has_few_cells ts) cells in
    (source_type t a.0 b.0 c.0 d.0 e.0, source_types ts a.1 b.1 c.1 d.1 e.1)

-- ---- what the rules say

-- of operands, results and types
pub record Sound (op : Op) (h : IsOfVerified op) : Type 0 where
  pub tensors : list_all (λ t. not (is_scalar t)) (tensor_types op.kind op.result) ≡ true
  pub operands : operands_fit h.scope op.kind op.result ≡ true
  pub result : result_fits h.scope op.kind op.result ≡ true
  pub known : list_any has_differing (op_types_of op) ≡ false
  pub dims : list_all has_few_dims (op_types_of op) ≡ true
  pub cells : list_all has_few_cells (op_types_of op) ≡ true

in_source : (a b : Bool) (F : List ℕ → Bool) (device : Option (List ℕ)) → device ≡ None → (a && option_map_or F device b) ≡ true → b ≡ true
in_source a b F None e h = (both a b h).1
in_source a b F (Some g) e h = absurd (cc)

pub sound : (op : Op) (h : IsOfVerified op) → Sound op h
unfolding keeps takes_operands is_in_form
sound op h =
    let v3 = both _ _ (both _ _ (both _ _ (kept_here V3 h.scope op (h.keeps V3))).1).1 in
    let form = in_source _ _ _ h.scope.device h.source (kept_here V10 h.scope op (h.keeps V10)) in
    record {
      tensors = v3.0;
      operands = v3.1;
      result = kept_here V4 h.scope op (h.keeps V4);
      known = is_not _ (both _ _ form).1;
      dims = (both _ _ (kept_here L2 h.scope op (h.keeps L2))).0;
      cells = kept_here L4 h.scope op (h.keeps L4);
    }

-- ---- a condition, and a cast

one_bit : (w : Width) → nat_eq (bits_of w) 1 ≡ true → w ≡ I1
one_bit I1 e = refl
one_bit I8 e = absurd (cc)
one_bit I16 e = absurd (cc)
one_bit I32 e = absurd (cc)
one_bit I64 e = absurd (cc)

condition_is : (c t : ValueType) (a : IsSourceType c) (b : IsSourceType t) → is_test_of c t ≡ true → c ≡ tensor_of (known_dims b.shape) I1
unfolding is_test_of
condition_is c t a b h =
    let test : is_test_of (tensor_of (known_dims a.shape) a.width) (tensor_of (known_dims b.shape) b.width) ≡ true =
    subst (λ x. is_test_of x (tensor_of (known_dims b.shape) b.width) ≡ true) a.is (subst (λ y. is_test_of c y ≡ true) b.is h) in
    let parts = both (nat_eq (bits_of a.width) 1) (shapes_agree (known_dims a.shape) (known_dims b.shape)) test in
    a.is ∙ ap₂ (λ s w. tensor_of (known_dims s) w) (agree_known a.shape b.shape parts.1) (one_bit a.width parts.0)

record IsCastOf (op : CastOp) (c t : ValueType) (a : IsSourceType c) (b : IsSourceType t) : Type 0 where
  fits : changes_bits op (bits_of a.width) (bits_of b.width) ≡ true
  is : c ≡ tensor_of (known_dims b.shape) a.width

cast_is : (op : CastOp) (c t : ValueType) (a : IsSourceType c) (b : IsSourceType t) → is_cast op c t ≡ true → IsCastOf op c t a b
unfolding is_cast
cast_is op c t a b h =
    let test : is_cast op (tensor_of (known_dims a.shape) a.width) (tensor_of (known_dims b.shape) b.width) ≡ true =
    subst (λ x. is_cast op x (tensor_of (known_dims b.shape) b.width) ≡ true) a.is (subst (λ y. is_cast op c y ≡ true) b.is h) in
    let parts = both (changes_bits op (bits_of a.width) (bits_of b.width)) (shapes_agree (known_dims a.shape) (known_dims b.shape)) test in
    record { fits = parts.0; is = a.is ∙ ap (λ s. tensor_of (known_dims s) a.width) (agree_known a.shape b.shape parts.1) }

-- ---- kind by kind

module _ (operands : List ℕ) (defines : Option ℕ) (result : ValueType) (place : Place) where
  abbrev op_by : OpKind → Op
  op_by kind = record { kind = kind; operands = operands; defines = defines; result = result; place = place }

  of_binary : (x : BinOp) → IsOfVerified (op_by (Binary x)) → IsSomeElement (op_by (Binary x))
  unfolding tensor_types
  of_binary x h =
      let s = sound (op_by (Binary x)) h in
      let types = source_types (result ∷ []) h.spelled s.tensors s.known s.dims s.cells in
      let t = types.0 in
      record {
        e = record { what = by_operation x; width = t.width; shape = t.shape; place = place };
        is = record { element = record { fits = refl; short = t.short; small = t.small }; kind = refl; result = t.is; place = refl; operands = h.counted };
      }

  of_compare : (x : declared_compare.Compare) → IsOfVerified (op_by (Compare x)) → IsSomeElement (op_by (Compare x))
  unfolding tensor_types
  of_compare x h =
      let s = sound (op_by (Compare x)) h in
      let types = source_types (x.operand_type ∷ []) h.spelled s.tensors s.known s.dims s.cells in
      let t = types.0 in
      record {
        e = record { what = by_predicate x.predicate t.width; width = I1; shape = t.shape; place = place };
        is = record {
          element = record { fits = refl; short = t.short; small = t.small };
          kind = ap (λ type. Compare (record { predicate = x.predicate; operand_type = type })) t.is;
          result = h.result ∙ ap test_type t.is;
          place = refl;
          operands = h.counted;
        };
      }

  of_select : (x : declared_select.Select) → IsOfVerified (op_by (Select x)) → IsSomeElement (op_by (Select x))
  unfolding tensor_types operands_fit
  of_select x h =
      let s = sound (op_by (Select x)) h in
      let types = source_types (x.condition_type ∷ result ∷ []) h.spelled s.tensors s.known s.dims s.cells in
      let t = types.1.0 in
      record {
        e = record { what = by_choice; width = t.width; shape = t.shape; place = place };
        is = record {
          element = record { fits = refl; short = t.short; small = t.small };
          kind = ap (λ type. Select (record { condition_type = type })) (condition_is x.condition_type result types.0 t s.operands);
          result = t.is;
          place = refl;
          operands = h.counted;
        };
      }

  of_cast : (x : declared_cast.Cast) → IsOfVerified (op_by (Cast x)) → IsSomeElement (op_by (Cast x))
  unfolding tensor_types result_fits
  of_cast x h =
      let s = sound (op_by (Cast x)) h in
      let types = source_types (x.operand_type ∷ result ∷ []) h.spelled s.tensors s.known s.dims s.cells in
      let a = types.0 in
      let t = types.1.0 in
      let made = cast_is x.op x.operand_type result a t s.result in
      record {
        e = record { what = by_cast x.op a.width; width = t.width; shape = t.shape; place = place };
        is = record {
          element = record { fits = made.fits; short = t.short; small = t.small };
          kind = ap (λ type. Cast (record { op = x.op; operand_type = type })) made.is;
          result = t.is;
          place = refl;
          operands = h.counted;
        };
      }

  of_kind : (kind : OpKind) → class_of kind ≡ class.Element → IsOfVerified (op_by kind) → IsSomeElement (op_by kind)
  of_kind (Binary x) e h = of_binary x h
  of_kind (Compare x) e h = of_compare x h
  of_kind (Select x) e h = of_select x h
  of_kind (Cast x) e h = of_cast x h
  of_kind (op_kind.Constant x) e h = absurd (cc)
  of_kind (op_kind.ExtractSlice x) e h = absurd (cc)
  of_kind (op_kind.InsertSlice x) e h = absurd (cc)
  of_kind (op_kind.CollapseShape x) e h = absurd (cc)
  of_kind (op_kind.ExpandShape x) e h = absurd (cc)
  of_kind (op_kind.Fill x) e h = absurd (cc)
  of_kind (op_kind.Matmul x) e h = absurd (cc)
  of_kind (op_kind.BatchMatmul x) e h = absurd (cc)
  of_kind (op_kind.Matvec x) e h = absurd (cc)
  of_kind (op_kind.Vecmat x) e h = absurd (cc)
  of_kind (op_kind.Dot x) e h = absurd (cc)
  of_kind (op_kind.Conv1d x) e h = absurd (cc)
  of_kind (op_kind.Conv2d x) e h = absurd (cc)
  of_kind (op_kind.Transpose x) e h = absurd (cc)
  of_kind (op_kind.Broadcast x) e h = absurd (cc)
  of_kind (op_kind.Reduce x) e h = absurd (cc)
  of_kind (op_kind.Generic x) e h = absurd (cc)
  of_kind (op_kind.Sharding x) e h = absurd (cc)
  of_kind (op_kind.Shard x) e h = absurd (cc)
  of_kind (op_kind.AllGather x) e h = absurd (cc)
  of_kind (op_kind.AllSlice x) e h = absurd (cc)
  of_kind (op_kind.AllReduce x) e h = absurd (cc)
  of_kind (op_kind.ReduceScatter x) e h = absurd (cc)
  of_kind (op_kind.AllToAll x) e h = absurd (cc)
  of_kind (op_kind.Shift x) e h = absurd (cc)
  of_kind (op_kind.UpdateHalo x) e h = absurd (cc)
  of_kind (op_kind.Take x) e h = absurd (cc)
  of_kind (op_kind.Pad x) e h = absurd (cc)
  of_kind (op_kind.Join x) e h = absurd (cc)
  of_kind (op_kind.Call x) e h = absurd (cc)
  of_kind (op_kind.Return x) e h = absurd (cc)
  of_kind op_kind.Empty e h = absurd (cc)

-- A verified operation of the class is an element operation.
pub element_of_verified : (op : Op) → class_of op.kind ≡ class.Element → IsOfVerified op → IsSomeElement op
element_of_verified op e h = of_kind op.operands op.defines op.result op.place op.kind e h

-- ---- the interface

abbrev nest_by : List ℕ → What → Width → LoopNest
nest_by shape what w = record {
  loops = loops_where always 0 shape;
  operands = map (element_value shape) (widths_by what w);
  result = element_value shape w;
}

table_at : (what : What) (w : Width) (shape : List ℕ) → nest_of (kind_at (known_dims shape) what) (tensor_of (known_dims shape) w) ≡ Some (nest_by (map extent_of (known_dims shape)) what w)
unfolding nest_of typing_of
table_at (by_operation op) w shape = refl
table_at (by_predicate p v) w shape = refl
table_at by_choice w shape = refl
table_at (by_cast op v) w shape = refl

table_is : (op : Op) (e : Element) → IsElementOf op e → nest_of op.kind op.result ≡ Some (element_nest e)
unfolding element_nest
table_is op e is =
    ap₂ nest_of is.kind is.result
    ∙ subst (λ s. nest_of (kind_at (known_dims e.shape) e.what) (tensor_of (known_dims e.shape) e.width) ≡ Some (nest_by s e.what e.width)) (extents_known e.shape) (table_at e.what e.width e.shape)

none_leading : (what : What) (dims : List Dim) → leading_scalars (kind_at dims what) ≡ 0
none_leading (by_operation op) dims = refl
none_leading (by_predicate p v) dims = refl
none_leading by_choice dims = refl
none_leading (by_cast op v) dims = refl

-- neither the names of operands and value nor the place change what it gives
given_alike : (what : What) (w : Width) (dims : List Dim) (xs ys : List ℕ) (x y : Option ℕ) (p q : Place) (ts : List TensorValue)
    → given (record { kind = kind_at dims what; operands = xs; defines = x; result = tensor_of dims w; place = p }) alone ts
    ≡ given (record { kind = kind_at dims what; operands = ys; defines = y; result = tensor_of dims w; place = q }) alone ts
unfolding given shape_given cell_given giving
given_alike (by_operation op) w dims xs ys x y p q ts = refl
given_alike (by_predicate r v) w dims xs ys x y p q ts = refl
given_alike by_choice w dims xs ys x y p q ts = refl
given_alike (by_cast op v) w dims xs ys x y p q ts = refl

drop_every : {X : Type 0} (xs : List X) → drop (length xs) xs ≡ []
drop_every [] = refl
drop_every (x ∷ xs) = drop_every xs

take_every : {X : Type 0} (xs : List X) → take (length xs) xs ≡ xs
take_every [] = refl
take_every (x ∷ xs) = ap (λ ys. x ∷ ys) (take_every xs)

-- with no scalar before the tensors the order is the written one
pub in_order : (k : ℕ) (ts : List TensorValue) → k ≡ 0 → drop (length ts - k) ts ++ take (length ts - k) ts ≡ ts
in_order k ts none =
    let all : length ts - k ≡ length ts = omega (arith, none) in
    ap (λ n. drop n ts ++ take n ts) all ∙ ap₂ ◌++◌ (drop_every ts) (take_every ts)

whole_is : (op : Op) (e : Element) → IsElementOf op e → (ts : List TensorValue) → given (op_at e (known_dims e.shape)) alone ts ≡ whole_of op ts
unfolding whole_of
whole_is op e is ts =
    let dims = known_dims e.shape in
    let none : leading_scalars op.kind ≡ 0 = ap leading_scalars is.kind ∙ none_leading e.what dims in
    let order = in_order (leading_scalars op.kind) ts none in
    let same : given op alone ts ≡ given (op_at e dims) alone ts =
    ap₂ (λ k r. given (record { kind = k; operands = op.operands; defines = op.defines; result = r; place = op.place }) alone ts) is.kind is.result
    ∙ given_alike e.what e.width dims op.operands (op_at e dims).operands op.defines (op_at e dims).defines op.place e.place ts in
    sym same ∙ ap (given op alone) (sym order)

counted_is : (op : Op) (e : Element) → IsElementOf op e → length (part_operands op) ≡ operand_count (element_meaning e)
unfolding element_nest
counted_is op e is =
    let dims = known_dims e.shape in
    let none : leading_scalars op.kind ≡ 0 = ap leading_scalars is.kind ∙ none_leading e.what dims in
    let all : length (part_operands op) ≡ length (op.operands ++ []) = ap (λ k. length (drop k op.operands ++ take k op.operands)) none in
    let plain : length (op.operands ++ []) ≡ length op.operands = ap length (append-nil op.operands) in
    let counted : length (map (element_value e.shape) (widths_by e.what e.width)) ≡ length (widths_by e.what e.width) = length-map (widths_by e.what e.width) (element_value e.shape) in
    let operands = is.operands in
    omega (arith, all, plain, counted, operands)

-- Its interface is that of the table, and gives what it gives.
pub element_interface : (op : Op) (e : Element) → IsElementOf op e → IsInterfaceOf op (element_meaning e)
element_interface op e is = record {
  nest = table_is op e is;
  whole = whole_is op e is;
  counted = counted_is op e is;
  place = is.place;
}
