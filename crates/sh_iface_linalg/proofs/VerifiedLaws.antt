-- A verified structured operation is what is read off it.
use Rattle.std.proofs.Common.{◌≡◌, ℕ, ◌+◌, ◌≤◌, Bool, true, false, List, [], ◌∷◌, ◌++◌, map, length, refl, ap, ap₂, sym, ◌∙◌, arith, subst, inl, inr}
use Rattle.std.proofs.lemmas.Bool.{cases_Bool}
use Rattle.std.proofs.lemmas.List.{length-map}
use Rattle.std.specs.List.{AllByRecursion, list_all, list_any, range_with_len}
use Rattle.std.specs.Prelude.{◌&&◌, ◌||◌, get_or, nat_eq, nat_le, nat_lt, not, if◌then◌else◌}
use Rattle.sh_base.specs.Cells.{bits_of}
use Rattle.sh_base.specs.declared.numbers.Width.{Width}
use Rattle.sh_base.specs.Shape.{max_cells, max_rank}
use Rattle.sh_ir.specs.declared.types.Dim.TheVariants.{Known}
use Rattle.sh_ir.specs.declared.types.ValueType.{ValueType}
use Rattle.sh_ir.specs.declared.types.ValueType.TheVariants.{Index, Nothing, Scalar, Sharding, Tensor}
use Rattle.sh_ir.specs.Agreement.{cell_bits, dims_of, has_differing, rank_of, types_agree}
use Rattle.sh_ir.specs.Attributes.{numbers_fit}
use Rattle.sh_ir.specs.Formed.{OperandsFit, ResultFits, is_scalar}
use Rattle.sh_ir.specs.Loops.{LoopMap, single}
use Rattle.sh_ir.specs.Operands.{all_following, all_of_bits, can_multiply, extents_fit, following, follows_maps, operands_fit, ranks_fit}
use Rattle.sh_ir.specs.Results.{result_fits}
use Rattle.sh_ir.specs.Scope.{Scope}
use Rattle.sh_ir.specs.Shapes.{shape_of}
use Rattle.sh_ir.specs.Typing.{tensor_types}
use Rattle.sh_ir.specs.Written.{first_type, written_by}
use Rattle.sh_sem.specs.Scalars.{width_of}
use Rattle.sh_sharding.specs.Sharding.{counted_cells}
use Rattle.sh_iface.specs.Elements.{known_dims, tensor_of}
use Rattle.sh_iface.proofs.ElementOf.{extents_known}
use Rattle.sh_iface_linalg.specs.Cuts.{entries}
use Rattle.sh_iface_linalg.specs.Kept.{fits_maps}
use Rattle.sh_iface_linalg.specs.Loops.{length-range}
use Rattle.sh_iface_linalg.specs.Reading.{IsNamed}
use Rattle.sh_iface_linalg.specs.Rules.{both, joined, maps_hold}
use Rattle.sh_iface_linalg.specs.Structured.{FitsNumbers, FitsWidths, Form, ins_outs_by, inputs_at, is_fill, kind_at, multiplies, output_at}
use Rattle.sh_iface_linalg.specs.Structured.{fill, matmul, batch_matmul, matvec, vecmat, dot, transpose, broadcast, reduce, generic}
use Rattle.sh_iface_linalg.proofs.InterfaceLaws.{ranks_alike, singles_joined}
use Rattle.sh_iface_linalg.proofs.Pairs.{AreRanks, AreShapes, all_pairs, as_following, first_at, following_one, shapes_are}
use Rattle.sh_iface_linalg.proofs.PermutedLaws.{same_number}
use Rattle.sh_iface_linalg.proofs.ReadLaws.{IsInput}
use Rattle.sh_iface_linalg.proofs.RowLaws.{row_is}
use Rattle.sh_iface_linalg.proofs.SourceTypes.{IsSourceType, same_width, tensors_split}

-- ---- tensors and scalars of the types that are written

pub is_not : (b : Bool) → not b ≡ true → b ≡ false
is_not true h = absurd (cc)
is_not false h = refl

pub none_of : (ts : List ValueType) → list_all (λ t. not (has_differing t)) ts ≡ true → list_any has_differing ts ≡ false
none_of [] h = refl
none_of (t ∷ ts) h =
    let parts = both (not (has_differing t)) (list_all (λ t. not (has_differing t)) ts) h in
    let a = is_not (has_differing t) parts.0 in
    let rest = none_of ts parts.1 in
    rw a rest

pub source_own : (t : ValueType) → IsSourceType t → t ≡ tensor_of (known_dims (shape_of t)) (width_of t)
source_own t a = subst (λ u. u ≡ tensor_of (known_dims (shape_of u)) (width_of u)) (sym a.is) (ap (λ ns. tensor_of (known_dims ns) a.width) (sym (extents_known a.shape)))

pub source_shape : (t : ValueType) (a : IsSourceType t) → a.shape ≡ shape_of t
source_shape t a = sym (ap shape_of a.is ∙ extents_known a.shape)

source_input : (form : Form) → is_fill form ≡ false → (t : ValueType) → IsSourceType t → IsInput form t
source_input form no_fill t a = record {
  is = source_own t a ∙ ap (λ (b : Bool). if b then Scalar (width_of t) else tensor_of (known_dims (shape_of t)) (width_of t)) (sym no_fill);
  short = subst (λ ns. length ns ≤ max_rank) (source_shape t a) a.short;
  small = subst (λ ns. counted_cells ns ≤ max_cells) (source_shape t a) a.small;
}

pub source_inputs : (form : Form) → is_fill form ≡ false → (ts : List ValueType) → AllByRecursion IsSourceType ts → AllByRecursion (IsInput form) ts
source_inputs form no_fill [] h = tt
source_inputs form no_fill (t ∷ ts) h = (source_input form no_fill t h.0, source_inputs form no_fill ts h.1)

-- cells of the width, and extents that are known
pub record HasCells (t : ValueType) : Type 0 where
  pub bits : cell_bits t ≡ bits_of (width_of t)
  pub dims : dims_of t ≡ known_dims (shape_of t)

pub tensor_cells : (t : ValueType) (dims : List ℕ) (w : Width) → t ≡ tensor_of (known_dims dims) w → HasCells t
tensor_cells t dims w is = subst HasCells (sym is) (record { bits = refl; dims = ap known_dims (sym (extents_known dims)) })

input_cells : (form : Form) (t : ValueType) → IsInput form t → HasCells t
input_cells form t is =
    elim (cases_Bool (is_fill form)) [
      | inl b ↦ subst HasCells (sym (is.is ∙ ap (λ (c : Bool). if c then Scalar (width_of t) else tensor_of (known_dims (shape_of t)) (width_of t)) b)) (record { bits = refl; dims = refl })
      | inr b ↦ tensor_cells t (shape_of t) (width_of t) (is.is ∙ ap (λ (c : Bool). if c then Scalar (width_of t) else tensor_of (known_dims (shape_of t)) (width_of t)) b)
    ]

pub inputs_cells : (form : Form) (ts : List ValueType) → AllByRecursion (IsInput form) ts → AllByRecursion HasCells ts
inputs_cells form [] is = tt
inputs_cells form (t ∷ ts) is = (input_cells form t is.0, inputs_cells form ts is.1)

-- ---- widths

wide : (ts : List ValueType) → AllByRecursion HasCells ts → list_all (λ t. nat_lt 1 (cell_bits t)) ts ≡ list_all (λ v. nat_lt 1 (bits_of v)) (map width_of ts)
wide [] h = refl
wide (t ∷ ts) h = ap₂ (λ n b. nat_lt 1 n && b) h.0.bits (wide ts h.1)

narrow : (n : ℕ) (ts : List ValueType) → AllByRecursion HasCells ts → list_all (λ t. nat_le (cell_bits t) n) ts ≡ list_all (λ v. nat_le (bits_of v) n) (map width_of ts)
narrow n [] h = refl
narrow n (t ∷ ts) h = ap₂ (λ m b. nat_le m n && b) h.0.bits (narrow n ts h.1)

front_back : (test : ValueType → Bool) (ts : List ValueType) (t : ValueType) → list_all test (ts ++ t ∷ []) ≡ true → (list_all test ts ≡ true) × (test t ≡ true)
front_back test [] t h = (refl, (both (test t) true h).0)
front_back test (u ∷ ts) t h = let parts = both (test u) (list_all test (ts ++ t ∷ [])) h in let rest = front_back test ts t parts.1 in (joined (test u) (list_all test ts) parts.0 rest.0, rest.1)

product_widths : (ts : List ValueType) (t : ValueType) → AllByRecursion HasCells ts → HasCells t → can_multiply (ins_outs_by ts t) ≡ true → multiplies (width_of t) (map width_of ts) ≡ true
unfolding can_multiply
product_widths ts t ins out h =
    let parts = both _ _ h in
    let ends = front_back (λ u. nat_lt 1 (cell_bits u)) ts t parts.0 in
    joined (nat_lt 1 (bits_of (width_of t))) _ (ap (nat_lt 1) (sym out.bits) ∙ ends.1)
    (joined (list_all (λ v. nat_lt 1 (bits_of v)) (map width_of ts)) _ (sym (wide ts ins) ∙ ends.0)
    (sym (narrow (bits_of (width_of t)) ts ins) ∙ ap (λ n. list_all (λ u. nat_le (cell_bits u) n) ts) (sym out.bits) ∙ parts.1))

copied_widths : (ts : List ValueType) (t : ValueType) → AllByRecursion HasCells ts → HasCells t → length ts ≡ 1 → all_of_bits (ins_outs_by ts t) ≡ true → map width_of ts ≡ width_of t ∷ []
unfolding all_of_bits
copied_widths [] t ins out one h = absurd (omega (arith, one))
copied_widths (u ∷ []) t ins out one h =
    let test : nat_eq (cell_bits t) (cell_bits u) ≡ true = (both (nat_eq (cell_bits t) (cell_bits u)) true h).0 in
    let same : nat_eq (bits_of (width_of t)) (bits_of (width_of u)) ≡ true = ap₂ nat_eq (sym out.bits) (sym ins.0.bits) ∙ test in
    ap (λ w. w ∷ []) (sym (same_width (width_of t) (width_of u) same))
copied_widths (u ∷ v ∷ ts) t ins out one h = absurd (omega (arith, one))

-- ---- what the rules of each form say

module _ (scope : Scope) (ts : List ValueType) (t result : ValueType) where
  pub agrees : (form : Form) → result_fits scope (kind_at form ts t) result ≡ true → types_agree t result ≡ true
  unfolding result_fits
  agrees fill h = h
  agrees matmul h = h
  agrees batch_matmul h = h
  agrees matvec h = h
  agrees vecmat h = h
  agrees dot h = h
  agrees (transpose p) h = h
  agrees (broadcast d) h = h
  agrees (reduce n d r) h = h
  agrees (generic maps its r) h = h

  pub numbers_by : (form : Form) → IsNamed form → numbers_fit scope (kind_at form ts t) result ≡ true → operands_fit scope (kind_at form ts t) result ≡ true → FitsNumbers form (rank_of (first_type ts)) (rank_of t)
  unfolding numbers_fit operands_fit
  numbers_by fill named h k = tt
  numbers_by matmul named h k = tt
  numbers_by batch_matmul named h k = tt
  numbers_by matvec named h k = tt
  numbers_by vecmat named h k = tt
  numbers_by dot named h k = tt
  numbers_by (transpose p) named h k = (h, same_number _ _ (both _ _ (both _ _ k).1).0)
  numbers_by (broadcast d) named h k = (h, same_number _ _ (both _ _ (both _ _ k).1).0)
  numbers_by (reduce n d b) named h k = absurd named
  numbers_by (generic maps its b) named h k = absurd named

  pub widths_by : (form : Form) → AllByRecursion HasCells ts → HasCells t → length ts ≡ length (inputs_at form 0 0) → operands_fit scope (kind_at form ts t) result ≡ true → FitsWidths form (width_of t) (map width_of ts)
  unfolding operands_fit
  widths_by fill ins out n k = copied_widths ts t ins out n (both _ _ k).0
  widths_by matmul ins out n k = product_widths ts t ins out (both _ _ k).0
  widths_by batch_matmul ins out n k = product_widths ts t ins out (both _ _ k).0
  widths_by matvec ins out n k = product_widths ts t ins out (both _ _ k).0
  widths_by vecmat ins out n k = product_widths ts t ins out (both _ _ k).0
  widths_by dot ins out n k = product_widths ts t ins out (both _ _ k).0
  widths_by (transpose p) ins out n k = copied_widths ts t ins out n (both _ _ k).0
  widths_by (broadcast d) ins out n k = copied_widths ts t ins out n (both _ _ k).0
  widths_by (reduce n d b) ins out m k = tt
  widths_by (generic maps its b) ins out m k = tt

  unless : (a b : Bool) → a ≡ true → (not a || b) ≡ true → b ≡ true
  unless true b h k = k
  unless false b h k = absurd (cc)

  follows_by : (form : Form) → IsNamed form → is_fill form ≡ false → numbers_fit scope (kind_at form ts t) result ≡ true → operands_fit scope (kind_at form ts t) result ≡ true
      → fits_maps (map single (inputs_at form (rank_of (first_type ts)) (rank_of t)) ++ single (output_at form (rank_of t)) ∷ []) (ts ++ t ∷ []) ≡ true
  unfolding operands_fit follows_maps
  follows_by fill named no_fill h k = absurd (cc)
  follows_by matmul named no_fill h k = (both _ _ k).1
  follows_by batch_matmul named no_fill h k = (both _ _ k).1
  follows_by matvec named no_fill h k = (both _ _ k).1
  follows_by vecmat named no_fill h k = (both _ _ k).1
  follows_by dot named no_fill h k = (both _ _ k).1
  follows_by (transpose p) named no_fill h k = unless (numbers_fit scope (kind_at (transpose p) ts t) result) _ h (both _ _ (both _ _ k).1).1
  follows_by (broadcast d) named no_fill h k = unless (numbers_fit scope (kind_at (broadcast d) ts t) result) _ h (both _ _ (both _ _ k).1).1
  follows_by (reduce n d b) named no_fill h k = absurd named
  follows_by (generic maps its b) named no_fill h k = absurd named

inputs_alike : (form : Form) (f r : ℕ) → IsNamed form → FitsNumbers form f r → inputs_at form f r ≡ inputs_at form r r
inputs_alike fill f r named h = refl
inputs_alike matmul f r named h = refl
inputs_alike batch_matmul f r named h = refl
inputs_alike matvec f r named h = refl
inputs_alike vecmat f r named h = refl
inputs_alike dot f r named h = refl
inputs_alike (transpose p) f r named h = ap (λ n. inputs_at (transpose p) n r) h.1
inputs_alike (broadcast d) f r named h = refl
inputs_alike (reduce n d b) f r named h = absurd named
inputs_alike (generic maps its b) f r named h = absurd named

pub inputs_counted : (form : Form) (f r : ℕ) → length (inputs_at form f r) ≡ length (inputs_at form 0 0)
inputs_counted fill f r = refl
inputs_counted matmul f r = refl
inputs_counted batch_matmul f r = refl
inputs_counted matvec f r = refl
inputs_counted vecmat f r = refl
inputs_counted dot f r = refl
inputs_counted (transpose p) f r = refl
inputs_counted (broadcast d) f r = refl
inputs_counted (reduce n d b) f r = refl
inputs_counted (generic maps its b) f r = refl

-- ---- maps that fit

are_ranks : (maps : List (List ℕ)) (ts : List ValueType) → ranks_fit (map single maps) ts ≡ true → AreRanks maps (map shape_of ts)
are_ranks [] [] h = tt
are_ranks [] (t ∷ ts) h = absurd (cc)
are_ranks (ls ∷ maps) [] h = absurd (cc)
are_ranks (ls ∷ maps) (t ∷ ts) h =
    let parts = both (nat_eq (length (single ls)) (rank_of t)) (ranks_fit (map single maps) ts) h in
    (sym (length-map ls (λ l. l ∷ [])) ∙ same_number _ _ parts.0 ∙ ranks_alike t, are_ranks maps ts parts.1)

following_are : (maps : List (List ℕ)) (ts : List ValueType) → AllByRecursion HasCells ts → all_following (map single maps) ts ≡ map as_following (all_pairs maps (map shape_of ts))
following_are [] ts h = refl
following_are (ls ∷ maps) [] h = refl
following_are (ls ∷ maps) (t ∷ ts) h =
    ap (λ ds. following (single ls) ds ++ all_following (map single maps) ts) h.0.dims
    ∙ following_one ls (shape_of t) (all_following (map single maps) ts) (all_pairs maps (map shape_of ts)) (following_are maps ts h.1)

pub shapes_fit : (maps : List (List ℕ)) (ts : List ValueType) → AllByRecursion HasCells ts → fits_maps (map single maps) ts ≡ true → AreShapes (first_at (all_pairs maps (map shape_of ts))) maps (map shape_of ts)
unfolding extents_fit
shapes_fit maps ts cells h =
    let parts = both (ranks_fit (map single maps) ts) (extents_fit (all_following (map single maps) ts)) h in
    shapes_are maps (map shape_of ts) (all_following (map single maps) ts) (are_ranks maps ts parts.0) (following_are maps ts cells) parts.1

-- ---- inputs of each form

module _ (scope : Scope) (ts : List ValueType) (t result : ValueType) where
  scalar_inputs : (us : List ValueType) → length us ≡ 1 → is_scalar (first_type us) ≡ true → AllByRecursion (IsInput fill) us
  scalar_inputs [] one s = absurd (omega (arith, one))
  scalar_inputs (Scalar w ∷ []) one s = (record { is = refl; short = omega arith; small = omega arith }, tt)
  scalar_inputs (Tensor u ∷ []) one s = absurd (cc)
  scalar_inputs (Nothing ∷ []) one s = absurd (cc)
  scalar_inputs (Sharding ∷ []) one s = absurd (cc)
  scalar_inputs (Index ∷ []) one s = absurd (cc)
  scalar_inputs (u ∷ v ∷ us) one s = absurd (omega (arith, one))

  pub inputs_of : (form : Form) → (is_fill form ≡ false → AllByRecursion (IsInput form) ts) → operands_fit scope (kind_at form ts t) result ≡ true → length ts ≡ length (inputs_at form 0 0) → AllByRecursion (IsInput form) ts
  unfolding operands_fit
  inputs_of fill h k n = scalar_inputs ts n (both _ _ k).1
  inputs_of matmul h k n = h refl
  inputs_of batch_matmul h k n = h refl
  inputs_of matvec h k n = h refl
  inputs_of vecmat h k n = h refl
  inputs_of dot h k n = h refl
  inputs_of (transpose p) h k n = h refl
  inputs_of (broadcast d) h k n = h refl
  inputs_of (reduce m d b) h k n = h refl
  inputs_of (generic maps its b) h k n = h refl

  pub outs_tensors : (form : Form) → ResultFits (written_by (kind_at form ts t)).result result → list_all (λ u. not (is_scalar u)) (tensor_types (kind_at form ts t) result) ≡ true → (not (is_scalar t) ≡ true) × (not (is_scalar result) ≡ true)
  unfolding tensor_types
  outs_tensors fill fits h = let a = both (not (is_scalar t)) (not (is_scalar result) && true) h in (a.0, (both (not (is_scalar result)) true a.1).0)
  outs_tensors matmul fits h = let a = tensors_split matmul ts t result fits refl h in (a.1, a.2)
  outs_tensors batch_matmul fits h = let a = tensors_split batch_matmul ts t result fits refl h in (a.1, a.2)
  outs_tensors matvec fits h = let a = tensors_split matvec ts t result fits refl h in (a.1, a.2)
  outs_tensors vecmat fits h = let a = tensors_split vecmat ts t result fits refl h in (a.1, a.2)
  outs_tensors dot fits h = let a = tensors_split dot ts t result fits refl h in (a.1, a.2)
  outs_tensors (transpose p) fits h = let a = tensors_split (transpose p) ts t result fits refl h in (a.1, a.2)
  outs_tensors (broadcast d) fits h = let a = tensors_split (broadcast d) ts t result fits refl h in (a.1, a.2)
  outs_tensors (reduce n d r) fits h = let a = tensors_split (reduce n d r) ts t result fits refl h in (a.1, a.2)
  outs_tensors (generic maps its r) fits h = let a = tensors_split (generic maps its r) ts t result fits refl h in (a.1, a.2)

  pub operands_by : (form : Form) (xs : List ℕ) → IsNamed form → OperandsFit (written_by (kind_at form ts t)) xs → length xs ≡ length ts + 1
  operands_by fill xs named h = omega (arith, h)
  operands_by matmul xs named h = omega (arith, h)
  operands_by batch_matmul xs named h = omega (arith, h)
  operands_by matvec xs named h = omega (arith, h)
  operands_by vecmat xs named h = omega (arith, h)
  operands_by dot xs named h = omega (arith, h)
  operands_by (transpose p) xs named h = omega (arith, h)
  operands_by (broadcast d) xs named h = omega (arith, h)
  operands_by (reduce n d b) xs named h = absurd named
  operands_by (generic maps its b) xs named h = absurd named

  -- ---- the maps of each form fit

  abbrev n : ℕ
  n = length (shape_of t)

  last_rank : (maps : List LoopMap) (o : LoopMap) (us : List ValueType) → length us ≡ length maps → ranks_fit (maps ++ o ∷ []) (us ++ t ∷ []) ≡ true → length o ≡ rank_of t
  last_rank [] o [] e h = same_number _ _ (both (nat_eq (length o) (rank_of t)) true h).0
  last_rank [] o (u ∷ us) e h = absurd (omega (arith, e))
  last_rank (m ∷ maps) o [] e h = absurd (omega (arith, e))
  last_rank (m ∷ maps) o (u ∷ us) e h = last_rank maps o us (omega (arith, e)) (both (nat_eq (length m) (rank_of u)) (ranks_fit (maps ++ o ∷ []) (us ++ t ∷ [])) h).1

  own_fits : (w : Width) → t ≡ tensor_of (known_dims (shape_of t)) w → fits_maps (single (range_with_len 0 n) ∷ []) (t ∷ []) ≡ true
  own_fits w is =
      subst (λ u. fits_maps (single (range_with_len 0 n) ∷ []) (u ∷ []) ≡ true)
      (ap (λ dims. tensor_of dims w) (entries (λ k. Known k) (shape_of t)) ∙ sym is)
      (maps_hold (λ l. Known (get_or (shape_of t) l 0)) (record { dims = range_with_len 0 n; width = w } ∷ []))

  filled_fits : (us : List ValueType) → length us ≡ 1 → is_scalar (first_type us) ≡ true → fits_maps (single (range_with_len 0 n) ∷ []) (t ∷ []) ≡ true → fits_maps ([] ∷ single (range_with_len 0 n) ∷ []) (us ++ t ∷ []) ≡ true
  filled_fits [] one s h = absurd (omega (arith, one))
  filled_fits (Scalar w ∷ []) one s h = h
  filled_fits (Tensor u ∷ []) one s h = absurd (cc)
  filled_fits (Nothing ∷ []) one s h = absurd (cc)
  filled_fits (Sharding ∷ []) one s h = absurd (cc)
  filled_fits (Index ∷ []) one s h = absurd (cc)
  filled_fits (u ∷ v ∷ us) one s h = absurd (omega (arith, one))

  -- the output has the rank of the result, and all maps fit
  abbrev FitsAll : Form → Type 0
  FitsAll form = (length (output_at form n) ≡ n) × (fits_maps (map single (inputs_at form n n ++ range_with_len 0 n ∷ [])) (ts ++ t ∷ []) ≡ true)

  general : (form : Form) → IsNamed form → is_fill form ≡ false → n ≤ max_rank → length ts ≡ length (inputs_at form 0 0) → numbers_fit scope (kind_at form ts t) result ≡ true → operands_fit scope (kind_at form ts t) result ≡ true → FitsAll form
  general form named no_fill short count h k =
      let numbers = numbers_by scope ts t result form named h k in
      let fits = follows_by scope ts t result form named no_fill h k in
      let counted : length ts ≡ length (map single (inputs_at form (rank_of (first_type ts)) (rank_of t))) = count ∙ sym (length-map (inputs_at form (rank_of (first_type ts)) (rank_of t)) single ∙ inputs_counted form (rank_of (first_type ts)) (rank_of t)) in
      let ranks = both (ranks_fit (map single (inputs_at form (rank_of (first_type ts)) (rank_of t)) ++ single (output_at form (rank_of t)) ∷ []) (ts ++ t ∷ [])) _ fits in
      let last = last_rank (map single (inputs_at form (rank_of (first_type ts)) (rank_of t))) (single (output_at form (rank_of t))) ts counted ranks.0 in
      let own : length (output_at form (rank_of t)) ≡ rank_of t = sym (length-map (output_at form (rank_of t)) (λ l. l ∷ [])) ∙ last in
      let out : length (output_at form n) ≡ n = subst (λ r. length (output_at form r) ≡ r) (ranks_alike t) own in
      let row = row_is form (rank_of (first_type ts)) n named out short (subst (FitsNumbers form (rank_of (first_type ts))) (ranks_alike t) numbers) in
      let ins : inputs_at form (rank_of (first_type ts)) (rank_of t) ≡ inputs_at form n n = inputs_alike form (rank_of (first_type ts)) (rank_of t) named numbers ∙ ap (λ r. inputs_at form r r) (ranks_alike t) in
      let outs : output_at form (rank_of t) ≡ range_with_len 0 n = ap (output_at form) (ranks_alike t) ∙ row.output in
      let same : map single (inputs_at form (rank_of (first_type ts)) (rank_of t)) ++ single (output_at form (rank_of t)) ∷ [] ≡ map single (inputs_at form n n ++ range_with_len 0 n ∷ []) =
      ap₂ (λ ms o. map single ms ++ single o ∷ []) ins outs ∙ sym (singles_joined (inputs_at form n n) (range_with_len 0 n)) in
      (out, subst (λ ms. fits_maps ms (ts ++ t ∷ []) ≡ true) same fits)

  pub fits_by : (form : Form) (w : Width) → IsNamed form → t ≡ tensor_of (known_dims (shape_of t)) w → n ≤ max_rank → length ts ≡ length (inputs_at form 0 0) → numbers_fit scope (kind_at form ts t) result ≡ true → operands_fit scope (kind_at form ts t) result ≡ true → FitsAll form
  unfolding operands_fit
  fits_by fill w named is short count h k = (length-range 0 n, filled_fits ts count (both _ _ k).1 (own_fits w is))
  fits_by matmul w named is short count h k = general matmul named refl short count h k
  fits_by batch_matmul w named is short count h k = general batch_matmul named refl short count h k
  fits_by matvec w named is short count h k = general matvec named refl short count h k
  fits_by vecmat w named is short count h k = general vecmat named refl short count h k
  fits_by dot w named is short count h k = general dot named refl short count h k
  fits_by (transpose p) w named is short count h k = general (transpose p) named refl short count h k
  fits_by (broadcast d) w named is short count h k = general (broadcast d) named refl short count h k
  fits_by (reduce m d b) w named is short count h k = absurd named
  fits_by (generic maps its b) w named is short count h k = absurd named
