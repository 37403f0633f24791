-- Products, convolutions and copies of verified functions can be folded on their operands.
use Rattle.std.proofs.Common.{◌≡◌, ℕ, zero, suc, ◌+◌, ◌<◌, ◌≤◌, Bool, true, false, List, [], ◌∷◌, ◌++◌, map, length, refl, ap, sym, ◌∙◌, arith, subst, inl, inr}
use Rattle.std.proofs.lemmas.Bool.{cases_Bool}
use Rattle.std.proofs.lemmas.Bool.Decides.{nat_tests}
use Rattle.std.proofs.lemmas.List.{length-map}
use Rattle.std.proofs.lemmas.Map.Steps.{length-le_from_distinct_below}
use Rattle.std.specs.List.{AllByRecursion, IsDistinct, list_all, list_any, range_with_len, position_or_len}
use Rattle.std.specs.Prelude.{◌||◌, nat_eq, nat_le, nat_lt, not, ℤ}
use Rattle.sh_base.specs.Shape.{max_rank}
use Rattle.sh_ir.specs.declared.linalg_ops.Broadcast as declared_broadcast
use Rattle.sh_ir.specs.declared.linalg_ops.InsOuts.{InsOuts}
use Rattle.sh_ir.specs.declared.linalg_ops.Transpose as declared_transpose
use Rattle.sh_ir.specs.declared.operations.OpKind.TheVariants.{Fill, Matmul, BatchMatmul, Matvec, Vecmat, Dot, Conv1d, Conv2d, Transpose, Broadcast}
use Rattle.sh_ir.specs.declared.types.ValueType.{ValueType}
use Rattle.sh_ir.specs.Agreement.{cell_bits, rank_of, same_bits}
use Rattle.sh_ir.specs.Attributes.{numbers_fit}
use Rattle.sh_ir.specs.Limits.{has_few_dims}
use Rattle.sh_ir.specs.Loops.{LoopMap, copy, identity_map, input_rank, output_rank, places_in, product, single, structure_of, unlisted}
use Rattle.sh_ir.specs.Numbers.{are_axes_below, are_distinct, as_natural, as_naturals, is_below}
use Rattle.sh_ir.specs.Operands.{all_of_bits, can_multiply, operands_fit}
use Rattle.sh_ir.specs.Regions.{is_among}
use Rattle.sh_ir.specs.Results.{has_output_type, result_fits}
use Rattle.sh_ir.specs.Scope.{Scope}
use Rattle.sh_ir.specs.Typing.{counts_fit, names, operand_types, typing_of}
use Rattle.sh_ir.specs.Written.{first_type}
use Rattle.sh_loops.specs.Nests.{all_follow_loops, follows_loops}
use Rattle.sh_loops.specs.Structured.{CanNest}
use Rattle.sh_loops.specs.Structures.{HasFewLoops}
use Rattle.sh_loops.proofs.InsideLaws.{below_by, both_left, both_right}
use Rattle.sh_sem.specs.Scalars.{width_of}
use Rattle.sh_tensor.specs.Tensor.{TensorValue}
use Rattle.sh_eval.specs.Evaluations.{FitsKind}
use Rattle.sh_eval.specs.Sources.{AreOfValueTypes, has_value}
use Rattle.sh_collectives.proofs.CapturedLaws.{all_filtered}
use Rattle.sh_eval.proofs.NestFits.{can_nest, output_width, single_follows, widths_alike, widths_not_more}
use Rattle.sh_collectives.proofs.RuleLaws.{all_back, all_front, is_not, neither_left, neither_right}
use Rattle.sh_eval.proofs.RuleFacts.{OneOutput, one_output}
use Rattle.sh_eval.proofs.TypeLaws.{equal_numbers}

-- ---- values of the operands' types

-- the output's type has tensors
pub output_value : (inputs : ℕ) (x : InsOuts) (one : OneOutput inputs x) → list_all has_value (operand_types x) ≡ true
    → has_value one.out ≡ true
output_value inputs x one h =
    both_left (has_value one.out) true (subst (λ ts. list_all has_value ts ≡ true) one.outs (all_back has_value x.ins_types x.outs_types h))

first_is : (inputs : ℕ) (x : InsOuts) (one : OneOutput inputs x) → first_type x.outs_types ≡ one.out
first_is inputs x one = ap first_type one.outs

-- ---- products

multiplies : (x : InsOuts) → can_multiply x ≡ true
    → list_all (λ t. nat_le (cell_bits t) (cell_bits (first_type x.outs_types))) x.ins_types ≡ true
unfolding can_multiply
multiplies x h = both_right _ _ h

-- what is known of the types of a product
record IsProduct (x : InsOuts) (result : ValueType) : Type 0 where
  counts : names 2 x ≡ true
  values : list_all has_value (operand_types x) ≡ true
  value : has_value result ≡ true
  multiply : can_multiply x ≡ true
  gives : has_output_type x.outs_types result ≡ true

-- the common part of products and convolutions
product_nests : (x : InsOuts) (loops : ℕ) (first second output : LoopMap) (operands : List ℕ) (result : ValueType) (ts : List TensorValue)
    → IsProduct x result → loops ≤ max_rank
    → all_follow_loops loops (first ∷ second ∷ output ∷ []) ≡ true → AreOfValueTypes (operand_types x ++ []) ts
    → CanNest (product x loops first second output) operands (width_of result) ts
product_nests x loops first second output operands result ts is few follow typed =
    let one = one_output 2 x is.counts in
    let value = output_value 2 x one is.values in
    let same = output_width x one.out result one.outs value is.value is.gives in
    can_nest (product x loops first second output) operands result [] ts
    (record { out = one.out; outs = one.outs; inputs = sym one.ins; width = same; few = few; follow = follow }) typed
    (widths_not_more one.out (width_of result) x.ins_types value same (all_front has_value x.ins_types x.outs_types is.values)
    (subst (λ t. list_all (λ u. nat_le (cell_bits u) (cell_bits t)) x.ins_types ≡ true) (first_is 2 x one) (multiplies x is.multiply)))

pub matmul_fits : (scope : Scope) (x : InsOuts) (operands : List ℕ) (result : ValueType) (ts : List TensorValue)
    → AreOfValueTypes (typing_of (Matmul x) result ++ []) ts → list_all has_value (typing_of (Matmul x) result) ≡ true
    → has_value result ≡ true → counts_fit (Matmul x) operands ≡ true → operands_fit scope (Matmul x) result ≡ true
    → result_fits scope (Matmul x) result ≡ true → FitsKind (Matmul x) operands result ts
unfolding FitsKind HasFewLoops structure_of typing_of counts_fit operands_fit result_fits
matmul_fits scope x operands result ts typed values value counts fits gives = record {
  few = tt;
  fits =
      product_nests x 3 _ _ _ operands result ts
      (record { counts = counts; values = values; value = value; multiply = both_left _ _ fits; gives = gives }) (omega arith) refl typed;
}

pub batch_matmul_fits : (scope : Scope) (x : InsOuts) (operands : List ℕ) (result : ValueType) (ts : List TensorValue)
    → AreOfValueTypes (typing_of (BatchMatmul x) result ++ []) ts → list_all has_value (typing_of (BatchMatmul x) result) ≡ true
    → has_value result ≡ true → counts_fit (BatchMatmul x) operands ≡ true → operands_fit scope (BatchMatmul x) result ≡ true
    → result_fits scope (BatchMatmul x) result ≡ true → FitsKind (BatchMatmul x) operands result ts
unfolding FitsKind HasFewLoops structure_of typing_of counts_fit operands_fit result_fits
batch_matmul_fits scope x operands result ts typed values value counts fits gives = record {
  few = tt;
  fits =
      product_nests x 4 _ _ _ operands result ts
      (record { counts = counts; values = values; value = value; multiply = both_left _ _ fits; gives = gives }) (omega arith) refl typed;
}

pub matvec_fits : (scope : Scope) (x : InsOuts) (operands : List ℕ) (result : ValueType) (ts : List TensorValue)
    → AreOfValueTypes (typing_of (Matvec x) result ++ []) ts → list_all has_value (typing_of (Matvec x) result) ≡ true
    → has_value result ≡ true → counts_fit (Matvec x) operands ≡ true → operands_fit scope (Matvec x) result ≡ true
    → result_fits scope (Matvec x) result ≡ true → FitsKind (Matvec x) operands result ts
unfolding FitsKind HasFewLoops structure_of typing_of counts_fit operands_fit result_fits
matvec_fits scope x operands result ts typed values value counts fits gives = record {
  few = tt;
  fits =
      product_nests x 2 _ _ _ operands result ts
      (record { counts = counts; values = values; value = value; multiply = both_left _ _ fits; gives = gives }) (omega arith) refl typed;
}

pub vecmat_fits : (scope : Scope) (x : InsOuts) (operands : List ℕ) (result : ValueType) (ts : List TensorValue)
    → AreOfValueTypes (typing_of (Vecmat x) result ++ []) ts → list_all has_value (typing_of (Vecmat x) result) ≡ true
    → has_value result ≡ true → counts_fit (Vecmat x) operands ≡ true → operands_fit scope (Vecmat x) result ≡ true
    → result_fits scope (Vecmat x) result ≡ true → FitsKind (Vecmat x) operands result ts
unfolding FitsKind HasFewLoops structure_of typing_of counts_fit operands_fit result_fits
vecmat_fits scope x operands result ts typed values value counts fits gives = record {
  few = tt;
  fits =
      product_nests x 2 _ _ _ operands result ts
      (record { counts = counts; values = values; value = value; multiply = both_left _ _ fits; gives = gives }) (omega arith) refl typed;
}

pub dot_fits : (scope : Scope) (x : InsOuts) (operands : List ℕ) (result : ValueType) (ts : List TensorValue)
    → AreOfValueTypes (typing_of (Dot x) result ++ []) ts → list_all has_value (typing_of (Dot x) result) ≡ true
    → has_value result ≡ true → counts_fit (Dot x) operands ≡ true → operands_fit scope (Dot x) result ≡ true
    → result_fits scope (Dot x) result ≡ true → FitsKind (Dot x) operands result ts
unfolding FitsKind HasFewLoops structure_of typing_of counts_fit operands_fit result_fits
dot_fits scope x operands result ts typed values value counts fits gives = record {
  few = tt;
  fits =
      product_nests x 1 _ _ _ operands result ts
      (record { counts = counts; values = values; value = value; multiply = both_left _ _ fits; gives = gives }) (omega arith) refl typed;
}

pub conv_1d_fits : (scope : Scope) (x : InsOuts) (operands : List ℕ) (result : ValueType) (ts : List TensorValue)
    → AreOfValueTypes (typing_of (Conv1d x) result ++ []) ts → list_all has_value (typing_of (Conv1d x) result) ≡ true
    → has_value result ≡ true → counts_fit (Conv1d x) operands ≡ true → operands_fit scope (Conv1d x) result ≡ true
    → result_fits scope (Conv1d x) result ≡ true → FitsKind (Conv1d x) operands result ts
unfolding FitsKind HasFewLoops structure_of typing_of counts_fit operands_fit result_fits
conv_1d_fits scope x operands result ts typed values value counts fits gives = record {
  few = tt;
  fits =
      product_nests x 2 _ _ _ operands result ts
      (record { counts = counts; values = values; value = value; multiply = both_left _ _ fits; gives = gives }) (omega arith) refl typed;
}

pub conv_2d_fits : (scope : Scope) (x : InsOuts) (operands : List ℕ) (result : ValueType) (ts : List TensorValue)
    → AreOfValueTypes (typing_of (Conv2d x) result ++ []) ts → list_all has_value (typing_of (Conv2d x) result) ≡ true
    → has_value result ≡ true → counts_fit (Conv2d x) operands ≡ true → operands_fit scope (Conv2d x) result ≡ true
    → result_fits scope (Conv2d x) result ≡ true → FitsKind (Conv2d x) operands result ts
unfolding FitsKind HasFewLoops structure_of typing_of counts_fit operands_fit result_fits
conv_2d_fits scope x operands result ts typed values value counts fits gives = record {
  few = tt;
  fits =
      product_nests x 4 _ _ _ operands result ts
      (record { counts = counts; values = values; value = value; multiply = both_left _ _ fits; gives = gives }) (omega arith) refl typed;
}

-- ---- maps of copies

pub range_below : (a k n : ℕ) → a + k ≤ n → list_all (λ l. nat_lt l n) (range_with_len a k) ≡ true
range_below a zero n le = refl
range_below a (suc k) n le =
    let rest = range_below (a + 1) k n (omega (arith, le)) in
    let below : a < n = omega (arith, le) in
    let here : nat_lt a n ≡ true = grind (arith, nat_tests) in
    rw (here, rest) refl

pub identity_follows : (n : ℕ) → follows_loops n (identity_map n) ≡ true
identity_follows n = single_follows n (range_with_len 0 n) (range_below 0 n n (omega arith))

pub unlisted_follows : (n : ℕ) (listed : List ℕ) → follows_loops n (single (unlisted n listed)) ≡ true
unlisted_follows n listed =
    single_follows n (unlisted n listed) (all_filtered (λ l. nat_lt l n) (λ k. not (is_among listed k)) (range_with_len 0 n)
    (range_below 0 n n (omega arith)))

-- distinct numbers below a bound, as many as the bound, are all of them
distinct_as_keys : (numbers : List ℕ) → are_distinct numbers ≡ true → IsDistinct nat_eq numbers
unfolding IsDistinct
distinct_as_keys [] h = tt
distinct_as_keys (n ∷ numbers) h = (
  apart numbers (is_not (is_among numbers n) (both_left (not (is_among numbers n)) (are_distinct numbers) h)),
  distinct_as_keys numbers
      (both_right (not (is_among numbers n)) (are_distinct numbers) h),
)
  where
    apart : (others : List ℕ) → is_among others n ≡ false → AllByRecursion (λ m. nat_eq n m ≡ false) others
    apart [] e = tt
    apart (m ∷ others) e =
        (neither_left (nat_eq n m) (is_among others n) e, apart others (neither_right (nat_eq n m) (is_among others n) e))

among_below : (n : ℕ) (numbers : List ℕ) (k q : ℕ) → k < n → list_all (λ m. nat_lt m n) numbers ≡ true
    → list_any (nat_eq q) (k ∷ numbers) ≡ true → q < n
among_below n numbers k q below all found = go (nat_eq q k) (λ e. same e) (λ e. rest numbers all e) found
  where
    same : nat_eq q k ≡ true → q < n
    same e = let is = equal_numbers q k e in omega (arith, is, below)

    rest : (others : List ℕ) → list_all (λ m. nat_lt m n) others ≡ true → list_any (nat_eq q) others ≡ true → q < n
    rest [] passed e = absurd (cc)
    rest (m ∷ others) passed e =
        elim (cases_Bool (nat_eq q m)) [
          | inl b ↦
              let is = equal_numbers q m b in let lt = below_by m n
              (both_left (nat_lt m n) (list_all (λ i. nat_lt i n) others) passed) in omega (arith, is, lt)
          | inr b ↦ rest others (both_right (nat_lt m n) (list_all (λ i. nat_lt i n) others) passed) (rw b at e)
        ]

    go : (b : Bool) → (b ≡ true → q < n) → (list_any (nat_eq q) numbers ≡ true → q < n) → (b || list_any (nat_eq q) numbers) ≡ true → q < n
    go true f g e = f refl
    go false f g e = g e

pub all_listed : (n : ℕ) (numbers : List ℕ) (k : ℕ) → length numbers ≡ n → list_all (λ m. nat_lt m n) numbers ≡ true
    → are_distinct numbers ≡ true → k < n → is_among numbers k ≡ true
all_listed n numbers k long below distinct l =
    elim (cases_Bool (is_among numbers k)) [
      | inl b ↦ b
      | inr b ↦
          let apart : are_distinct (k ∷ numbers) ≡ true = rw (b, distinct) refl in
          let few = length-le_from_distinct_below (k ∷ numbers) n (distinct_as_keys (k ∷ numbers) apart)
          (λ q found. among_below n numbers k q l below found) in
          absurd (omega (arith, few, long))
    ]

-- a number of the list has a place in it
place_below : (k : ℕ) (numbers : List ℕ) → is_among numbers k ≡ true → position_or_len (nat_eq k) numbers < length numbers
place_below k [] h = absurd (cc)
place_below k (m ∷ numbers) h =
    elim (cases_Bool (nat_eq k m)) [
      | inl b ↦ rw b (omega arith)
      | inr b ↦ let rest = place_below k numbers (rw b at h) in rw b (omega (arith, rest))
    ]

places_below : (n a count : ℕ) (numbers : List ℕ) → length numbers ≡ n → list_all (λ m. nat_lt m n) numbers ≡ true
    → are_distinct numbers ≡ true → a + count ≤ n
    → list_all (λ l. nat_lt l n) (map (λ k. position_or_len (nat_eq k) numbers) (range_with_len a count)) ≡ true
places_below n a zero numbers long below distinct le = refl
places_below n a (suc count) numbers long below distinct le =
    let lt = place_below a numbers (all_listed n numbers a long below distinct (omega (arith, le))) in
    let at : ℕ = position_or_len (nat_eq a) numbers in
    let under : at < n = omega (arith, lt, long) in
    let here : nat_lt at n ≡ true = grind (arith, nat_tests) in
    let rest = places_below n (a + 1) count numbers long below distinct (omega (arith, le)) in
    rw (here, rest) refl

naturals_below : (n : ℕ) (zs : List ℤ) → list_all (is_below n) zs ≡ true → list_all (λ m. nat_lt m n) (as_naturals zs) ≡ true
naturals_below n [] h = refl
naturals_below n (z ∷ zs) h =
    let here = both_right _ (nat_lt (as_natural z) n) (both_left (is_below n z) (list_all (is_below n) zs) h) in
    let rest = naturals_below n zs (both_right (is_below n z) (list_all (is_below n) zs) h) in
    rw (here, rest) refl

-- ---- few loops

-- the output has few dimensions
pub output_short : (inputs : ℕ) (x : InsOuts) (more : List ValueType) → OneOutput inputs x
    → list_all has_few_dims (operand_types x ++ more) ≡ true → output_rank x ≤ max_rank
unfolding has_few_dims
output_short inputs x more one h =
    let outs = subst (λ ts. list_all has_few_dims ts ≡ true) one.outs
    (all_back has_few_dims x.ins_types x.outs_types (all_front has_few_dims (operand_types x) more h)) in
    let short : nat_le (rank_of one.out) max_rank ≡ true = both_left (has_few_dims one.out) true outs in
    let le : rank_of one.out ≤ max_rank = grind (arith, nat_tests) in
    subst (λ t. rank_of t ≤ max_rank) (sym (first_is inputs x one)) le

-- and so has the input
pub input_short : (x : InsOuts) (more : List ValueType) → list_all has_few_dims (operand_types x ++ more) ≡ true → input_rank x ≤ max_rank
unfolding has_few_dims
input_short x more h = go x.ins_types (all_front has_few_dims x.ins_types x.outs_types (all_front has_few_dims (operand_types x) more h))
  where
    go : (ts : List ValueType) → list_all has_few_dims ts ≡ true → rank_of (first_type ts) ≤ max_rank
    go [] e = omega arith
    go (t ∷ ts) e =
        let short : nat_le (rank_of t) max_rank ≡ true = both_left (has_few_dims t) (list_all has_few_dims ts) e in grind (arith, nat_tests)

-- ---- copies

alike : (x : InsOuts) → all_of_bits x ≡ true → list_all (same_bits (first_type x.outs_types)) x.ins_types ≡ true
unfolding all_of_bits
alike x h = h

-- what is known of the types of a copy
record IsCopy (x : InsOuts) (result : ValueType) : Type 0 where
  counts : names 1 x ≡ true
  values : list_all has_value (operand_types x) ≡ true
  value : has_value result ≡ true
  bits : all_of_bits x ≡ true
  gives : has_output_type x.outs_types result ≡ true

-- the common part of fills, transpositions and broadcasts
copy_nests : (x : InsOuts) (input : LoopMap) (operands : List ℕ) (result : ValueType) (ts : List TensorValue) → IsCopy x result
    → output_rank x ≤ max_rank → follows_loops (output_rank x) input ≡ true
    → AreOfValueTypes (operand_types x ++ []) ts → CanNest (copy x input) operands (width_of result) ts
copy_nests x input operands result ts is few follow typed =
    let one = one_output 1 x is.counts in
    let value = output_value 1 x one is.values in
    let same = output_width x one.out result one.outs value is.value is.gives in
    can_nest (copy x input) operands result [] ts
    (record {
      out = one.out;
      outs = one.outs;
      inputs = sym one.ins;
      width = same;
      few = few;
      follow = let own = identity_follows
          (output_rank x) in rw (follow, own) refl;
    }) typed
    (widths_alike one.out (width_of result) x.ins_types value same (all_front has_value x.ins_types x.outs_types is.values)
    (subst (λ t. list_all (same_bits t) x.ins_types ≡ true) (first_is 1 x one) (alike x is.bits)))

pub fill_fits : (scope : Scope) (x : InsOuts) (operands : List ℕ) (result : ValueType) (ts : List TensorValue)
    → AreOfValueTypes (typing_of (Fill x) result ++ []) ts → list_all has_value (typing_of (Fill x) result) ≡ true
    → has_value result ≡ true → list_all has_few_dims (operand_types x ++ result ∷ []) ≡ true → counts_fit (Fill x) operands ≡ true
    → operands_fit scope (Fill x) result ≡ true → result_fits scope (Fill x) result ≡ true
    → FitsKind (Fill x) operands result ts
unfolding FitsKind HasFewLoops structure_of typing_of counts_fit operands_fit result_fits
fill_fits scope x operands result ts typed values value short counts fits gives =
    let few = output_short 1 x (result ∷ []) (one_output 1 x counts) short in
    record {
      few = few;
      fits =
          copy_nests x [] operands result ts
          (record { counts = counts; values = values; value = value; bits = both_left _ _ fits; gives = gives }) few refl typed;
    }

pub broadcast_fits : (scope : Scope) (x : declared_broadcast.Broadcast) (operands : List ℕ) (result : ValueType) (ts : List TensorValue)
    → AreOfValueTypes (typing_of (Broadcast x) result ++ []) ts
    → list_all has_value (typing_of (Broadcast x) result) ≡ true → has_value result ≡ true
    → list_all has_few_dims (operand_types x.ins_outs ++ []) ≡ true → counts_fit (Broadcast x) operands ≡ true
    → operands_fit scope (Broadcast x) result ≡ true → result_fits scope (Broadcast x) result ≡ true
    → FitsKind (Broadcast x) operands result ts
unfolding FitsKind HasFewLoops structure_of typing_of counts_fit operands_fit result_fits
broadcast_fits scope x operands result ts typed values value short counts fits gives =
    let few = output_short 1 x.ins_outs [] (one_output 1 x.ins_outs counts) short in
    record {
      few = few;
      fits =
          copy_nests x.ins_outs _ operands result ts
          (record { counts = counts; values = values; value = value; bits = both_left _ _ fits; gives = gives }) few
          (unlisted_follows (output_rank x.ins_outs) (as_naturals x.dimensions)) typed;
    }

transpose_places : (n m : ℕ) (zs : List ℤ) → m ≡ n → nat_eq (length zs) n ≡ true → are_axes_below n zs ≡ true
    → follows_loops n (single (places_in m (as_naturals zs))) ≡ true
transpose_places n m zs ranks long axes =
    let counted : length (as_naturals zs) ≡ n = length-map zs as_natural ∙ equal_numbers (length zs) n long in
    single_follows n (places_in m (as_naturals zs))
    (places_below n 0 m (as_naturals zs) counted
    (naturals_below n zs (both_left (list_all (is_below n) zs) (are_distinct (as_naturals zs)) axes))
    (both_right (list_all (is_below n) zs) (are_distinct (as_naturals zs)) axes) (omega (arith, ranks)))

transpose_ranks : (scope : Scope) (x : declared_transpose.Transpose) (result : ValueType) → operands_fit scope (Transpose x) result ≡ true
    → input_rank x.ins_outs ≡ output_rank x.ins_outs
unfolding operands_fit
transpose_ranks scope x result fits = equal_numbers (input_rank x.ins_outs) (output_rank x.ins_outs) (both_left _ _ (both_right _ _ fits))

pub transpose_fits : (scope : Scope) (x : declared_transpose.Transpose) (operands : List ℕ) (result : ValueType) (ts : List TensorValue)
    → AreOfValueTypes (typing_of (Transpose x) result ++ []) ts
    → list_all has_value (typing_of (Transpose x) result) ≡ true → has_value result ≡ true
    → list_all has_few_dims (operand_types x.ins_outs ++ []) ≡ true → counts_fit (Transpose x) operands ≡ true
    → operands_fit scope (Transpose x) result ≡ true → result_fits scope (Transpose x) result ≡ true
    → numbers_fit scope (Transpose x) result ≡ true → FitsKind (Transpose x) operands result ts
unfolding FitsKind HasFewLoops structure_of typing_of counts_fit operands_fit result_fits numbers_fit
transpose_fits scope x operands result ts typed values value short counts fits gives numbers =
    let few = output_short 1 x.ins_outs [] (one_output 1 x.ins_outs counts) short in
    let ranks : input_rank x.ins_outs ≡ output_rank x.ins_outs = transpose_ranks scope x result fits in
    let long = both_left (nat_eq (length x.permutation) (output_rank x.ins_outs))
    (are_axes_below (output_rank x.ins_outs) x.permutation) numbers in
    let axes = both_right (nat_eq (length x.permutation) (output_rank x.ins_outs))
    (are_axes_below (output_rank x.ins_outs) x.permutation) numbers in
    let counted : length x.permutation ≡ output_rank x.ins_outs = equal_numbers (length x.permutation) (output_rank x.ins_outs) long in
    record {
      few = record { input = omega (arith, ranks, few); output = few; permutation = omega (arith, counted, few) };
      fits =
          copy_nests x.ins_outs _ operands result ts
          (record { counts = counts; values = values; value = value; bits = both_left _ _ fits; gives = gives }) few
          (transpose_places (output_rank x.ins_outs) (input_rank x.ins_outs) x.permutation ranks long axes) typed;
    }
