-- Structured operations of verified functions can be folded on their operands: what the rules say of their loops, maps and widths.
use Rattle.std.proofs.Common.{◌≡◌, ℕ, zero, suc, ◌+◌, ◌≤◌, true, List, [], ◌∷◌, ◌++◌, map, length, take, drop, refl, ap, ap₂, sym, ◌∙◌, arith, subst, add-one}
use Rattle.std.proofs.lemmas.Bool.Decides.{nat_tests}
use Rattle.std.specs.List.{AllByRecursion, list_all}
use Rattle.std.specs.Prelude.{◌&&◌, nat_le, nat_lt}
use Rattle.sh_base.specs.Cells.{bits_of}
use Rattle.sh_base.specs.Shape.{max_rank}
use Rattle.sh_base.specs.declared.numbers.Width.{Width}
use Rattle.sh_ir.specs.declared.linalg_ops.InsOuts.{InsOuts}
use Rattle.sh_ir.specs.declared.types.ValueType.{ValueType}
use Rattle.sh_ir.specs.Agreement.{cell_bits, dims_of, is_tensor, same_bits, shapes_agree, types_agree}
use Rattle.sh_ir.specs.Loops.{Structure, single}
use Rattle.sh_ir.specs.Results.{has_output_type}
use Rattle.sh_ir.specs.Typing.{operand_types}
use Rattle.sh_loops.specs.Nests.{all_follow_loops, follows_loops}
use Rattle.sh_loops.specs.Structured.{CanNest, FitsStep, widths_of}
use Rattle.sh_loops.proofs.InsideLaws.{both_left, both_right}
use Rattle.sh_sem.specs.Given.{outs_of}
use Rattle.sh_sem.specs.Nest.{maps_of}
use Rattle.sh_sem.specs.Scalars.{width_of}
use Rattle.sh_tensor.specs.Tensor.{TensorValue}
use Rattle.sh_eval.specs.Sources.{AreOfValueTypes, has_value}
use Rattle.sh_eval.proofs.TypeLaws.{bits_are, typed_width, typed_widths, width_by_bits}

-- ---- the widths of inputs, output and scalars

record HaveParts (n : ℕ) (ins : List ValueType) (out : ValueType) (more : List ValueType) (ts : List TensorValue) : Type 0 where
  inputs : widths_of (take n ts) ≡ map width_of ins
  output : AllByRecursion (λ (t : TensorValue). t.width ≡ width_of out) (take 1 (drop n ts))
  scalars : widths_of (drop (suc n) ts) ≡ map width_of more

-- by the types of the inputs, of the output and of the scalars
have_parts : (n : ℕ) (ins : List ValueType) (out : ValueType) (more : List ValueType) (ts : List TensorValue) → n ≡ length ins
    → AreOfValueTypes (ins ++ out ∷ more) ts → HaveParts n ins out more ts
have_parts zero [] out more [] long h = absurd h
have_parts zero [] out more (t ∷ ts) long h =
    record { inputs = refl; output = (typed_width out t h.0, tt); scalars = typed_widths more ts h.1 }
have_parts (suc n) [] out more ts long h = absurd (omega (arith, long))
have_parts zero (type ∷ ins) out more ts long h = absurd (omega (arith, long))
have_parts (suc n) (type ∷ ins) out more [] long h = absurd h
have_parts (suc n) (type ∷ ins) out more (t ∷ ts) long h =
    let shorter : n ≡ length ins = let all : suc n ≡ suc (length ins) = long in omega (arith, all) in
    let rest = have_parts n ins out more ts shorter h.1 in
    record { inputs = ap₂ ◌∷◌ (typed_width type t h.0) rest.inputs; output = rest.output; scalars = rest.scalars }

-- what is known of a structure, and of the types of its operands and its result
pub record IsNestOf (s : Structure) (result : ValueType) : Type 0 where
  pub out : ValueType
  pub outs : s.ins_outs.outs_types ≡ out ∷ []
  pub inputs : length s.inputs ≡ length s.ins_outs.ins_types
  pub width : width_of out ≡ width_of result
  pub few : s.loops ≤ max_rank
  pub follow : all_follow_loops s.loops (maps_of s) ≡ true

-- An operation can be folded on operands of its types, where its step fits their widths.
pub can_nest : (s : Structure) (operands : List ℕ) (result : ValueType) (more : List ValueType) (ts : List TensorValue) → IsNestOf s result
    → AreOfValueTypes (operand_types s.ins_outs ++ more) ts
    → FitsStep s.step (map width_of s.ins_outs.ins_types) (width_of result) (drop (length s.inputs + 1) operands) (map width_of more)
    → CanNest s operands (width_of result) ts
can_nest s operands result more ts is typed step =
    let n = length s.inputs in
    let types : List ValueType = s.ins_outs.ins_types in
    let joined : operand_types s.ins_outs ++ more ≡ types ++ is.out ∷ more = ap (λ outs. (types ++ outs) ++ more) is.outs ∙ seam types in
    let p = have_parts n types is.out more ts is.inputs (subst (λ all. AreOfValueTypes all ts) joined typed) in
    let rest : widths_of (drop (n + 1) ts) ≡ map width_of more = ap (λ k. widths_of (drop k ts)) (add-one n) ∙ p.scalars in
    record {
      few = is.few;
      follow = is.follow;
      output = subst (λ w. AllByRecursion (λ (t : TensorValue). t.width ≡ w) (outs_of s ts)) is.width p.output;
      step =
          subst (λ ws. FitsStep s.step ws (width_of result) (drop (n + 1) operands) (widths_of (drop (n + 1) ts))) (sym p.inputs)
          (subst (λ ws. FitsStep s.step (map width_of types) (width_of result) (drop (n + 1) operands) ws) (sym rest) step);
    }
  where
    seam : (ins : List ValueType) → (ins ++ is.out ∷ []) ++ more ≡ ins ++ is.out ∷ more
    seam [] = refl
    seam (t ∷ ins) = ap (λ all. t ∷ all) (seam ins)

-- ---- the output's type

-- the result has the width of the output
pub output_width : (x : InsOuts) (out result : ValueType) → x.outs_types ≡ out ∷ [] → has_value out ≡ true → has_value result ≡ true
    → has_output_type x.outs_types result ≡ true → width_of out ≡ width_of result
unfolding types_agree
output_width x out result outs a b h =
    let agree : types_agree out result ≡ true = subst (λ ts. has_output_type ts result ≡ true) outs h in
    let bits = both_left (same_bits out result) (shapes_agree (dims_of out) (dims_of result))
    (both_right (is_tensor out && is_tensor result) (same_bits out result && shapes_agree (dims_of out) (dims_of result)) agree) in
    width_by_bits out result a b bits

-- ---- maps

-- a map to loops that there are follows them
pub single_follows : (n : ℕ) (loops : List ℕ) → list_all (λ l. nat_lt l n) loops ≡ true → follows_loops n (single loops) ≡ true
single_follows n [] h = refl
single_follows n (l ∷ loops) h =
    let here = both_left (nat_lt l n) (list_all (λ k. nat_lt k n) loops) h in
    let rest = single_follows n loops (both_right (nat_lt l n) (list_all (λ k. nat_lt k n) loops) h) in
    rw here (rw rest refl)

-- ---- steps

-- the factors of a product are no wider than its output
pub widths_not_more : (out : ValueType) (w : Width) (ins : List ValueType) → has_value out ≡ true → width_of out ≡ w
    → list_all has_value ins ≡ true
    → list_all (λ t. nat_le (cell_bits t) (cell_bits out)) ins ≡ true → AllByRecursion (λ v. bits_of v ≤ bits_of w) (map width_of ins)
widths_not_more out w [] value same values h = tt
widths_not_more out w (t ∷ ins) value same values h =
    let le = both_left (nat_le (cell_bits t) (cell_bits out)) (list_all (λ u. nat_le (cell_bits u) (cell_bits out)) ins) h in
    let mine = bits_are t (both_left (has_value t) (list_all has_value ins) values) in
    let its : cell_bits out ≡ bits_of w = bits_are out value ∙ ap bits_of same in
    let below : cell_bits t ≤ cell_bits out = grind (arith, nat_tests) in (
      omega (arith, mine, its, below),
      widths_not_more out w ins value same (both_right (has_value t) (list_all has_value ins) values)
          (both_right (nat_le (cell_bits t) (cell_bits out)) (list_all (λ u. nat_le (cell_bits u) (cell_bits out)) ins) h),
    )

-- what is copied has the width of the output
pub widths_alike : (out : ValueType) (w : Width) (ins : List ValueType) → has_value out ≡ true → width_of out ≡ w
    → list_all has_value ins ≡ true → list_all (same_bits out) ins ≡ true
    → AllByRecursion (λ v. v ≡ w) (map width_of ins)
widths_alike out w [] value same values h = tt
widths_alike out w (t ∷ ins) value same values h = (
  sym (width_by_bits out t value (both_left (has_value t) (list_all has_value ins) values)
      (both_left (same_bits out t) (list_all (same_bits out) ins) h)) ∙ same,
  widths_alike out w ins value same (both_right (has_value t) (list_all has_value ins) values)
      (both_right (same_bits out t) (list_all (same_bits out) ins) h),
)
