-- Types that are the same, and tensors of the types that are written for them.
use Rattle.std.proofs.Common.{◌≡◌, ℕ, suc, true, List, [], ◌∷◌, ◌++◌, map, length, Option, Some, None, refl, ap, ap₂, sym, ◌∙◌, arith, subst}
use Rattle.std.proofs.lemmas.Bool.Decides.{nat_tests}
use Rattle.std.specs.Cmp.Lexicographic.{pointwise}
use Rattle.std.specs.List.{AllByRecursion, list_all}
use Rattle.std.specs.Prelude.{IsSomeAnd, is_some, nat_eq, option_map}
use Rattle.std.specs.Option.{option_map_or}
use Rattle.sh_base.specs.Cells.{bits_of}
use Rattle.sh_base.specs.declared.numbers.Width.{Width}
use Rattle.sh_base.specs.declared.numbers.Width.TheVariants.{I1, I8, I16, I32, I64}
use Rattle.sh_ir.specs.declared.types.Dim.{Dim}
use Rattle.sh_ir.specs.declared.types.Dim.TheVariants.{Known, Differs}
use Rattle.sh_ir.specs.declared.types.ValueType.{ValueType}
use Rattle.sh_ir.specs.declared.types.ValueType.TheVariants.{Nothing, Scalar, Tensor, Sharding, Index}
use Rattle.sh_ir.specs.Agreement.{cell_bits, same_dim, same_type}
use Rattle.sh_ir.specs.Scope.{Value, is_defined, value_named}
use Rattle.sh_ir.specs.Typing.{are_of_types, is_of_type}
use Rattle.sh_sem.specs.Meaning.{Values}
use Rattle.sh_sem.specs.Scalars.{width_of}
use Rattle.sh_tensor.specs.Tensor.{IsTensor, TensorValue}
use Rattle.sh_turns.specs.Program.{all_there}
use Rattle.sh_loops.proofs.InsideLaws.{both_left, both_right}
use Rattle.sh_eval.specs.Sources.{AreOfValueTypes, HaveTypes, IsOfValueType, has_value}

-- ---- widths, extents and types by their tests

pub one_width : (v w : Width) → nat_eq (bits_of v) (bits_of w) ≡ true → v ≡ w
one_width I1 I1 h = refl
one_width I1 I8 h = absurd (cc)
one_width I1 I16 h = absurd (cc)
one_width I1 I32 h = absurd (cc)
one_width I1 I64 h = absurd (cc)
one_width I8 I1 h = absurd (cc)
one_width I8 I8 h = refl
one_width I8 I16 h = absurd (cc)
one_width I8 I32 h = absurd (cc)
one_width I8 I64 h = absurd (cc)
one_width I16 I1 h = absurd (cc)
one_width I16 I8 h = absurd (cc)
one_width I16 I16 h = refl
one_width I16 I32 h = absurd (cc)
one_width I16 I64 h = absurd (cc)
one_width I32 I1 h = absurd (cc)
one_width I32 I8 h = absurd (cc)
one_width I32 I16 h = absurd (cc)
one_width I32 I32 h = refl
one_width I32 I64 h = absurd (cc)
one_width I64 I1 h = absurd (cc)
one_width I64 I8 h = absurd (cc)
one_width I64 I16 h = absurd (cc)
one_width I64 I32 h = absurd (cc)
one_width I64 I64 h = refl

pub equal_numbers : (m n : ℕ) → nat_eq m n ≡ true → m ≡ n
equal_numbers m n h = grind (arith, nat_tests)

one_dim : (d e : Dim) → same_dim d e ≡ true → d ≡ e
one_dim (Known m) (Known n) h = ap (λ k. Known k) (equal_numbers m n h)
one_dim (Known m) Differs h = absurd (cc)
one_dim Differs (Known n) h = absurd (cc)
one_dim Differs Differs h = refl

one_shape : (ds es : List Dim) → pointwise same_dim ds es ≡ true → ds ≡ es
one_shape [] [] h = refl
one_shape [] (e ∷ es) h = absurd (cc)
one_shape (d ∷ ds) [] h = absurd (cc)
one_shape (d ∷ ds) (e ∷ es) h =
    ap₂ ◌∷◌ (one_dim d e (both_left (same_dim d e) (pointwise same_dim ds es) h))
    (one_shape ds es (both_right (same_dim d e) (pointwise same_dim ds es) h))

-- two types that the test of rules takes for the same are one
pub one_type : (t u : ValueType) → same_type t u ≡ true → t ≡ u
one_type (Tensor t) (Tensor u) h =
    ap₂ (λ dims w. Tensor (record { dims = dims; width = w }))
    (one_shape t.dims u.dims (both_right (nat_eq (bits_of t.width) (bits_of u.width)) (pointwise same_dim t.dims u.dims) h))
    (one_width t.width u.width (both_left (nat_eq (bits_of t.width) (bits_of u.width)) (pointwise same_dim t.dims u.dims) h))
one_type (Scalar v) (Scalar w) h = ap (λ x. Scalar x) (one_width v w h)
one_type Nothing Nothing h = refl
one_type Sharding Sharding h = refl
one_type Index Index h = refl
one_type (Tensor t) (Scalar w) h = absurd (cc)
one_type (Tensor t) Nothing h = absurd (cc)
one_type (Tensor t) Sharding h = absurd (cc)
one_type (Tensor t) Index h = absurd (cc)
one_type (Scalar v) (Tensor u) h = absurd (cc)
one_type (Scalar v) Nothing h = absurd (cc)
one_type (Scalar v) Sharding h = absurd (cc)
one_type (Scalar v) Index h = absurd (cc)
one_type Nothing (Tensor u) h = absurd (cc)
one_type Nothing (Scalar w) h = absurd (cc)
one_type Nothing Sharding h = absurd (cc)
one_type Nothing Index h = absurd (cc)
one_type Sharding (Tensor u) h = absurd (cc)
one_type Sharding (Scalar w) h = absurd (cc)
one_type Sharding Nothing h = absurd (cc)
one_type Sharding Index h = absurd (cc)
one_type Index (Tensor u) h = absurd (cc)
one_type Index (Scalar w) h = absurd (cc)
one_type Index Nothing h = absurd (cc)
one_type Index Sharding h = absurd (cc)

-- types with cells that have so many bits
pub width_by_bits : (t u : ValueType) → has_value t ≡ true → has_value u ≡ true → nat_eq (cell_bits t) (cell_bits u) ≡ true
    → width_of t ≡ width_of u
width_by_bits (Tensor t) (Tensor u) a b h = one_width t.width u.width h
width_by_bits (Tensor t) (Scalar w) a b h = one_width t.width w h
width_by_bits (Scalar v) (Tensor u) a b h = one_width v u.width h
width_by_bits (Scalar v) (Scalar w) a b h = one_width v w h
width_by_bits (Tensor t) Nothing a b h = absurd (cc)
width_by_bits (Tensor t) Sharding a b h = absurd (cc)
width_by_bits (Tensor t) Index a b h = absurd (cc)
width_by_bits (Scalar v) Nothing a b h = absurd (cc)
width_by_bits (Scalar v) Sharding a b h = absurd (cc)
width_by_bits (Scalar v) Index a b h = absurd (cc)
width_by_bits Nothing u a b h = absurd (cc)
width_by_bits Sharding u a b h = absurd (cc)
width_by_bits Index u a b h = absurd (cc)

pub bits_are : (t : ValueType) → has_value t ≡ true → cell_bits t ≡ bits_of (width_of t)
bits_are (Tensor t) h = refl
bits_are (Scalar w) h = refl
bits_are Nothing h = absurd (cc)
bits_are Sharding h = absurd (cc)
bits_are Index h = absurd (cc)

-- ---- tensors of types

pub typed_width : (type : ValueType) (t : TensorValue) → IsOfValueType type t → t.width ≡ width_of type
typed_width (Tensor type) t h = h.width
typed_width (Scalar w) t h = h.width
typed_width Nothing t h = absurd h
typed_width Sharding t h = absurd h
typed_width Index t h = absurd h

pub typed_whole : (type : ValueType) (t : TensorValue) → IsOfValueType type t → IsTensor t
typed_whole (Tensor type) t h = h.whole
typed_whole (Scalar w) t h = h.whole
typed_whole Nothing t h = absurd h
typed_whole Sharding t h = absurd h
typed_whole Index t h = absurd h

-- the widths of tensors are those of their types
pub typed_widths : (types : List ValueType) (ts : List TensorValue) → AreOfValueTypes types ts → map (λ t. t.width) ts ≡ map width_of types
typed_widths [] [] h = refl
typed_widths [] (t ∷ ts) h = absurd h
typed_widths (type ∷ types) [] h = absurd h
typed_widths (type ∷ types) (t ∷ ts) h = ap₂ ◌∷◌ (typed_width type t h.0) (typed_widths types ts h.1)

pub typed_long : (types : List ValueType) (ts : List TensorValue) → AreOfValueTypes types ts → length ts ≡ length types
typed_long [] [] h = refl
typed_long [] (t ∷ ts) h = absurd h
typed_long (type ∷ types) [] h = absurd h
typed_long (type ∷ types) (t ∷ ts) h = ap suc (typed_long types ts h.1)

pub all_whole : (types : List ValueType) (ts : List TensorValue) → AreOfValueTypes types ts → AllByRecursion IsTensor ts
all_whole [] [] h = tt
all_whole [] (t ∷ ts) h = absurd h
all_whole (type ∷ types) [] h = absurd h
all_whole (type ∷ types) (t ∷ ts) h = (typed_whole type t h.0, all_whole types ts h.1)

-- ---- values of these types by their names

abbrev pub AreNamed : Values → List ValueType → List ℕ → Type 0
AreNamed values [] [] = Unit {0}
AreNamed values [] (n ∷ names) = ⊥
AreNamed values (type ∷ types) [] = ⊥
AreNamed values (type ∷ types) (n ∷ names) = IsSomeAnd (values n) (IsOfValueType type) × AreNamed values types names

-- names of values of these types, one list behind the other
pub named_both : (values : Values) (types more : List ValueType) (names others : List ℕ) → AreNamed values types names
    → AreNamed values more others → AreNamed values (types ++ more) (names ++ others)
named_both values [] more [] others h k = k
named_both values [] more (n ∷ names) others h k = absurd h
named_both values (type ∷ types) more [] others h k = absurd h
named_both values (type ∷ types) more (n ∷ names) others h k = (h.0, named_both values types more names others h.1 k)

-- they are there
pub record Found (values : Values) (types : List ValueType) (names : List ℕ) : Type 0 where
  pub ts : List TensorValue
  pub there : all_there (map values names) ≡ Some ts
  pub typed : AreOfValueTypes types ts

found_next : (values : Values) (type : ValueType) (types : List ValueType) (n : ℕ) (names : List ℕ) (o : Option TensorValue) → values n ≡ o
    → IsSomeAnd o (IsOfValueType type) → Found values types names
    → Found values (type ∷ types) (n ∷ names)
found_next values type types n names None e is rest = absurd is
found_next values type types n names (Some t) e is rest = record {
  ts = t ∷ rest.ts;
  there = ap (λ o. all_there (o ∷ map values names)) e ∙ ap (option_map (λ ws. t ∷ ws)) rest.there;
  typed = (is, rest.typed);
}

-- values that are named so are there, each of its type
pub found : (values : Values) (types : List ValueType) (names : List ℕ) → AreNamed values types names → Found values types names
found values [] [] h = record { ts = []; there = refl; typed = tt }
found values [] (n ∷ names) h = absurd h
found values (type ∷ types) [] h = absurd h
found values (type ∷ types) (n ∷ names) h = found_next values type types n names (values n) refl h.0 (found values types names h.1)

-- ---- values of a scope of the types that are written for them

module _ (scope : List Value) (values : Values) (have : HaveTypes scope values) where
  pub named_as : (t : ValueType) (n : ℕ) (o : Option Value) → value_named scope n ≡ o → has_value t ≡ true → is_some o ≡ true
      → option_map_or (λ v. same_type v.value_type t) o true ≡ true
      → IsSomeAnd (values n) (IsOfValueType t)
  named_as t n None e value there same = absurd (cc)
  named_as t n (Some v) e value there same =
      let is = one_type v.value_type t same in
      subst (λ u. IsSomeAnd (values n) (IsOfValueType u)) is (have n v e (subst (λ u. has_value u ≡ true) (sym is) value))

  -- by the rules on operands: each is defined, and of the type that is written for it
  pub named_by : (types : List ValueType) (names : List ℕ) → length names ≡ length types → list_all has_value types ≡ true
      → list_all (is_defined scope) names ≡ true
      → are_of_types scope types names ≡ true → AreNamed values types names
  named_by [] [] long all there same = tt
  named_by [] (n ∷ names) long all there same = absurd (omega (arith, long))
  named_by (t ∷ types) [] long all there same = absurd (omega (arith, long))
  named_by (t ∷ types) (n ∷ names) long all there same = (
    named_as t n (value_named scope n) refl (both_left (has_value t) (list_all has_value types) all)
        (both_left (is_defined scope n) (list_all (is_defined scope) names) there)
        (both_left (is_of_type scope t n) (are_of_types scope types names) same),
    named_by types names (let rest : suc (length names) ≡ suc (length types) = long in omega (arith, rest))
        (both_right (has_value t) (list_all has_value types) all) (both_right (is_defined scope n) (list_all (is_defined scope) names) there)
        (both_right (is_of_type scope t n) (are_of_types scope types names) same),
  )
