-- Structured operations at local types keep the rules of device form.
use Rattle.std.proofs.Common.{◌≡◌, ℕ, suc, ◌+◌, ◌<◌, Bool, true, false, List, [], ◌∷◌, ◌++◌, map, length, Some, refl, ap, ap₂, sym, ◌∙◌, arith, subst, inl, inr, ◌⊎◌}
use Rattle.std.proofs.lemmas.Bool.Decides.{nat_tests}
use Rattle.std.proofs.lemmas.List.{length-map}
use Rattle.std.specs.List.{AllByRecursion, list_all}
use Rattle.std.specs.Prelude.{◌&&◌, flat_map, nat_eq, not, if◌then◌else◌}
use Rattle.std.specs.Cmp.Lexicographic.{pointwise}
use Rattle.sh_base.specs.declared.numbers.Width.{Width}
use Rattle.sh_ir.specs.declared.types.Dim.{Dim}
use Rattle.sh_ir.specs.declared.types.Dim.TheVariants.{Known, Differs}
use Rattle.sh_ir.specs.declared.types.ValueType.{ValueType}
use Rattle.sh_ir.specs.declared.types.ValueType.TheVariants as value_type
use Rattle.sh_ir.specs.declared.types.ValueType.TheVariants.{Scalar}
use Rattle.sh_ir.specs.Agreement.{dims_agree, differs, same_dim, same_type, types_agree}
use Rattle.sh_ir.specs.Loops.{LoopMap, single}
use Rattle.sh_ir.specs.Operands.{Following, all_following, extents_fit, following, has_extent, loop_dim, ranks_fit, sums}
use Rattle.sh_ir.specs.Scope.{Scope, Value, is_defined, value_named}
use Rattle.sh_ir.specs.Typing.{are_of_types, is_of_type, names}
use Rattle.sh_ir.proofs.TypeLaws.{agrees_itself, pairs_with_itself, same_bits as bits_itself, same_dim-itself}
use Rattle.sh_nest_laws.specs.LoopSplits.{Operand}
use Rattle.sh_iface.specs.Elements.{tensor_of}

-- ---- tests

pub both : (a b : Bool) → (a && b) ≡ true → (a ≡ true) × (b ≡ true)
both true b h = (refl, h)
both false b h = absurd (cc)

pub joined : (a b : Bool) → a ≡ true → b ≡ true → (a && b) ≡ true
joined a b h k = rw (h, k) refl

pub all_both : {X : Type 0} (test : X → Bool) (xs ys : List X) → list_all test xs ≡ true → list_all test ys ≡ true → list_all test (xs ++ ys) ≡ true
all_both test [] ys h k = k
all_both test (x ∷ xs) ys h k = let parts = both (test x) (list_all test xs) h in joined (test x) (list_all test (xs ++ ys)) parts.0 (all_both test xs ys parts.1 k)

pub all_by : {X : Type 0} (test : X → Bool) (xs : List X) → AllByRecursion (λ x. test x ≡ true) xs → list_all test xs ≡ true
all_by test [] h = refl
all_by test (x ∷ xs) h = joined (test x) (list_all test xs) h.0 (all_by test xs h.1)

pub itself : (n : ℕ) → nat_eq n n ≡ true
itself n = grind (arith, nat_tests)

pub equal : (m n : ℕ) → m ≡ n → nat_eq m n ≡ true
equal m n e = grind (arith, nat_tests)

-- ---- types

pub type_itself : (t : ValueType) → same_type t t ≡ true
type_itself (value_type.Tensor t) = let a = bits_itself t.width in let b = pairs_with_itself same_dim same_dim-itself t.dims in rw (a, b) refl
type_itself (value_type.Scalar w) = bits_itself w
type_itself value_type.Nothing = refl
type_itself value_type.Sharding = refl
type_itself value_type.Index = refl

pub agrees : (dims : List Dim) (w : Width) → types_agree (tensor_of dims w) (tensor_of dims w) ≡ true
unfolding types_agree
agrees dims w = let a = bits_itself w in let b = pairs_with_itself dims_agree agrees_itself dims in rw (a, b) refl

-- ---- values where an instruction stands

pub record IsValueOf (scope : Scope) (type : ValueType) (name : ℕ) : Type 0 where
  pub found : Value
  pub is : value_named scope.values name ≡ Some found
  pub typed : found.value_type ≡ type

abbrev pub AreValuesOf : Scope → List ValueType → List ℕ → Type 0
AreValuesOf scope [] [] = Unit {0}
AreValuesOf scope [] (name ∷ names) = ⊥
AreValuesOf scope (t ∷ types) [] = ⊥
AreValuesOf scope (t ∷ types) (name ∷ names) = IsValueOf scope t name × AreValuesOf scope types names

pub counted_values : (scope : Scope) (types : List ValueType) (names : List ℕ) → AreValuesOf scope types names → length names ≡ length types
counted_values scope [] [] h = refl
counted_values scope [] (name ∷ names) h = absurd h
counted_values scope (t ∷ types) [] h = absurd h
counted_values scope (t ∷ types) (name ∷ names) h = ap suc (counted_values scope types names h.1)

pub all_defined : (scope : Scope) (types : List ValueType) (names : List ℕ) → AreValuesOf scope types names → list_all (is_defined scope.values) names ≡ true
all_defined scope [] [] h = refl
all_defined scope [] (name ∷ names) h = absurd h
all_defined scope (t ∷ types) [] h = absurd h
all_defined scope (t ∷ types) (name ∷ names) h = let a = h.0.is in let rest = all_defined scope types names h.1 in rw a rest

pub all_typed : (scope : Scope) (types : List ValueType) (names : List ℕ) → AreValuesOf scope types names → are_of_types scope.values types names ≡ true
all_typed scope [] [] h = refl
all_typed scope [] (name ∷ names) h = refl
all_typed scope (t ∷ types) [] h = refl
all_typed scope (t ∷ types) (name ∷ names) h =
    joined (is_of_type scope.values t name) (are_of_types scope.values types names) first (all_typed scope types names h.1)
  where
    first : is_of_type scope.values t name ≡ true
    first = let a = h.0.is in rw a (subst (λ u. same_type u t ≡ true) (sym h.0.typed) (type_itself t))

-- a value that is there stays behind an instruction that defines another name
pub still_named : (values : List Value) (v : Value) (name : ℕ) → name < v.name → value_named (v ∷ values) name ≡ value_named values name
still_named values v name lt = let other : nat_eq v.name name ≡ false = grind (arith, nat_tests) in rw other refl

pub new_named : (values : List Value) (v : Value) → value_named (v ∷ values) v.name ≡ Some v
new_named values v = let same = itself v.name in rw same refl

-- ---- maps

module _ (dim : ℕ → Dim) where
  abbrev one_following : ℕ → Following
  one_following l = record { loops = l ∷ []; dim = dim l }

  abbrev all_dims : List Operand → List ℕ
  all_dims xs = flat_map (λ (x : Operand). x.dims) xs

  abbrev pub types_by : List Operand → List ValueType
  types_by xs = map (λ (x : Operand). tensor_of (map dim x.dims) x.width) xs

  abbrev pub maps_by : List Operand → List LoopMap
  maps_by xs = map (λ (x : Operand). single x.dims) xs

  following_is : (dims : List ℕ) → following (single dims) (map dim dims) ≡ map one_following dims
  following_is [] = refl
  following_is (l ∷ dims) = ap (λ fs. one_following l ∷ fs) (following_is dims)

  map_both : (xs ys : List ℕ) → map one_following (xs ++ ys) ≡ map one_following xs ++ map one_following ys
  map_both [] ys = refl
  map_both (x ∷ xs) ys = ap (λ fs. one_following x ∷ fs) (map_both xs ys)

  all_following_is : (xs : List Operand) → all_following (maps_by xs) (types_by xs) ≡ map one_following (all_dims xs)
  all_following_is [] = refl
  all_following_is (x ∷ xs) = ap₂ (λ a b. a ++ b) (following_is x.dims) (all_following_is xs) ∙ sym (map_both x.dims (all_dims xs))

  ranks_are : (xs : List Operand) → ranks_fit (maps_by xs) (types_by xs) ≡ true
  ranks_are [] = refl
  ranks_are (x ∷ xs) =
      joined (nat_eq (length (single x.dims)) (length (map dim x.dims))) (ranks_fit (maps_by xs) (types_by xs))
      (equal (length (single x.dims)) (length (map dim x.dims)) (length-map x.dims (λ l. l ∷ []) ∙ sym (length-map x.dims dim))) (ranks_are xs)

  -- the extent of a loop is the one that all its dimensions have, where it is known
  dim_found : (dims : List ℕ) (l : ℕ) → (loop_dim (map one_following dims) l ≡ dim l) ⊎ (loop_dim (map one_following dims) l ≡ Differs)
  dim_found [] l = inr refl
  dim_found (k ∷ dims) l = go (pointwise nat_eq (k ∷ []) (l ∷ []) && not (differs (dim k))) refl (dim_found dims l)
    where
      go : (b : Bool) → (pointwise nat_eq (k ∷ []) (l ∷ []) && not (differs (dim k))) ≡ b → (loop_dim (map one_following dims) l ≡ dim l) ⊎ (loop_dim (map one_following dims) l ≡ Differs)
          → ((if b then dim k else loop_dim (map one_following dims) l) ≡ dim l) ⊎ ((if b then dim k else loop_dim (map one_following dims) l) ≡ Differs)
      go true h rest =
          let same : k ≡ l = let e = (both (nat_eq k l) true (both (nat_eq k l && true) (not (differs (dim k))) h).0).0 in grind (arith, nat_tests) in
          inl (ap dim same)
      go false h rest = rest

  sums_itself : (d : Dim) (found : Dim) → (found ≡ d) ⊎ (found ≡ Differs) → sums (found ∷ []) d ≡ true
  sums_itself Differs found h = refl
  sums_itself (Known n) found (inl same) = subst (λ f. sums (f ∷ []) (Known n) ≡ true) (sym same) (let e : n + 1 ≡ 0 + n + 1 = omega arith in equal (n + 1) (0 + n + 1) e)
  sums_itself (Known n) found (inr same) = subst (λ f. sums (f ∷ []) (Known n) ≡ true) (sym same) refl

  each_fits : (all : List ℕ) (dims : List ℕ) → list_all (has_extent (map one_following all)) (map one_following dims) ≡ true
  each_fits all [] = refl
  each_fits all (l ∷ dims) =
      joined (sums (loop_dim (map one_following all) l ∷ []) (dim l)) (list_all (has_extent (map one_following all)) (map one_following dims))
      (sums_itself (dim l) (loop_dim (map one_following all) l) (dim_found all l)) (each_fits all dims)

  extents_are : (xs : List Operand) → extents_fit (all_following (maps_by xs) (types_by xs)) ≡ true
  unfolding extents_fit
  extents_are xs = ap (λ fs. list_all (has_extent fs) fs) (all_following_is xs) ∙ each_fits (all_dims xs) (all_dims xs)

  pub maps_hold : (xs : List Operand) → (ranks_fit (maps_by xs) (types_by xs) && extents_fit (all_following (maps_by xs) (types_by xs))) ≡ true
  maps_hold xs = joined (ranks_fit (maps_by xs) (types_by xs)) (extents_fit (all_following (maps_by xs) (types_by xs))) (ranks_are xs) (extents_are xs)
