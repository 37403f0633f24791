-- The values of a function that a region uses are scalars of the scope.
use Rattle.std.proofs.Common.{◌≡◌, ℕ, true, false, List, [], ◌∷◌, map, Option, Some, None, refl}
use Rattle.std.specs.List.{list_all}
use Rattle.std.specs.Option.{option_map_or}
use Rattle.std.specs.Prelude.{IsSomeAnd}
use Rattle.sh_ir.specs.declared.operations.OpKind.{OpKind}
use Rattle.sh_ir.specs.declared.types.ValueType.{ValueType}
use Rattle.sh_ir.specs.declared.types.ValueType.TheVariants as value_type
use Rattle.sh_ir.specs.Formed.{captured_in, is_scalar}
use Rattle.sh_ir.specs.Scope.{Value, value_named}
use Rattle.sh_ir.specs.Written.{written_by}
use Rattle.sh_loops.proofs.InsideLaws.{both_left, both_right}
use Rattle.sh_sem.specs.Meaning.{Values}
use Rattle.sh_collectives.proofs.CapturedLaws.{is_usable}
use Rattle.sh_eval.specs.Sources.{HaveTypes, IsOfValueType, has_value}
use Rattle.sh_collectives.specs.VerifiedOps.{HaveScalarConstants}
use Rattle.sh_eval.proofs.TypeLaws.{AreNamed}

-- the type of the value that a name stands for
abbrev pub type_named : List Value → ℕ → ValueType
type_named scope name = option_map_or (λ v. v.value_type) (value_named scope name) value_type.Nothing

-- the types of the values that a region uses
abbrev pub captured_types : List Value → OpKind → List ValueType
captured_types scope kind = map (type_named scope) (captured_in (written_by kind))

pub scalar_value : (t : ValueType) → is_scalar t ≡ true → has_value t ≡ true
scalar_value (value_type.Scalar w) h = refl
scalar_value (value_type.Tensor t) h = absurd (cc)
scalar_value value_type.Nothing h = absurd (cc)
scalar_value value_type.Sharding h = absurd (cc)
scalar_value value_type.Index h = absurd (cc)

module _ (scope : List Value) (constants : HaveScalarConstants scope) where
  usable_scalar : (n : ℕ) (o : Option Value) → value_named scope n ≡ o → option_map_or (λ v. v.is_constant) o false ≡ true
      → is_scalar (option_map_or (λ v. v.value_type) o value_type.Nothing) ≡ true
  usable_scalar n None e h = absurd (cc)
  usable_scalar n (Some v) e h = constants n v e h

  -- and are scalars
  pub usable_scalars : (names : List ℕ) → list_all (is_usable scope) names ≡ true → list_all is_scalar (map (type_named scope) names) ≡ true
  usable_scalars [] h = refl
  usable_scalars (n ∷ names) h =
      let here = usable_scalar n (value_named scope n) refl (both_left (is_usable scope n) (list_all (is_usable scope) names) h) in
      let rest = usable_scalars names (both_right (is_usable scope n) (list_all (is_usable scope) names) h) in
      rw (here, rest) refl

module _ (scope : List Value) (values : Values) (have : HaveTypes scope values) (constants : HaveScalarConstants scope) where
  usable_here : (n : ℕ) (o : Option Value) → value_named scope n ≡ o → option_map_or (λ v. v.is_constant) o false ≡ true
      → IsSomeAnd (values n) (IsOfValueType (option_map_or (λ v. v.value_type) o value_type.Nothing))
  usable_here n None e h = absurd (cc)
  usable_here n (Some v) e h = have n v e (scalar_value v.value_type (constants n v e h))

  -- their values are there, each of its type
  pub usable_named : (names : List ℕ) → list_all (is_usable scope) names ≡ true → AreNamed values (map (type_named scope) names) names
  usable_named [] h = tt
  usable_named (n ∷ names) h = (
    usable_here n (value_named scope n) refl (both_left (is_usable scope n) (list_all (is_usable scope) names) h),
    usable_named names
        (both_right (is_usable scope n) (list_all (is_usable scope) names) h),
  )
