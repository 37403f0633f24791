-- The values of a region, as the code holds them.
use Rattle.std.specs.Prelude.{◌≡◌, ℕ, List, [], ◌∷◌, nat_eq}
use Rattle.std.specs.Map.{lookup}
use Rattle.std.specs.Option.{option_map}
use Rattle.sh_ir.specs.declared.bodies.Body.{Body}
use Rattle.sh_ir.specs.declared.bodies.BodyOp.{BodyOp}
use Rattle.sh_ir.specs.declared.types.ValueType.{ValueType}
use Rattle.sh_ir.specs.declared.types.ValueType.TheVariants.{Scalar}
use Rattle.sh_ir.specs.RegionRules.{block_of, own_after}
use Rattle.sh_ir.specs.Scope.{Scope, Value, value_named}
use Rattle.sh_verify.specs.declared.own_values.OwnType.{OwnType}
use Rattle.sh_verify.specs.declared.own_values.OwnType.TheVariants.{Argument, Written}

abbrev pub own_type : OwnType → ValueType
own_type (Argument w) = Scalar w
own_type (Written t) = t.now

-- the table has the type of each name
abbrev pub HasOwn : List (ℕ × OwnType) → List Value → Type 0
HasOwn entries own =
    (name : ℕ) → option_map own_type (lookup (nat_eq name) entries)
    ≡ option_map (λ v. v.value_type) (value_named own name)

-- the values behind operations of a region, the last one first
abbrev pub own_behind : List Value → List BodyOp → List Value
own_behind own [] = own
own_behind own (op ∷ ops) = own_behind (own_after own op) ops

-- What is known within a region.
pub record Within : Type 0 where
  pub outer : List Value  -- of the function
  pub own : List Value  -- of the region

abbrev pub within_at : Scope → Body → List BodyOp → Within
within_at scope body before = record {
  outer = scope.values;
  own = own_behind (block_of body) before;
}
