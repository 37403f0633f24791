-- What tables of names and of values say.
use Rattle.std.specs.Prelude.{◌≡◌, ℕ, suc, List, [], ◌∷◌, Option, Some, None, if◌then◌else◌, nat_eq}
use Rattle.std.specs.Borrow.{Bor}
use Rattle.std.specs.Cmp.Lexicographic.{pointwise}
use Rattle.std.specs.Map.{lookup}
use Rattle.std.specs.Option.{option_map}
use Rattle.sh_ir.specs.declared.functions.Func.{Func}
use Rattle.sh_ir.specs.declared.modules.Module.{Module}
use Rattle.sh_ir.specs.declared.operations.Op.{Op}
use Rattle.sh_ir.specs.Scope.{Scope, Value, same_text, scope_of, value_named, values_after, with_args}
use Rattle.sh_verify.specs.declared.values.KnownValue.{KnownValue}

-- ---- names

-- where the first of a name stands among the names
abbrev pub place_of : List (List ℕ) → List ℕ → Option ℕ
place_of [] name = None
place_of (n ∷ names) name =
    if same_text n name then Some 0 else option_map suc (place_of names name)

-- the table has the place of each name
abbrev pub HasPlaces : List (Bor (List ℕ) × ℕ) → List (List ℕ) → Type 0
HasPlaces entries names =
    (name : List ℕ) → lookup (λ key. pointwise nat_eq name key.now) entries ≡ place_of names name

-- ---- values

-- the value of a name, by what a table has there
abbrev pub value_by : ℕ → KnownValue → Value
value_by name v = record {
  name = name;
  value_type = v.value_type.now;
  is_constant = v.is_constant;
}

-- the table has the value of each name
abbrev pub HasValues : List (ℕ × KnownValue) → List Value → Type 0
HasValues entries values =
    (name : ℕ) → option_map (value_by name) (lookup (nat_eq name) entries) ≡ value_named values name

-- ---- within a function

-- the values behind operations, the last one first
abbrev pub values_behind : List Value → List Op → List Value
values_behind values [] = values
values_behind values (op ∷ ops) = values_behind (values_after values op) ops

-- what is known in a function where these values are defined
abbrev pub scope_with : Module → Func → List Value → Scope
scope_with m f values = record (scope_of m f) { values = values }

-- what is known behind these operations of a function
abbrev pub scope_at : Module → Func → List Op → Scope
scope_at m f before = scope_with m f (values_behind (with_args [] f.args) before)
