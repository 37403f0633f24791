-- How long the values of a function are used.
use Rattle.std.specs.Prelude.{ℕ, suc, ◌==◌, Bool, false, ◌||◌, ◌&&◌, nat_eq, List, [], ◌∷◌, Option, Some, None, option_map, if◌then◌else◌}
use Rattle.std.specs.List.{list_any}
use Rattle.std.specs.Map.{lookup}
use Rattle.std.specs.Option.{option_or}
use Rattle.sh_ir.specs.declared.operations.Op.{Op}
use Rattle.sh_pieces.specs.Instructions.{is_name}
use Rattle.sh_eval.specs.declared.uses.Uses.{Uses}

abbrev pub is_among : List ℕ → ℕ → Bool
is_among names name = list_any (λ other. other == name) names

-- an operation names a value: as an operand, or as its own
abbrev pub is_named_by : Op → ℕ → Bool
is_named_by op name = is_among op.operands name || is_name op.defines name

-- the number of the last operation that names a value
abbrev pub last_naming : List Op → ℕ → Option ℕ
last_naming [] name = None
last_naming (op ∷ ops) name =
    let here : Option ℕ = if is_named_by op name then Some 0 else None in
    option_or (option_map (λ k. suc k) (last_naming ops name)) here

-- and so of a value that isn't returned
abbrev pub last_use : List Op → List ℕ → ℕ → Option ℕ
last_use ops returned name = if is_among returned name then None else last_naming ops name

-- the last uses that the code holds
unfoldable pub uses_in : Uses → ℕ → Option ℕ
uses_in uses name = lookup (nat_eq name) uses.last.entries

-- ---- changes

-- what stands at names, with another thing at those that pass
abbrev pub changed_at : {X : Type 0} → (ℕ → Bool) → Option X → (ℕ → Option X) → ℕ → Option X
changed_at passes x old name = if passes name then x else old name

abbrev pub is_at : Option ℕ → ℕ → Bool
is_at None at = false
is_at (Some k) at = k == at

-- a name among these whose last use this is
abbrev pub ends_at : List ℕ → (ℕ → Option ℕ) → ℕ → ℕ → Bool
ends_at names uses at name = is_among names name && is_at (uses name) at

-- a value that an operation names, and whose last use this is
abbrev pub ends_with : Op → (ℕ → Option ℕ) → ℕ → ℕ → Bool
ends_with op uses at name = is_named_by op name && is_at (uses name) at
