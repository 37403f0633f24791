-- Where the first of each name stands among names.
use Rattle.std.specs.Prelude.{◌≡◌, ℕ, suc, List, [], ◌∷◌, Option, Some, None, if◌then◌else◌, nat_eq}
use Rattle.std.specs.Borrow.{Bor}
use Rattle.std.specs.Cmp.Lexicographic.{pointwise}
use Rattle.std.specs.Map.{lookup}
use Rattle.std.specs.Option.{option_map}
use Rattle.sh_ir.specs.Scope.{same_text}

abbrev pub place_of : List (List ℕ) → List ℕ → Option ℕ
place_of [] name = None
place_of (n ∷ names) name =
    if same_text n name then Some 0 else option_map suc (place_of names name)

-- the table has the place of each name
abbrev pub HasPlaces : List (Bor (List ℕ) × ℕ) → List (List ℕ) → Type 0
HasPlaces entries names =
    (name : List ℕ) → lookup (λ key. pointwise nat_eq name key.now) entries ≡ place_of names name
