-- The names of values, by position.
use Rattle.std.specs.Prelude.{ℕ, ◌-◌, List, [], ◌∷◌, ◌++◌, Option, Some, None, nat_eq, nat_lt, if◌then◌else◌, fold, position, codes, decimal}
use Rattle.sh_lex.specs.declared.tokens.TokenKind.TheVariants.{Val}
use Rattle.sh_ir.specs.Regions.{is_among}
use Rattle.sh_print.specs.Layout.{Piece}
use Rattle.sh_print.specs.Layout.Piece.{token}
use Rattle.sh_print.specs.declared.names.Name.{Name}
use Rattle.sh_print.specs.declared.names.Name.TheVariants.{Argument, Value, BlockArgument, BodyValue, Undefined}

-- The values that a function or a region defines, in text order and each once.
pub record Scope : Type 0 where
  pub ids : List ℕ
  pub arguments : ℕ  -- how many of them are arguments, which come first

abbrev pub each_once : List ℕ → List ℕ
each_once ids = fold (λ names id. if is_among names id then names else names ++ id ∷ []) [] ids

abbrev pub place_in : Scope → ℕ → Option ℕ
place_in scope id = position (nat_eq id) scope.ids

-- the name of a function's value, by its place
abbrev pub name_at : Scope → Option ℕ → Name
name_at scope None = Undefined
name_at scope (Some at) =
    if nat_lt at scope.arguments then Argument at else Value (at - scope.arguments)

-- the name of a region's value, by its place, or what it is outside
abbrev pub own_name_at : Scope → Option ℕ → Name → Name
own_name_at own None outer = outer
own_name_at own (Some at) outer =
    if nat_lt at own.arguments then BlockArgument at else BodyValue (at - own.arguments)

abbrev pub name_in : Scope → ℕ → Name
name_in scope id = name_at scope (place_in scope id)

-- in a region, where its own values come first
abbrev pub name_inside : Scope → Scope → ℕ → Name
name_inside own outer id = own_name_at own (place_in own id) (name_in outer id)

-- no value is printed as `%_` where it is defined
abbrev pub name_text : Name → List ℕ
name_text (Argument at) = codes "%arg" ++ decimal at
name_text (Value at) = codes "%" ++ decimal at
name_text (BlockArgument at) = codes "%b" ++ decimal at
name_text (BodyValue at) = codes "%r" ++ decimal at
name_text Undefined = codes "%_"

abbrev pub value : Name → Piece
value name = token Val (name_text name)
