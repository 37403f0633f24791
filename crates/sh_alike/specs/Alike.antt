-- The same module up to places and the numbering of ids.
use Rattle.std.specs.Prelude.{◌≡◌, ℕ, List, [], ◌∷◌, ◌++◌, map, flat_map}
use Rattle.sh_ir.specs.Formed.{bodies_in, func_names}
use Rattle.sh_ir.specs.Regions.{is_among, own_names}
use Rattle.sh_ir.specs.declared.bodies.Body.{Body}
use Rattle.sh_ir.specs.declared.functions.Func.{Func}
use Rattle.sh_ir.specs.declared.modules.Module.{Module}
use Rattle.std.specs.Prelude.{true}
use Rattle.sh_alike.specs.Renamed.{placeless_call, placeless_func, placeless_grid, renamed_func}

-- the names that a region defines or uses
abbrev pub names_of_body : Body → List ℕ
names_of_body body = own_names body ++ flat_map (λ op. op.operands) body.ops ++ body.yields ∷ []

-- the names in use in a function, those of its regions behind the others
abbrev pub names_in_use : Func → List ℕ
names_in_use f = func_names f ++ flat_map names_of_body (bodies_in f.ops)

-- no two of these names become one
abbrev pub KeepsApart : (ℕ → ℕ) → List ℕ → Type 0
KeepsApart r names =
    (a b : ℕ) → is_among names a ≡ true → is_among names b ≡ true → r a ≡ r b → a ≡ b

-- The functions are one but for their places, with the names of the first renamed.
pub record AreAlikeFuncs (f g : Func) : Type 0 where
  pub renaming : ℕ → ℕ
  pub apart : KeepsApart renaming (names_in_use f)
  pub same : renamed_func renaming f ≡ placeless_func g

-- the functions are alike one by one
abbrev pub AreAlikeEach : List Func → List Func → Type 0
AreAlikeEach [] [] = Unit {0}
AreAlikeEach [] (g ∷ gs) = ⊥
AreAlikeEach (f ∷ fs) [] = ⊥
AreAlikeEach (f ∷ fs) (g ∷ gs) = AreAlikeFuncs f g × AreAlikeEach fs gs

-- The modules are one but for places and the numbering of ids, function by function.
pub record AreAlike (m n : Module) : Type 0 where
  pub name : m.name ≡ n.name
  pub grids : map placeless_grid m.grids ≡ map placeless_grid n.grids
  pub funcs : AreAlikeEach m.funcs n.funcs
  pub calls : map placeless_call m.calls ≡ map placeless_call n.calls
