-- Lists without some of their repetitions.
use Rattle.std.specs.Prelude.{List, [], ◌∷◌, ◌++◌}
use Rattle.std.specs.List.{Contains}

-- The second list is the first without some elements that stand earlier in it too.
pub data IsThinned {X : Type 0} : List X → List X → Type 0 where
  nothing : IsThinned [] []
  kept : {xs ys : List X} (x : X) → IsThinned xs ys → IsThinned (xs ++ x ∷ []) (ys ++ x ∷ [])
  left_out : {xs ys : List X} (x : X) → Contains ys x → IsThinned xs ys
      → IsThinned (xs ++ x ∷ []) ys

-- list by list
abbrev pub AreThinned : {X : Type 0} → List (List X) → List (List X) → Type 0
AreThinned [] [] = Unit {0}
AreThinned [] (ys ∷ yss) = ⊥
AreThinned (xs ∷ xss) [] = ⊥
AreThinned (xs ∷ xss) (ys ∷ yss) = IsThinned xs ys × AreThinned xss yss
