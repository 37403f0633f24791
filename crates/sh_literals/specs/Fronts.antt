-- Lists that are made from their ends.
use Rattle.std.specs.Prelude.{List, ◌∷◌, Option, Some, None}

-- one more in front of a list, where there is one
abbrev pub before : {X : Type 0} → Option X → List X → List X
before None xs = xs
before (Some x) xs = x ∷ xs
