-- Rows of parts.
use Rattle.std.specs.Prelude.{ℕ, zero, suc, List, [], ◌∷◌, drop}
use Rattle.sh_build.specs.declared.parts.Part.{Part}
use Rattle.sh_build.specs.declared.parts.Part.TheVariants.{Nothing}

-- the first part; nothing where there is none
abbrev pub first_part : List Part → Part
first_part [] = Nothing
first_part (p ∷ parts) = p

-- so many parts from the first on
abbrev pub firsts : ℕ → List Part → List Part
firsts zero parts = []
firsts (suc n) parts = first_part parts ∷ firsts n (drop 1 parts)

-- what is behind so many parts
abbrev pub past : ℕ → List Part → List Part
past zero parts = parts
past (suc n) parts = past n (drop 1 parts)
