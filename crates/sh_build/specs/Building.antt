-- The parts of a file, made from its steps from the last to the first.
use Rattle.std.specs.Prelude.{◌≡◌, List, [], ◌∷◌}
use Rattle.sh_grammar.specs.declared.symbols.Event.{Event}
use Rattle.sh_grammar.specs.declared.symbols.Event.TheVariants.{Took, Opened}
use Rattle.sh_build.specs.Meaning.{made}
use Rattle.sh_build.specs.Rows.{firsts, past}
use Rattle.sh_build.specs.Sizes.{size_of}
use Rattle.sh_build.specs.declared.parts.Part.{Part}
use Rattle.sh_build.specs.declared.parts.Part.TheVariants.{Nothing}

-- each form stands with as many parts as its row has
abbrev pub AreSized : List Event → Type 0
AreSized [] = Unit {0}
AreSized (Took ∷ es) = AreSized es
AreSized (Opened n i size ∷ es) = (size ≡ size_of n i) × AreSized es

-- what a form makes of the first parts that stand behind it
abbrev pub made_of : Event → List Part → List Part
made_of Took parts = parts
made_of (Opened n i size) parts = made n i (firsts size parts) ∷ past size parts

-- the parts of these steps, whose tokens are these, in front of those that are made already
abbrev pub parts_by : List Event → List Part → List Part → List Part
parts_by [] leaves parts = parts
parts_by (Took ∷ es) [] parts = Nothing ∷ parts_by es [] parts
parts_by (Took ∷ es) (leaf ∷ leaves) parts = leaf ∷ parts_by es leaves parts
parts_by (Opened n i size ∷ es) leaves parts = made_of (Opened n i size) (parts_by es leaves parts)
