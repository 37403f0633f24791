-- Which options are valid.
use Rattle.std.specs.Prelude.{◌≡◌, ◌≢◌, ℕ, ◌≤◌, true, List, [], ◌∷◌, length, map, Option, Some, None, All}
use Rattle.sh_grid.specs.Grid.{GridValue, AreAxesOf, group_size_of}
use Rattle.sh_sharding.specs.OffsetLists.{AreOffsets}
use Rattle.sh_sharding.specs.Sharding.{IsSharding}
use Rattle.sh_iface.specs.declared.options.Split.{Split}
use Rattle.sh_iface.specs.LoopNest.{Loop, LoopNest, value_at}
use Rattle.sh_iface.specs.Splits.{OptionValue, implied_of}

-- a split of a loop: along distinct axes of the grid, with the start of each part in order
pub record IsSplit (g : List ℕ) (extent : ℕ) (split : Split) : Type 0 where
  pub axes : AreAxesOf (length g) split.axes
  pub starts : AreOffsets extent (group_size_of g split.axes) split.starts

abbrev pub MayBeSplit : List ℕ → Loop → Option Split → Type 0
MayBeSplit g loop None = Unit {0}
MayBeSplit g loop (Some split) = (loop.splittable ≡ true) × IsSplit g loop.extent split

-- for each loop its split, or none
abbrev pub AreSplits : List ℕ → List Loop → OptionValue → Type 0
AreSplits g [] [] = Unit {0}
AreSplits g [] (x ∷ o) = ⊥
AreSplits g (loop ∷ loops) [] = ⊥
AreSplits g (loop ∷ loops) (x ∷ o) = MayBeSplit g loop x × AreSplits g loops o

-- no axis is in both
abbrev pub AreApart : List ℕ → List ℕ → Type 0
AreApart axes others = All (λ a. All (λ b. a ≢ b) others) axes

abbrev pub IsApartFrom : List ℕ → Option Split → Type 0
IsApartFrom axes None = Unit {0}
IsApartFrom axes (Some other) = AreApart axes other.axes

-- none of the other loops is split along an axis of this one
abbrev pub IsApartFromAll : OptionValue → Option Split → Type 0
IsApartFromAll others None = Unit {0}
IsApartFromAll others (Some split) = All (IsApartFrom split.axes) others

-- no axis is in two splits
abbrev pub HaveOwnAxes : OptionValue → Type 0
HaveOwnAxes [] = Unit {0}
HaveOwnAxes (x ∷ o) = IsApartFromAll o x × HaveOwnAxes o

-- operands and result, split as the option implies, keep the rules of admission
abbrev pub AreAdmitted : LoopNest → GridValue → OptionValue → Type 0
AreAdmitted nest g o =
    (v : ℕ) → v ≤ length nest.operands → IsSharding (implied_of g nest o (value_at nest v))

pub record IsValid (nest : LoopNest) (g : GridValue) (o : OptionValue) : Type 0 where
  pub splits : AreSplits g.extents nest.loops o
  pub apart : HaveOwnAxes o
  pub admitted : AreAdmitted nest g o

-- no loop is split
abbrev pub unsplit_loops : LoopNest → OptionValue
unsplit_loops nest = map (λ l. None) nest.loops
