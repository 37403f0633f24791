-- Offsets as they are written, and rule A5 on them.
use Rattle.std.specs.Prelude.{◌≡◌, ℕ, ◌+◌, ◌<◌, List, [], ◌∷◌, length, map, take, drop, get_or, true, if◌then◌else◌, ℤ, pos, ◌≤ℤ◌, nat_eq}
use Rattle.std.specs.Cmp.Lexicographic.{pointwise}
use Rattle.sh_sharding.specs.declared.shardings.Mark.{Mark}
use Rattle.sh_sharding.specs.declared.shardings.Mark.TheVariants.{Balanced, Offsets}
use Rattle.sh_sharding.specs.declared.shardings.Dimension.{Dimension}
use Rattle.sh_sharding.specs.Sharding.{is_split, parts_of, offsets_of}
use Rattle.sh_sharding.specs.AxisLists.{natural}

-- how many of the written offsets are a dimension's
unfoldable pub offset_count : List ℕ → Dimension → ℕ
offset_count g d = if is_split d then parts_of g d + 1 else 0

-- the mark that the normal form has for these offsets
unfoldable pub normal_mark : ℕ → ℕ → List ℕ → Mark
normal_mark extent parts offsets =
    if pointwise nat_eq offsets (offsets_of extent parts Balanced) then Balanced
    else Offsets offsets

-- the same for written offsets, of which there may be none
unfoldable pub mark_of : ℕ → ℕ → List ℕ → Mark
mark_of extent parts [] = Balanced
mark_of extent parts (o ∷ offsets) = normal_mark extent parts (o ∷ offsets)

-- a dimension with these offsets
abbrev pub with_mark : List ℕ → Dimension → List ℤ → Dimension
with_mark g d offsets = record d { mark = mark_of d.extent (parts_of g d) (map natural offsets) }

-- the dimensions with their offsets
abbrev pub marked : List ℕ → List Dimension → List ℤ → List Dimension
marked g [] offsets = []
marked g (d ∷ ds) offsets =
    with_mark g d (take (offset_count g d) offsets) ∷ marked g ds (drop (offset_count g d) offsets)

-- one more offset than parts: 0 first, none less than the one before, the extent last
pub record AreOffsets (extent parts : ℕ) (offsets : List ℤ) : Type 0 where
  pub counted : length offsets ≡ parts + 1
  pub begins : get_or offsets 0 (pos 0) ≡ pos 0
  pub rises : (i : ℕ) → i < parts → get_or offsets i (pos 0) ≤ℤ get_or offsets (i + 1) (pos 0)
  pub ends : get_or offsets parts (pos 0) ≡ pos extent

-- the offsets of a dimension, if it is split
abbrev pub HasOffsets : List ℕ → Dimension → List ℤ → Type 0
HasOffsets g d offsets = is_split d ≡ true → AreOffsets d.extent (parts_of g d) offsets

-- offsets of the split dimensions, in order, and none besides
abbrev pub AreAllOffsets : List ℕ → List Dimension → List ℤ → Type 0
AreAllOffsets g [] offsets = offsets ≡ []
AreAllOffsets g (d ∷ ds) offsets =
    HasOffsets g d (take (offset_count g d) offsets)
    × AreAllOffsets g ds (drop (offset_count g d) offsets)
