-- Shapes by their sizes: whether a type knows them, and whether a tensor of them is small.
use Rattle.std.specs.Prelude.{ℕ, ◌==◌, Bool, true, List, nat_le, Option, Some, None, if◌then◌else◌}
use Rattle.sh_base.specs.Shape.{max_cells}
use Rattle.sh_collectives.specs.declared.sizes.Shaped.{Shaped}
use Rattle.sh_collectives.specs.declared.sizes.Shaped.TheVariants.{Mismatch, TooLarge, Fits}
use Rattle.sh_ir.specs.declared.types.Dim.{Dim}
use Rattle.sh_ir.specs.declared.types.Dim.TheVariants.{Known, Differs}
use Rattle.sh_sharding.specs.Sharding.{counted_cells}

-- the extent is the one that a dimension knows
abbrev pub is_extent : Dim → ℕ → Bool
is_extent (Known m) n = m == n
is_extent Differs n = true

-- a tensor of this shape has few cells, an extent of 0 being counted as 1
abbrev pub is_small : List ℕ → Bool
is_small s = nat_le (counted_cells s) max_cells

-- the shape, if it is small
abbrev pub small_shape : List ℕ → Option (List ℕ)
small_shape s = if is_small s then Some s else None

-- what is answered of a shape that is there, or isn't
abbrev pub shaped : Option (List ℕ) → Shaped
shaped None = Mismatch
shaped (Some s) = if is_small s then Fits s else TooLarge
