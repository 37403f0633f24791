-- The normal form of a sharding, by which two shardings are the same.
use Rattle.std.specs.Prelude.{◌≡◌, ℕ, List, [], ◌∷◌, map, if◌then◌else◌}
use Rattle.std.specs.List.{list_any}
use Rattle.sh_sharding.specs.declared.shardings.Mark.{Mark}
use Rattle.sh_sharding.specs.declared.shardings.Dimension.{Dimension}
use Rattle.sh_sharding.specs.Sharding.{ShardingValue, is_split}

-- how a dimension is divided, whatever its extent
pub record Division : Type 0 where
  pub axes : List ℕ
  pub mark : Mark
  pub low : ℕ
  pub high : ℕ

abbrev pub division_of : Dimension → Division
division_of d = record { axes = d.axes; mark = d.mark; low = d.low; high = d.high }

-- the dimensions up to the last one that is split
abbrev pub up_to_last_split : List Dimension → List Dimension
up_to_last_split [] = []
up_to_last_split (d ∷ ds) = if list_any is_split (d ∷ ds) then d ∷ up_to_last_split ds else []

abbrev pub normal_form : List Dimension → List Division
normal_form ds = map division_of (up_to_last_split ds)

-- two shardings, maybe of tensors of different shapes, that divide alike
pub record IsSame (a b : ShardingValue) : Type 0 where
  pub grid : a.grid ≡ b.grid
  pub form : normal_form a.dimensions ≡ normal_form b.dimensions
