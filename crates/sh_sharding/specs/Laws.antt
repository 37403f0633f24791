-- Laws of shardings as values: when a value is an admitted sharding, and which values are equal.
use Rattle.std.specs.Prelude.{◌≡◌, ℕ, ◌≤◌, ◌↔◌, List, length}
use Rattle.std.specs.declared.cmp.Ordering.TheVariants.{Equal}
use Rattle.std.specs.Cmp.{IsTotalOrder}
use Rattle.sh_base.specs.Shape.{max_cells, max_rank}
use Rattle.sh_grid.specs.Grid.{IsGrid}
use Rattle.sh_ir.specs.declared.types.RawSharding.{RawSharding}
use Rattle.sh_sharding.specs.Sharding.{ShardingValue, counted_cells, whole_of, IsSharding}
use Rattle.sh_sharding.specs.Admission.{sharding_of, IsAdmitted}
use Rattle.sh_sharding.specs.Normal.{IsSame}
use Rattle.sh_sharding.specs.Made.{without_halos, IsInOrder, IsState, StatesStay}
use Rattle.sh_sharding.specs.Order.{order_of}

-- a written sharding that keeps the rules, and stands for the value
pub record IsWritten (s : ShardingValue) : Type 0 where
  pub raw : RawSharding
  pub named : raw.grid ≡ s.grid.name
  pub admitted : IsAdmitted s.grid raw (whole_of s)
  pub value : sharding_of s.grid raw (whole_of s) ≡ s

-- Which values are admitted shardings.
pub record AdmissionLaws : Type 0 where
  -- those that a written sharding that keeps the rules stands for
  pub written : (s : ShardingValue) → IsGrid s.grid.extents → length s.dimensions ≤ max_rank
      → counted_cells (whole_of s) ≤ max_cells
      → (IsSharding s ↔ IsWritten s)
  -- it is a proposition: two proofs of it are equal
  pub proposition : (s : ShardingValue) (p q : IsSharding s) → p ≡ q
  -- an admitted sharding stays one without its halos
  pub plain : (s : ShardingValue) → IsSharding s → IsState (without_halos s)
  -- a halo-free value is one wherever its axes, marks and offsets are in order
  pub in_order : (s : ShardingValue) → IsInOrder s → IsState s
  -- and stays one as a dimension changes
  pub stay : (s : ShardingValue) → IsState s → StatesStay s

-- Which admitted shardings are equal.
pub record EqualityLaws : Type 0 where
  -- those that are the same, of one whole shape
  pub same : (a b : ShardingValue) → IsSharding a → IsSharding b → IsSame a b
      → whole_of a ≡ whole_of b → a ≡ b
  -- the order is a total one
  pub total : (g : List ℕ) → IsTotalOrder (order_of g)
  -- halo-free ones on one grid, of one whole shape, that the order doesn't tell apart
  pub place : (a b : ShardingValue) → IsState a → IsState b → a.grid ≡ b.grid
      → whole_of a ≡ whole_of b
      → order_of a.grid.extents a.dimensions b.dimensions ≡ Equal → a ≡ b
