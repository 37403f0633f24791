-- The types of the local tensors keep the limits.
use Rattle.std.proofs.Common.{◌≡◌, ℕ, ◌<◌, ◌≤◌, true, List, [], ◌∷◌, map, max, length, arith}
use Rattle.std.proofs.lemmas.Bool.Decides.{nat_tests}
use Rattle.std.proofs.lemmas.List.{length-map}
use Rattle.std.proofs.lemmas.Nat.{mul-le}
use Rattle.std.specs.List.{AllByRecursion}
use Rattle.std.specs.Prelude.{nat_le}
use Rattle.sh_base.proofs.IndexLaws.{cell_count-some}
use Rattle.sh_base.specs.Shape.{cell_count, max_cells, max_rank}
use Rattle.sh_ir.specs.declared.types.Dim.{Dim}
use Rattle.sh_ir.specs.declared.types.Dim.TheVariants.{Known, Differs}
use Rattle.sh_ir.specs.Limits.{counted_dim}
use Rattle.sh_sharding.specs.declared.shardings.Dimension.{Dimension}
use Rattle.sh_sharding.specs.LocalTypes.{IsLocalDim, local_dim, local_dims}
use Rattle.sh_sharding.specs.Sharding.{IsSharding, ShardingValue, counted_cells, local_extent}
use Rattle.sh_sharding.proofs.LocalTypeLaws.{are_local_dims}
use Rattle.sh_sharding.proofs.PartLaws.{axes_of-each}

dim_within : (g : List ℕ) (device : ℕ) (x : Dimension) (d : Dim) → device < cell_count g → IsLocalDim g x d → counted_dim d ≤ max 1 (local_extent g device x)
dim_within g device x (Known n) l is = let same = is device l in omega (arith, same)
dim_within g device x Differs l is = omega arith

dims_within : (g : List ℕ) (device : ℕ) (ds : List Dimension) → device < cell_count g → AllByRecursion (λ d. IsLocalDim g d (local_dim g d)) ds
    → cell_count (map counted_dim (map (local_dim g) ds)) ≤ counted_cells (map (local_extent g device) ds)
dims_within g device [] l are = omega arith
dims_within g device (d ∷ ds) l are =
    mul-le (counted_dim (local_dim g d)) (cell_count (map counted_dim (map (local_dim g) ds))) (max 1 (local_extent g device d)) (counted_cells (map (local_extent g device) ds))
    (dim_within g device d (local_dim g d) l are.0) (dims_within g device ds l are.1)

-- a local type has at most as many cells as the largest local tensor
pub few_cells : (s : ShardingValue) → IsSharding s → nat_le (cell_count (map counted_dim (local_dims s))) max_cells ≡ true
few_cells s ok =
    let g = s.grid.extents in
    let some = cell_count-some g ok.grid.positive in
    let within = dims_within g 0 s.dimensions some (are_local_dims g s.dimensions ok.grid (axes_of-each (length g) s.dimensions ok.axes)) in
    let small = ok.fits 0 some in
    let le : cell_count (map counted_dim (local_dims s)) ≤ max_cells = omega (arith, within, small) in
    grind (arith, nat_tests)

pub few_dims : (s : ShardingValue) → IsSharding s → nat_le (length (local_dims s)) max_rank ≡ true
few_dims s ok =
    let counted : length (local_dims s) ≡ length s.dimensions = length-map s.dimensions (local_dim s.grid.extents) in
    let short = ok.short in
    let le : length (local_dims s) ≤ max_rank = omega (arith, counted, short) in
    grind (arith, nat_tests)
