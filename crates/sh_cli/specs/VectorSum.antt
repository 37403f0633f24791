-- The one form of module that is partitioned today: the sum of two vectors, split over a line of devices.
use Rattle.std.specs.Prelude.{◌≡◌, ℕ, ◌*◌, ◌/◌, ◌<◌, ◌≤◌, List, [], ◌∷◌, codes}
use Rattle.std.specs.Fmt.{decimal}
use Rattle.std.specs.List.{concat}
use Rattle.sh_base.specs.Shape.{max_cells}
use Rattle.sh_base.specs.Limits.{max_devices}

-- the type of a vector of 32-bit cells
unfoldable pub vector_type : ℕ → List ℕ
vector_type extent = concat (codes "tensor<" ∷ decimal extent ∷ codes "xi32>" ∷ [])

-- the module in source form, with these texts for the vectors' type and for the number of devices
unfoldable pub source_layout : List ℕ → List ℕ → List ℕ
source_layout vector devices =
    concat (
    codes "module {\n"
    ∷ codes "  shard.grid @g(shape = " ∷ devices ∷ codes ")\n"
    ∷ codes "  func.func @f(%a: " ∷ vector ∷ codes ", %b: " ∷ vector ∷ codes ") -> " ∷ vector ∷ codes " {\n"
    ∷ codes "    %s = shard.sharding @g split_axes = [[0]] : !shard.sharding\n"
    ∷ codes "    %a1 = shard.shard %a to %s : " ∷ vector ∷ codes "\n"
    ∷ codes "    %b1 = shard.shard %b to %s : " ∷ vector ∷ codes "\n"
    ∷ codes "    %c = arith.addi %a1, %b1 : " ∷ vector ∷ codes "\n"
    ∷ codes "    %c1 = shard.shard %c to %s : " ∷ vector ∷ codes "\n"
    ∷ codes "    return %c1 : " ∷ vector ∷ codes "\n"
    ∷ codes "  }\n"
    ∷ codes "}\n"
    ∷ []
    )

-- vectors of this extent, each split evenly over so many devices
unfoldable pub source_text : ℕ → ℕ → List ℕ
source_text extent devices = source_layout (vector_type extent) (decimal devices)

-- the same module in device form, with these texts for the types of a whole vector and of a device's part
unfoldable pub partitioned_layout : List ℕ → List ℕ → List ℕ → List ℕ
partitioned_layout whole local devices =
    concat (
    codes "module {\n"
    ∷ codes "  shard.grid @g(shape = " ∷ devices ∷ codes ")\n"
    ∷ codes "  shardrun.device @f on @g(" ∷ whole ∷ codes " split_axes = [[0]], " ∷ whole ∷ codes " split_axes = [[0]]) -> (" ∷ whole ∷ codes " split_axes = [[0]])\n"
    ∷ codes "  func.func @f(%arg0 : " ∷ local ∷ codes ", %arg1 : " ∷ local ∷ codes ") -> " ∷ local ∷ codes " {\n"
    ∷ codes "    %0 = arith.addi %arg0, %arg1 : " ∷ local ∷ codes "\n"
    ∷ codes "    return %0 : " ∷ local ∷ codes "\n"
    ∷ codes "  }\n"
    ∷ codes "}\n"
    ∷ []
    )

-- each device has its part of each vector
unfoldable pub partitioned_text : ℕ → ℕ → List ℕ
partitioned_text extent devices =
    partitioned_layout (vector_type extent) (vector_type (extent / devices)) (decimal devices)

-- there are cells and devices, and not too many
pub record IsWithinLimits (extent devices : ℕ) : Type 0 where
  pub some_cells : 0 < extent
  pub few_cells : extent ≤ max_cells
  pub some_devices : 0 < devices
  pub few_devices : devices ≤ max_devices

-- a text is the sum of two vectors of this extent, split over so many devices
pub record IsVectorSum (text : List ℕ) (extent devices : ℕ) : Type 0 where
  pub limits : IsWithinLimits extent devices
  pub is_text : text ≡ source_text extent devices

-- the parts of the vectors have one size
abbrev pub IsDivisible : ℕ → ℕ → Type 0
IsDivisible extent devices = devices * (extent / devices) ≡ extent

-- numbers of the one form whose parts have one size
pub record IsEvenlySplit (extent devices : ℕ) : Type 0 where
  pub limits : IsWithinLimits extent devices
  pub divisible : IsDivisible extent devices
