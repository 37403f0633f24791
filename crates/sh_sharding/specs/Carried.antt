-- The cuts that a function in device form carries for its arguments and results, on the grid that
-- it names.
use Rattle.std.specs.Prelude.{ℕ, List, [], ◌∷◌, map, nat_eq, Option, Some, None, if◌then◌else◌}
use Rattle.std.specs.Cmp.Lexicographic.{pointwise}
use Rattle.sh_grid.specs.Grid.{GridValue}
use Rattle.sh_ir.specs.declared.functions.Cut.{Cut}
use Rattle.sh_ir.specs.declared.modules.GridItem.{GridItem}
use Rattle.sh_ir.specs.declared.types.ValueType.{ValueType}
use Rattle.sh_ir.specs.declared.types.ValueType.TheVariants.{Nothing, Scalar, Tensor, Sharding, Index}
use Rattle.sh_ir.specs.Shapes.{shape_of}
use Rattle.sh_tensor.specs.Tensor.{TensorValue}
use Rattle.sh_sharding.specs.Admission.{sharding_of, IsAdmitted}
use Rattle.sh_sharding.specs.AxisLists.{natural}
use Rattle.sh_sharding.specs.Cut.{cut_of}
use Rattle.sh_sharding.specs.LocalTypes.{local_dims}
use Rattle.sh_sharding.specs.Sharding.{ShardingValue}

-- ---- grids

-- the grid of a grid item
abbrev pub grid_of : GridItem → GridValue
grid_of item = record { name = item.name; extents = map natural item.extents }

-- the first grid of this name
abbrev pub grid_named : List GridItem → List ℕ → Option GridValue
grid_named [] name = None
grid_named (item ∷ items) name =
    if pointwise nat_eq item.name name then Some (grid_of item) else grid_named items name

-- ---- cuts

-- the sharding of a cut
abbrev pub carried : GridValue → Cut → ShardingValue
carried g cut = sharding_of g cut.sharding (shape_of cut.whole)

-- the sharding of each cut is admitted for its whole tensor
abbrev pub AreAdmitted : GridValue → List Cut → Type 0
AreAdmitted g [] = Unit {0}
AreAdmitted g (cut ∷ cuts) = IsAdmitted g cut.sharding (shape_of cut.whole) × AreAdmitted g cuts

-- the tensors of a device: each cut as it is carried
abbrev pub cuts_of : GridValue → List Cut → List TensorValue → ℕ → List TensorValue
cuts_of g [] ts device = []
cuts_of g (cut ∷ cuts) [] device = []
cuts_of g (cut ∷ cuts) (t ∷ ts) device = cut_of (carried g cut) t device ∷ cuts_of g cuts ts device

-- the type of the local tensors of a whole one, by its sharding: an extent is `?` where devices
-- differ
abbrev pub local_type : ShardingValue → ValueType → ValueType
local_type s (Tensor whole) = Tensor (record whole { dims = local_dims s })
local_type s (Scalar w) = Scalar w
local_type s Nothing = Nothing
local_type s Sharding = Sharding
local_type s Index = Index

abbrev pub local_types : GridValue → List Cut → List ValueType
local_types g cuts = map (λ cut. local_type (carried g cut) cut.whole) cuts
