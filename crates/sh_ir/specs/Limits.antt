-- The limits on ranks, cells, operations and devices.
use Rattle.std.specs.Prelude.{ℕ, ◌+◌, Bool, true, false, nat_le, length, map, max, sum, is_none, if◌then◌else◌}
use Rattle.std.specs.Option.{option_map_or}
use Rattle.sh_base.specs.Limits.{max_devices}
use Rattle.sh_base.specs.Shape.{cell_count, max_cells, max_rank}
use Rattle.sh_ir.specs.declared.functions.Func.{Func}
use Rattle.sh_ir.specs.declared.modules.GridItem.{GridItem}
use Rattle.sh_ir.specs.declared.operations.OpKind.{OpKind}
use Rattle.sh_ir.specs.declared.types.Dim.{Dim}
use Rattle.sh_ir.specs.declared.types.Dim.TheVariants.{Known, Differs}
use Rattle.sh_ir.specs.declared.types.ValueType.{ValueType}
use Rattle.sh_ir.specs.Agreement.{dims_of, rank_of}
use Rattle.sh_ir.specs.Numbers.{as_naturals}
use Rattle.sh_ir.specs.Classes.{class_of, is_return}
use Rattle.sh_ir.specs.declared.classification.OpClass.{OpClass}
use Rattle.sh_ir.specs.declared.classification.OpClass.TheVariants as class
use Rattle.sh_ir.specs.Loops.{generic_of}
use Rattle.sh_ir.specs.Written.{written_by}

-- ---- the numbers; those of ranks, cells and grids stand in `sh_base`

-- the greatest number of loops of an operation
abbrev pub max_loops : ℕ
max_loops = 6

-- the greatest number of operations of a function in source form
abbrev pub max_operations : ℕ
max_operations = 10000

-- the greatest number of instructions of a function in device form
abbrev pub max_instructions : ℕ
max_instructions = 100000

-- the greatest number of inputs of `linalg.generic`; in device form starts of loops join them
abbrev pub max_inputs : Bool → ℕ
max_inputs in_device = if in_device then 9 else 3

-- ---- types

-- an extent as it counts: one of 0, and one that isn't known, as 1
abbrev pub counted_dim : Dim → ℕ
counted_dim (Known n) = max 1 n
counted_dim Differs = 1

abbrev pub counted_cells_of : ValueType → ℕ
counted_cells_of t = cell_count (map counted_dim (dims_of t))

unfoldable pub has_few_dims : ValueType → Bool
has_few_dims t = nat_le (rank_of t) max_rank

unfoldable pub has_few_cells : ValueType → Bool
has_few_cells t = nat_le (counted_cells_of t) max_cells

-- ---- operations

-- whether the loops of a generic are few; those of the other operations are dimensions
unfoldable pub has_few_loops : OpKind → Bool
has_few_loops kind =
    option_map_or (λ x. nat_le (length x.iterator_types) max_loops) (generic_of kind) true

-- whether a generic names few inputs
unfoldable pub has_few_inputs : Bool → OpKind → Bool
has_few_inputs in_device kind =
    option_map_or (λ x. nat_le x.ins_outs.ins_count (max_inputs in_device)) (generic_of kind) true

-- ---- functions

-- whether it counts in source form: shardings and notes don't
abbrev pub is_counted_class : OpClass → Bool
is_counted_class class.Creator = true
is_counted_class class.Element = true
is_counted_class class.Layout = true
is_counted_class class.Structured = true
is_counted_class class.Convolution = true
is_counted_class class.Sharding = false
is_counted_class class.Note = false
is_counted_class class.DeviceLayout = true
is_counted_class class.Collective = true
is_counted_class class.Call = true
is_counted_class class.Return = true

-- how many operations its region has; the yield isn't counted
abbrev pub region_size : OpKind → ℕ
region_size kind = option_map_or (λ body. length body.ops) (written_by kind).body 0

unfoldable pub operation_count : OpKind → ℕ
operation_count kind = (if is_counted_class (class_of kind) then 1 else 0) + region_size kind

-- the number of operations of a function in source form: with the return, and with those of regions
abbrev pub operations_in : Func → ℕ
operations_in f = sum (map (λ op. operation_count op.kind) f.ops)

-- the number of instructions of a function in device form: without the return, and without regions
unfoldable pub instruction_count : OpKind → ℕ
instruction_count kind = if is_return kind then 0 else 1

abbrev pub instructions_in : Func → ℕ
instructions_in f = sum (map (λ op. instruction_count op.kind) f.ops)

abbrev pub is_source : Func → Bool
is_source f = is_none f.carry

-- ---- grids

-- a grid with an extent of 0 has no devices
unfoldable pub has_few_devices : GridItem → Bool
has_few_devices g = nat_le (cell_count (as_naturals g.extents)) max_devices
