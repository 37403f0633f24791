-- The values of all devices, as the code holds them: for each name a row of one tensor a device.
use Rattle.std.specs.Prelude.{ℕ, List, Option, nat_eq, option_and_then, slice_get, if◌then◌else◌}
use Rattle.std.specs.Map.{lookup}
use Rattle.sh_pieces.specs.Instructions.{State, is_name}
use Rattle.sh_tensor.specs.Tensor.{TensorValue}
use Rattle.sh_lockstep.specs.declared.table.Table.{Table}

-- the tensors by device and name
unfoldable pub values_in : Table → State TensorValue
values_in table device name =
    option_and_then (λ row. slice_get row device) (lookup (nat_eq name) table.rows.entries)

-- the values where a name stands for a row
abbrev pub with_row : Option ℕ → List TensorValue → State TensorValue → State TensorValue
with_row defined row s device name =
    if is_name defined name then slice_get row device else s device name
