-- Extents as types know them.
use Rattle.std.specs.Prelude.{ℕ, ◌==◌, Bool, true, List, Option, Some, None, if◌then◌else◌}
use Rattle.sh_ir.specs.declared.types.Dim.{Dim}
use Rattle.sh_ir.specs.declared.types.Dim.TheVariants.{Known, Differs}
use Rattle.sh_sem.specs.Types.{have_extents}
use Rattle.sh_tensor.specs.Tensor.{TensorValue}

-- an extent is the one that is known
abbrev pub fits_extent : Dim → ℕ → Bool
fits_extent (Known m) n = m == n
fits_extent Differs n = true

-- a tensor that has the extents which a type knows
abbrev pub with_known : List Dim → TensorValue → Option TensorValue
with_known dims t = if have_extents dims t.shape then Some t else None
