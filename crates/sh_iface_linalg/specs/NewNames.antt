-- The new names of a region's names, as the code holds them.
use Rattle.std.specs.Map.{lookup}
use Rattle.std.specs.Prelude.{ℕ, List, map, nat_eq, unwrap_or}
use Rattle.sh_ir.specs.declared.bodies.Body.{Body}
use Rattle.sh_ir.specs.declared.bodies.BodyOp.{BodyOp}
use Rattle.sh_iface_linalg.specs.declared.names.NewNames.{NewNames}
use Rattle.sh_iface_linalg.specs.Bodies.{Region}

-- a name that has no new one is 0
unfoldable pub names_in : NewNames → ℕ → ℕ
names_in new name = unwrap_or (lookup (nat_eq name) new.renamed.entries) 0

abbrev pub as_region : List ℕ → Body → Region
as_region captured body = record { captured = captured; body = body }

abbrev pub renamed_op_by : (ℕ → ℕ) → ℕ → BodyOp → BodyOp
renamed_op_by renamed name op = record op { operands = map renamed op.operands; defines = name }
