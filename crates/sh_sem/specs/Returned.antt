-- What a function gives back.
use Rattle.std.specs.Prelude.{ℕ, List, [], ◌∷◌, if◌then◌else◌}
use Rattle.sh_ir.specs.declared.operations.Op.{Op}
use Rattle.sh_ir.specs.declared.types.ValueType.{ValueType}
use Rattle.sh_ir.specs.Classes.{is_return}
use Rattle.sh_ir.specs.Written.{written_by}

-- the names that the return gives back
abbrev pub returned : List Op → List ℕ
returned [] = []
returned (op ∷ ops) = if is_return op.kind then op.operands else returned ops

-- the types that it writes for them
abbrev pub returned_types : List Op → List ValueType
returned_types [] = []
returned_types (op ∷ ops) =
    if is_return op.kind then (written_by op.kind).types else returned_types ops
