-- The types of operands, as the code holds them.
use Rattle.std.specs.Prelude.{List, [], ◌∷◌, ◌++◌, Bool, if◌then◌else◌}
use Rattle.sh_ir.specs.declared.types.ValueType.{ValueType}
use Rattle.sh_ir.specs.declared.types.ValueType.TheVariants as value_type
use Rattle.sh_verify.specs.declared.uses.OperandTypes.{OperandTypes}

abbrev pub sharding_if : Bool → List ValueType
sharding_if there = if there then value_type.Sharding ∷ [] else []

-- the lists one after the other, and a sharding where there is one
abbrev pub listed_types : OperandTypes → List ValueType
listed_types x = x.first.now ++ (x.second.now ++ (x.third.now ++ sharding_if x.sharding))
