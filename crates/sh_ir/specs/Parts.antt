-- An operation by its parts.
use Rattle.std.specs.Prelude.{ℕ, List, Option}
use Rattle.sh_base.specs.declared.places.Place.{Place}
use Rattle.sh_ir.specs.declared.types.ValueType.{ValueType}
use Rattle.sh_ir.specs.declared.operations.Op.{Op}
use Rattle.sh_ir.specs.declared.operations.OpKind.{OpKind}

abbrev pub op_of : OpKind → List ℕ → Option ℕ → ValueType → Place → Op
op_of kind operands defines result place = record {
  kind = kind;
  operands = operands;
  defines = defines;
  result = result;
  place = place;
}
