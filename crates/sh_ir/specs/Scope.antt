-- What is known where an operation stands.
use Rattle.std.specs.Prelude.{ℕ, List, [], ◌∷◌, Option, Some, None, Bool, false, ◌&&◌, nat_eq, length, map, get_or, ℤ, option_and_then, is_some, if◌then◌else◌}
use Rattle.std.specs.List.{list_all}
use Rattle.std.specs.Option.{option_map_or}
use Rattle.std.specs.Cmp.Lexicographic.{pointwise}
use Rattle.sh_base.specs.Shape.{cell_count}
use Rattle.sh_ir.specs.declared.functions.Arg.{Arg}
use Rattle.sh_ir.specs.declared.functions.Func.{Func}
use Rattle.sh_ir.specs.declared.modules.GridItem.{GridItem}
use Rattle.sh_ir.specs.declared.modules.Module.{Module}
use Rattle.sh_ir.specs.declared.operations.Op.{Op}
use Rattle.sh_ir.specs.declared.operations.OpKind.{OpKind}
use Rattle.sh_ir.specs.declared.shard_ops.GridAxes.{GridAxes}
use Rattle.sh_ir.specs.declared.types.ValueType.{ValueType}
use Rattle.sh_ir.specs.Formed.{is_scalar}
use Rattle.sh_ir.specs.Numbers.{as_naturals, are_axes_below, is_positive}
use Rattle.sh_ir.specs.Written.{written_by}

-- A value of a function.
pub record Value : Type 0 where
  pub name : ℕ
  pub value_type : ValueType
  pub is_constant : Bool  -- whether it is a scalar constant, which regions may use

pub record Scope : Type 0 where
  pub grids : List GridItem  -- the module's
  pub funcs : List Func  -- the module's, which calls name
  pub device : Option (List ℕ)  -- the carried grid; none in source form
  pub values : List Value  -- those defined before, the last one first

-- ---- looking up; of two grids or functions of one name the first counts

abbrev pub same_text : List ℕ → List ℕ → Bool
same_text s t = pointwise nat_eq s t

abbrev pub grid_item : List GridItem → List ℕ → Option GridItem
grid_item [] name = None
grid_item (g ∷ grids) name = if same_text g.name name then Some g else grid_item grids name

abbrev pub func_item : List Func → List ℕ → Option Func
func_item [] name = None
func_item (f ∷ funcs) name = if same_text f.name name then Some f else func_item funcs name

-- the value of a name: the last one that is defined
abbrev pub value_named : List Value → ℕ → Option Value
value_named [] name = None
value_named (v ∷ values) name = if nat_eq v.name name then Some v else value_named values name

abbrev pub is_defined : List Value → ℕ → Bool
is_defined values name = is_some (value_named values name)

-- ---- groups of devices

-- how many devices a group of the grid has along the axes, if they are distinct axes of it and no
-- extent is 0
abbrev pub size_along : GridItem → List ℤ → Option ℕ
size_along g axes =
    if are_axes_below (length g.extents) axes && list_all is_positive g.extents
    then Some (cell_count (map (λ a. get_or (as_naturals g.extents) a 0) (as_naturals axes)))
    else None

unfoldable pub group_size : Scope → GridAxes → Option ℕ
group_size scope on =
    option_and_then (λ g. size_along g on.grid_axes) (grid_item scope.grids on.grid)

-- ---- from operation to operation

abbrev pub is_scalar_constant : OpKind → ValueType → Bool
is_scalar_constant kind t = nat_eq (length (written_by kind).constants) 1 && is_scalar t

abbrev pub value_of : Op → ℕ → Value
value_of op name = record {
  name = name;
  value_type = op.result;
  is_constant = is_scalar_constant op.kind op.result;
}

-- the values behind an operation
abbrev pub values_after : List Value → Op → List Value
values_after values op = option_map_or (λ name. value_of op name ∷ values) op.defines values

abbrev pub scope_after : Scope → Op → Scope
scope_after scope op = record scope { values = values_after scope.values op }

-- a value that regions may not use
abbrev pub plain_value : ℕ → ValueType → Value
plain_value name t = record { name = name; value_type = t; is_constant = false }

-- the values of a function's arguments
abbrev pub with_args : List Value → List Arg → List Value
with_args values [] = values
with_args values (arg ∷ args) =
    with_args (plain_value arg.id arg.value_type ∷ values) args

-- what is known at the start of a function
abbrev pub scope_of : Module → Func → Scope
scope_of m f = record {
  grids = m.grids;
  funcs = m.funcs;
  device = option_map_or (λ carry. Some carry.grid) f.carry None;
  values = with_args [] f.args;
}
