-- The headline: what holds of a module in source form and of the module in device form that was
-- written for it, in every order of device turns.
use Rattle.std.specs.Prelude.{◌≡◌, ℕ, List, ◌++◌, map, Option, Some, None, Contains}
use Rattle.sh_grid.specs.Grid.{GridValue, IsGrid}
use Rattle.sh_ir.specs.declared.functions.Carry.{Carry}
use Rattle.sh_ir.specs.declared.functions.Func.{Func}
use Rattle.sh_ir.specs.declared.modules.Module.{Module}
use Rattle.sh_ir.specs.Shapes.{argument_types}
use Rattle.sh_tensor.specs.Tensor.{TensorValue}
use Rattle.sh_sharding.specs.Carried.{AreAdmitted, cuts_of, grid_named, grid_of}
use Rattle.sh_sharding.specs.CutRules.{HasLocalTypes}
use Rattle.sh_sem.specs.Meaning.{means}
use Rattle.sh_sem.specs.Returned.{returned_types}
use Rattle.sh_sem.specs.Steps.{device_program}
use Rattle.sh_sem.specs.Types.{AreOfTypes}
use Rattle.sh_pieces.specs.Right.{RunsRight}
use Rattle.sh_cli.specs.Modules.{StandsFor}

-- Started on the cuts of any arguments of the source's types on which the source has a meaning, the
-- written function leaves each device the cut of the source's results, in every order of turns.
abbrev pub RunsAsMeant : Func → Func → Carry → GridValue → Type 0
RunsAsMeant source written carry g =
    (arguments results : List TensorValue)
    → AreOfTypes (argument_types source) arguments
    → means source arguments ≡ Some results
    → RunsRight (device_program written g.extents (cuts_of g carry.args arguments))
    (cuts_of g carry.results results)

-- a function in device form is a partition of the one in source form, on a grid
pub record IsPartition (source written : Func) (carry : Carry) (g : GridValue) : Type 0 where
  pub name : written.name ≡ source.name
  pub carries : written.carry ≡ Some carry
  pub is_grid : IsGrid g.extents
  pub of_arguments : map (λ cut. cut.whole) carry.args ≡ argument_types source
  pub of_results : map (λ cut. cut.whole) carry.results ≡ source.results
  pub admitted : AreAdmitted g carry.args × AreAdmitted g carry.results
  pub local : HasLocalTypes g written carry
  pub of_return : returned_types written.ops ≡ written.results
  pub runs : RunsAsMeant source written carry g

-- a partition of the function is among these functions, on the grid that it names
pub record HasPartition (source : Func) (m written : Module) : Type 0 where
  pub function : Func
  pub carry : Carry
  pub grid : GridValue
  pub among : Contains written.funcs function
  pub on_grid : grid_named m.grids carry.grid ≡ Some grid
  pub is_partition : IsPartition source function carry grid

-- the modules have the same grids, and each function in source form of the one its partition in the
-- other
pub record IsPartitioned (m written : Module) : Type 0 where
  pub grids : map grid_of written.grids ≡ map grid_of m.grids
  pub functions : (source : Func) → Contains m.funcs source → source.carry ≡ None
      → HasPartition source m written

-- The two texts stand for modules, and whichever they stand for, the second is the first partitioned.
pub record IsRewritten (text written : List ℕ) : Type 0 where
  pub reads : (m : Module) × StandsFor text m
  pub writes : (m : Module) × StandsFor written m
  pub right : (m rewritten : Module) → StandsFor text m → StandsFor written rewritten
      → IsPartitioned m rewritten

-- where the source told its text and the sink what it took, that text was rewritten
abbrev pub Rewrites : Option (List ℕ) → Option (List ℕ) → Option (List ℕ) → Type 0
Rewrites None old new = Unit {0}
Rewrites (Some text) None new = Unit {0}
Rewrites (Some text) (Some old) None = Unit {0}
Rewrites (Some text) (Some old) (Some new) =
    (written : List ℕ) → new ≡ old ++ written → IsRewritten text written
