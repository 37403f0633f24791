-- What rule V10 asks of the cuts that a function in device form carries: where all of them are
-- admitted, the types of its arguments and results are those of the local tensors.
use Rattle.std.specs.Prelude.{◌≡◌, ◌++◌, Contains, MatchOption, ⊤}
use Rattle.sh_base.specs.declared.places.Refusal.{Refusal}
use Rattle.sh_base.specs.declared.rules.Rule.TheVariants.{V10}
use Rattle.sh_grid.specs.Grid.{GridValue, IsGrid}
use Rattle.sh_ir.specs.declared.functions.Carry.{Carry}
use Rattle.sh_ir.specs.declared.functions.Func.{Func}
use Rattle.sh_ir.specs.declared.modules.Module.{Module}
use Rattle.sh_ir.specs.Rules.{refusal_at}
use Rattle.sh_ir.specs.Shapes.{argument_types}
use Rattle.sh_sharding.specs.Carried.{AreAdmitted, grid_named, local_types}

-- the types of a function's arguments and results are those that its cuts give
pub record HasLocalTypes (g : GridValue) (f : Func) (carry : Carry) : Type 0 where
  pub args : argument_types f ≡ local_types g carry.args
  pub results : f.results ≡ local_types g carry.results

-- Where a cut isn't admitted nothing is asked here of any of them: admission refuses it.
abbrev pub FitsOn : GridValue → Func → Carry → Type 0
FitsOn g f carry =
    IsGrid g.extents → AreAdmitted g (carry.args ++ carry.results) → HasLocalTypes g f carry

-- nothing is asked in source form, and where the grid isn't defined
abbrev pub KeepsCuts : Module → Func → Type 0
KeepsCuts m f =
    MatchOption f.carry ⊤ (λ carry.
    MatchOption (grid_named m.grids carry.grid) ⊤ (λ g. FitsOn g f carry))

-- a function of the module whose cuts break the rule, at its place
pub record IsCutFault (m : Module) (refusal : Refusal) : Type 0 where
  pub func : Func
  pub there : Contains m.funcs func
  pub broken : ¬ KeepsCuts m func
  pub fault : refusal ≡ refusal_at func.place V10
