-- Functions in device form whose types are those of the local tensors, and one whose types aren't.
use Rattle.std.specs.Prelude.{[], ◌∷◌, codes}
use Rattle.sh_base.specs.declared.numbers.Width.TheVariants.{I32}
use Rattle.sh_ir.specs.declared.functions.Carry.{Carry}
use Rattle.sh_ir.specs.declared.functions.Cut.{Cut}
use Rattle.sh_ir.specs.declared.functions.Func.{Func}
use Rattle.sh_ir.specs.Rules.{refusal_at}
use Rattle.sh_base.specs.declared.rules.Rule.TheVariants.{V10}
use Rattle.sh_sharding.specs.Carried.{grid_of}
use Rattle.sh_sharding.specs.CutRules.{HasLocalTypes, IsCutFault, KeepsCuts}
use Rattle.sh_verify_tests.specs.Modules.{carried_by, device_func, eight, one_func, plain_func}
use Rattle.sh_verify_tests.specs.Samples.{here, the_grid, vector}

abbrev pub halves : Carry
halves = record { grid = codes "g"; args = eight ∷ []; results = eight ∷ [] }

-- its argument is the whole tensor
abbrev pub whole_func : Func
whole_func = record device_func { args = record { id = 0; value_type = vector 8 I32 } ∷ [] }

-- the whole tensor of eight cells on each device, where the function has types of four
abbrev pub whole_cut : Cut
whole_cut = record {
  whole = vector 8 I32;
  sharding = record { grid = codes "g"; split = []; halos = []; offsets = [] };
}

abbrev pub replicated_func : Func
replicated_func = carried_by (whole_cut ∷ []) (whole_cut ∷ [])

pub record CutsRight : Type 0 where
  pub halved : HasLocalTypes (grid_of the_grid) device_func halves
  pub whole : ¬ HasLocalTypes (grid_of the_grid) whole_func halves
  pub fault : IsCutFault (one_func replicated_func) (refusal_at here V10)
  pub source : KeepsCuts (one_func plain_func) plain_func
