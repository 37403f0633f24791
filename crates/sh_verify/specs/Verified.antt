-- What a verified module keeps, and which fault is answered of one that isn't.
use Rattle.std.specs.Prelude.{◌≢◌, ◌⊎◌}
use Rattle.std.specs.List.{AllByRecursion}
use Rattle.std.specs.declared.cmp.Ordering.TheVariants.{Less}
use Rattle.sh_base.specs.declared.places.Refusal.{Refusal}
use Rattle.sh_base.specs.declared.rules.Rule.TheVariants.{L2, L3, L4, L5, L6, L7, V1, V2, V3, V4, V5, V6, V7, V8, V9, V10}
use Rattle.sh_ir.specs.declared.modules.Module.{Module}
use Rattle.sh_ir.specs.Faults.{KeepsModule, rule_faults}
use Rattle.sh_ir.specs.Formed.{IsFormed}
use Rattle.sh_sharding.specs.CutRules.{IsCutFault, KeepsCuts}
use Rattle.sh_verify.specs.Least.{StandsIn, by_place}

-- a fault of a rule, that on carried cuts included
abbrev pub IsFault : Module → Refusal → Type 0
IsFault m refusal = StandsIn (rule_faults m) refusal ⊎ IsCutFault m refusal

-- a fault of the module, and no other comes before it
pub record IsLeastFault (m : Module) (refusal : Refusal) : Type 0 where
  pub there : IsFault m refusal
  pub first : (other : Refusal) → IsFault m other → by_place other refusal ≢ Less

-- A formed module that keeps the limits and the rules.
pub record IsVerified (m : Module) : Type 0 where
  pub formed : IsFormed m
  pub keeps_L2 : KeepsModule L2 m
  pub keeps_L3 : KeepsModule L3 m
  pub keeps_L4 : KeepsModule L4 m
  pub keeps_L5 : KeepsModule L5 m
  pub keeps_L6 : KeepsModule L6 m
  pub keeps_L7 : KeepsModule L7 m
  pub keeps_V1 : KeepsModule V1 m
  pub keeps_V2 : KeepsModule V2 m
  pub keeps_V3 : KeepsModule V3 m
  pub keeps_V4 : KeepsModule V4 m
  pub keeps_V5 : KeepsModule V5 m
  pub keeps_V6 : KeepsModule V6 m
  pub keeps_V7 : KeepsModule V7 m
  pub keeps_V8 : KeepsModule V8 m
  pub keeps_V9 : KeepsModule V9 m
  pub keeps_V10 : KeepsModule V10 m
  pub cuts : AllByRecursion (KeepsCuts m) m.funcs  -- the part of V10 on carried cuts
