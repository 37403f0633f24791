-- A module that a text stands for is printed, or turned down for a cause.
use mathlib.Core.Path.{refl}
use Rattle.std.proofs.Common.{◌≡◌, ◌⊎◌, inl, inr, List, [], ◌∷◌, ◌++◌, Bool, true, false, Option, Some, None}
use Rattle.std.specs.Cmp.{IsTotalOrder}
use Rattle.sh_base.specs.declared.places.Refusal.{Refusal}
use Rattle.sh_base.specs.declared.rules.Rule.TheVariants.{V10}
use Rattle.sh_base.specs.contracts.places.RefusalOrd.TheImpl.Laws.{total-law}
use Rattle.sh_admission.specs.Faults.{IsRefused as IsNotAdmitted}
use Rattle.sh_ir.specs.Faults.{limit_faults, rule_faults}
use Rattle.sh_ir.specs.Formed.{IsFormed}
use Rattle.sh_ir.specs.declared.functions.Func.{Func}
use Rattle.sh_ir.specs.declared.modules.Module.{Module}
use Rattle.sh_sharding.specs.CutRules.{KeepsCuts}
use Rattle.sh_verify.specs.CutFaults.{AreCutFaults}
use Rattle.sh_verify.specs.Least.{by_place, fault_unless, least_of}
use Rattle.sh_verify.proofs.OrderLaws.{least_found, none_found}
use Rattle.sh_verify.proofs.VerifiedLaws.{least_fault, verified_by}
use Rattle.sh_cli.specs.Answer.{IsSound, IsTurnedDown, has_call}
use Rattle.sh_cli.specs.Answer.IsTurnedDown.{by_admission, by_rule, over_limit, with_call}
use Rattle.sh_cli.specs.declared.status.Status.{Status}
use Rattle.sh_answers.proofs.Irrefutable.{told}

-- refusals are in order by their derived one
total : IsTotalOrder by_place
total = total-law

-- the faults of the cuts of some functions
record CutFaults (m : Module) (funcs : List Func) : Type 0 where
  faults : List Refusal
  are : AreCutFaults m funcs faults

cut_faults : (m : Module) (funcs : List Func) → ¬ (¬ (CutFaults m funcs))
cut_faults m [] none = none (record { faults = []; are = refl })
cut_faults m (f ∷ funcs) none =
    told (KeepsCuts m f) (λ kept.
    cut_faults m funcs (λ rest.
    none (record {
      faults = fault_unless kept.test f.place V10 ++ rest.faults;
      are = (kept.test, rest.faults, kept.tells, refl, rest.are);
    })))

-- a module is printed, or turned down
abbrev pub IsModuleJudged : Module → Type 0
IsModuleJudged m =
    (IsSound m × ((r : Refusal) → ¬ (IsNotAdmitted m false r))) ⊎ ((status : Status) × IsTurnedDown m status)

module _ (m : Module) where
  sound : IsSound m → ¬ (¬ (IsModuleJudged m))
  sound is none = none (inl (is, λ r refused. none (inr (_, by_admission r is refused))))

  within : limit_faults m ≡ [] → has_call m ≡ false → IsFormed m → ¬ (¬ (IsModuleJudged m))
  within few no_call formed none = cut_faults m m.funcs (λ cuts. by cuts (least_of by_place None (rule_faults m ++ cuts.faults)) refl)
    where
      by : (cuts : CutFaults m m.funcs) (found : Option Refusal) → least_of by_place None (rule_faults m ++ cuts.faults) ≡ found → ⊥
      by cuts (Some r) is = none (inr (_, by_rule r few no_call (least_fault m cuts.faults r total cuts.are is)))
      by cuts None is =
          sound (record { within = few; no_call = no_call; verified = verified_by m cuts.faults formed few cuts.are is }) none

  pub module_judged : IsFormed m → ¬ (¬ (IsModuleJudged m))
  module_judged formed none = by (least_of by_place None (limit_faults m)) refl
    where
      calling : (b : Bool) → has_call m ≡ b → limit_faults m ≡ [] → ⊥
      calling true has few = none (inr (_, with_call few has))
      calling false no_call few = within few no_call formed none

      by : (found : Option Refusal) → least_of by_place None (limit_faults m) ≡ found → ⊥
      by (Some r) is = none (inr (_, over_limit r (least_found by_place total (limit_faults m) r is)))
      by None is = calling (has_call m) refl (none_found by_place (limit_faults m) is)
