use Rattle.std.proofs.Common.{◌≡◌, sym, subst, ◌++◌, List}
use Rattle.std.specs.Prelude.{None}
use Rattle.std.specs.List.{All}
use Rattle.std.proofs.lemmas.Result.{IfOk-weaker}
use Rattle.sh_base.specs.declared.places.Refusal.{Refusal}
use Rattle.sh_ir.specs.Faults.{rule_faults}
use Rattle.sh_verify.specs.CutFaults.{AreCutFaults, HasReadyCuts}
use Rattle.sh_verify.specs.Least.{by_place, least_of}
use Rattle.sh_verify.proofs.VerifiedLaws.{IsFoundIn, all_ready, found_in_all}
use Rattle.sh_verify.proofs.verification.check_module.Goals as goal

pub check_cuts-requires : goal.check_cuts-requires
check_cuts-requires c = subst (All HasReadyCuts) (sym c.as_slice.ensures) (all_ready c.args.m.now c.requires.formed c.requires.within)

pub returns : goal.returns
returns c =
    let m = c.args.m.now in
    IfOk-weaker c.check_cuts.result (λ found. IsFoundIn c.in_ok-tables.tables c.as_slice.result.now c.in_ok-least.least found)
    (λ found. (faults : List Refusal) × AreCutFaults m m.funcs faults × (found ≡ least_of by_place None (rule_faults m ++ faults)))
    (λ found is. found_in_all m c.in_ok-tables.tables c.as_slice.result.now c.in_ok-least.least found c.in_ok-tables.ensures
    c.as_slice.ensures c.in_ok-least.ensures is)
    c.check_cuts.ensures
