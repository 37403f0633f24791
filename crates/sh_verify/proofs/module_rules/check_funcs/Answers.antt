use Rattle.std.proofs.Common.{◌∙◌, ap, sym, take, refl}
use Rattle.sh_verify.specs.Least.{by_place, least_of}
use Rattle.sh_verify.specs.RuleFaults.{func_rules, funcs_rules}
use Rattle.sh_verify.proofs.RuleLaws.{found_after}
use Rattle.sh_verify.proofs.module_rules.check_funcs.Goals as goal

pub loop-at-preserved : goal.loop-at-preserved
loop-at-preserved c =
    found_after (func_rules c.args.tables.now) (funcs_rules c.args.tables.now) (λ before x xs. refl) c.args.funcs.now c.loop-at.at
    c.index-funcs-at.result c.loop-at.found c.in_ok-found.found _ c.loop-at-test.true c.index-funcs-at.is c.loop-at.invariant
    (c.in_ok-found.ensures
    ∙ ap (λ fs. least_of by_place c.loop-at.found (func_rules c.args.tables.now (take c.loop-at.at fs) c.index-funcs-at.result)) (sym c.requires))
