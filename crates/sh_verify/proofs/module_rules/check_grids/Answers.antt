use Rattle.std.proofs.Common.{◌∙◌, ap, sym, take, refl}
use Rattle.sh_verify.specs.Least.{by_place, least_of}
use Rattle.sh_verify.specs.RuleFaults.{grid_rules, grids_rules}
use Rattle.sh_verify.proofs.RuleLaws.{found_after}
use Rattle.sh_verify.proofs.module_rules.check_grids.Goals as goal

pub loop-at-preserved : goal.loop-at-preserved
loop-at-preserved c =
    found_after grid_rules grids_rules (λ before x xs. refl) c.args.grids.now c.loop-at.at c.index-grids-at.result c.loop-at.found
    c.check_grid-found.result _ c.loop-at-test.true c.index-grids-at.is c.loop-at.invariant
    (c.check_grid-found.ensures
    ∙ ap (λ gs. least_of by_place c.loop-at.found (grid_rules (take c.loop-at.at gs) c.index-grids-at.result)) (sym c.requires))
