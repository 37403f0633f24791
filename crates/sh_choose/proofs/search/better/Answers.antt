use Rattle.sh_sharding.proofs.Cases.{not_both}
use Rattle.sh_choose.proofs.BestLaws.{best_beside, best_first, best_without}
use Rattle.sh_choose.proofs.search.better.Goals as goal

pub returns-then-not-admits : goal.returns-then-not-admits
returns-then-not-admits g c =
    λ after b. best_without (g.O.HasLoops.meaning c.args.op.now).nest c.args.g.now c.args.known.now c.args.o after c.args.best
    (λ v. not_both c.admits.result (c.admits.ensures.1 v) c.if-not-admits.true) b

pub returns-then-is_as_little : goal.returns-then-is_as_little
returns-then-is_as_little g c =
    λ after b. best_first (g.O.HasLoops.meaning c.args.op.now).nest c.args.g.now c.args.known.now c.args.o c.chosen.result c.in_ok-weight.weight after c.args.best
    c.chosen.ensures.option (c.admits.ensures.0 c.if-not-admits.false) c.in_ok-weight.ensures c.chosen.ensures.weight (c.is_as_little.ensures.little c.if-is_as_little.true) b

pub returns-else-is_as_little : goal.returns-else-is_as_little
returns-else-is_as_little g c =
    λ after b. best_beside (g.O.HasLoops.meaning c.args.op.now).nest c.args.g.now c.args.known.now c.args.o c.in_ok-weight.weight after c.args.best
    c.in_ok-weight.ensures (c.is_as_little.ensures.past c.if-is_as_little.false) b
