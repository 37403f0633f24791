use Rattle.std.proofs.Common.{subst, sym, ◌++◌}
use Rattle.sh_choose.specs.Bounds.{IsPast}
use Rattle.sh_choose.specs.Least.{weight_in}
use Rattle.sh_choose.specs.Weights.{weight_of}
use Rattle.sh_choose.proofs.BoundLaws.{past_weight}
use Rattle.sh_choose.proofs.bounds.is_hopeless.Goals as goal

pub returns-in-Some : goal.returns-in-Some
returns-in-Some g c =
    let nest = (g.O.HasLoops.meaning c.args.op.now).nest in
    λ t rest v.
    subst (λ b. IsPast b (weight_of nest c.args.g.now c.args.known.now (c.args.o.now ++ rest))) (sym c.in-Some.is)
    (past_weight nest c.args.g.now c.args.known.now (c.args.o.now ++ rest) (weight_in c.in-Some.best) c.least_differing.result c.least_differing-in-Some.result (c.is_past.ensures t) (c.least_differing.ensures rest v) (c.least_differing-in-Some.ensures rest v))
