use Rattle.std.proofs.Common.{rules}
use Rattle.sh_plan.specs.Moves.{moved}
use Rattle.sh_plan.proofs.CheckSteps.{place_within, sought_after}
use Rattle.sh_plan.proofs.checking.place_after.Goals as goal

pub returns-clause-place : goal.returns-clause-place
returns-clause-place c =
    c.place_of.ensures c.args.to.now (moved c.args.s.now c.args.to.now c.args.m) c.requires.grid c.requires.all
    (sought_after c.args.to.now c.args.s.now c.args.m _ c.requires.state c.requires.target.state c.requires.named c.requires.may (search rules))

pub returns-clause-within : goal.returns-clause-within
returns-clause-within c =
    place_within c.args.table.now _ c.place_of.result (c.place_of.ensures c.args.to.now (moved c.args.s.now c.args.to.now c.args.m) c.requires.grid c.requires.all
    (sought_after c.args.to.now c.args.s.now c.args.m _ c.requires.state c.requires.target.state c.requires.named c.requires.may (search rules)))
