use Rattle.std.proofs.Common.{◌≡◌, ◌∙◌}
use Rattle.sh_sharding.specs.Sharding.{dimension_of}
use Rattle.sh_plan.proofs.SplitSteps.{is_split_as}
use Rattle.sh_sharding.specs.Made.{IsState, with_dimension}
use Rattle.sh_plan.proofs.MovedSteps.{made_state}
use Rattle.sh_plan.proofs.moving.split_as.Goals as goal

pub with_other-requires-clause-sharding : goal.with_other-requires-clause-sharding
with_other-requires-clause-sharding c =
    let made : c.in_ok-d.d ≡ dimension_of c.args.to.now c.args.dim = c.in_ok-d.ensures ∙ c.dimension.ensures.value in
    rw made (is_split_as c.args.s.now c.args.to.now c.args.dim c.requires.state c.requires.target c.requires.grid c.requires.whole c.requires.dim c.requires.may).sharding

pub returns-clause-state : goal.returns-clause-state
returns-clause-state c =
    let made : c.in_ok-d.d ≡ dimension_of c.args.to.now c.args.dim = c.in_ok-d.ensures ∙ c.dimension.ensures.value in
    let state : IsState (with_dimension c.args.s.now c.args.dim c.in_ok-d.d) =
    rw made (is_split_as c.args.s.now c.args.to.now c.args.dim c.requires.state c.requires.target c.requires.grid c.requires.whole c.requires.dim c.requires.may) in
    made_state c.with_other.result (with_dimension c.args.s.now c.args.dim c.in_ok-d.d) state c.with_other.ensures
