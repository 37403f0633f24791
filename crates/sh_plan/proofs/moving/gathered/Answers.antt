use Rattle.std.proofs.Common.{◌≡◌, ◌∙◌, ap}
use Rattle.sh_sharding.specs.declared.shardings.Dimension.{Dimension}
use Rattle.sh_sharding.specs.Sharding.{dimension_of, unsplit}
use Rattle.sh_sharding.proofs.MadeLaws.{states_stay}
use Rattle.sh_sharding.specs.Made.{IsState, with_dimension}
use Rattle.sh_plan.proofs.MovedSteps.{made_state}
use Rattle.sh_plan.proofs.moving.gathered.Goals as goal

pub with_other-requires-clause-sharding : goal.with_other-requires-clause-sharding
with_other-requires-clause-sharding c =
    let made : c.whole_dimension-d.result ≡ unsplit (dimension_of c.args.s.now c.args.dim).extent =
    c.whole_dimension-d.ensures ∙ ap (λ (d : Dimension). unsplit d.extent) c.dimension.ensures.value in
    rw made ((states_stay c.args.s.now c.requires.state).gathered c.args.dim c.requires.dim).sharding

pub returns-clause-state : goal.returns-clause-state
returns-clause-state c =
    let made : c.whole_dimension-d.result ≡ unsplit (dimension_of c.args.s.now c.args.dim).extent =
    c.whole_dimension-d.ensures ∙ ap (λ (d : Dimension). unsplit d.extent) c.dimension.ensures.value in
    let state : IsState (with_dimension c.args.s.now c.args.dim c.whole_dimension-d.result) = rw made ((states_stay c.args.s.now c.requires.state).gathered c.args.dim c.requires.dim) in
    made_state c.with_other.result (with_dimension c.args.s.now c.args.dim c.whole_dimension-d.result) state c.with_other.ensures
