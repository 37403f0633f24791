use Rattle.std.proofs.Common.{◌≡◌, ◌∙◌, ◌-◌, ap, length, take}
use Rattle.sh_sharding.specs.declared.shardings.Dimension.{Dimension}
use Rattle.sh_sharding.specs.Sharding.{dimension_of}
use Rattle.sh_sharding.proofs.MadeLaws.{states_stay}
use Rattle.sh_plan.specs.Moves.{last_axis, without_last}
use Rattle.sh_plan.proofs.MoveSteps.{last_apart}
use Rattle.sh_plan.proofs.States.{even_is, some_split}
use Rattle.sh_sharding.specs.Made.{IsState, with_dimension}
use Rattle.sh_plan.proofs.MovedSteps.{is_dropped, made_state}
use Rattle.sh_plan.proofs.moving.dropped.Goals as goal

pub without_last_axis-d-requires : goal.without_last_axis-d-requires
without_last_axis-d-requires c = rw c.dimension.ensures.value (even_is c.args.s.now.grid.extents (dimension_of c.args.s.now c.args.dim) c.requires.even).balanced

pub with_other-requires-clause-sharding : goal.with_other-requires-clause-sharding
with_other-requires-clause-sharding c =
    let made : c.without_last_axis-d.result ≡ without_last (dimension_of c.args.s.now c.args.dim) =
    c.without_last_axis-d.ensures ∙ ap (λ (d : Dimension). without_last d) c.dimension.ensures.value in
    let some = some_split (dimension_of c.args.s.now c.args.dim).axes (even_is c.args.s.now.grid.extents (dimension_of c.args.s.now c.args.dim) c.requires.even).split in
    rw made ((states_stay c.args.s.now c.requires.state).dropped c.args.dim (take (length (dimension_of c.args.s.now c.args.dim).axes - 1) (dimension_of c.args.s.now c.args.dim).axes)
    (last_axis (dimension_of c.args.s.now c.args.dim)) c.requires.dim c.requires.even (last_apart (dimension_of c.args.s.now c.args.dim).axes some)).0.sharding

pub returns-clause-state : goal.returns-clause-state
returns-clause-state c =
    let made : c.without_last_axis-d.result ≡ without_last (dimension_of c.args.s.now c.args.dim) =
    c.without_last_axis-d.ensures ∙ ap (λ (d : Dimension). without_last d) c.dimension.ensures.value in
    let state : IsState (with_dimension c.args.s.now c.args.dim c.without_last_axis-d.result) = rw made (is_dropped c.args.s.now c.args.dim c.requires.state c.requires.dim c.requires.even) in
    made_state c.with_other.result (with_dimension c.args.s.now c.args.dim c.without_last_axis-d.result) state c.with_other.ensures
