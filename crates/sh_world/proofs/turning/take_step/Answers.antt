use Rattle.std.proofs.Common.{◌≡◌, ℕ, ◌-◌, List, Option, length, map, Some, sym, ap, ap₂, subst, ◌∙◌, Bor}
use Rattle.std.specs.Prelude.{option_map, slice_get, Vec}
use Rattle.sh_grid.specs.Grid.{group_of, place_in}
use Rattle.sh_tensor.specs.declared.tensors.Tensor.{Tensor}
use Rattle.sh_tensor.specs.Tensor.{TensorValue}
use Rattle.sh_turns.specs.Program.{all_there}
use Rattle.sh_turns.specs.World.{device_at, posted_for}
use Rattle.sh_world.specs.States.{device_of}
use Rattle.sh_world.specs.Turning.{CanTake, posted_in}
use Rattle.sh_world.proofs.TakeLaws.{can_collect}
use Rattle.sh_world.proofs.turning.take_step.Goals as goal
use Rattle.sh_world.proofs.turning.take_step.Goals.{After-as_slice}

abbrev tensors : After-as_slice → List TensorValue
tensors c = map (λ t. t.now) c.as_slice.result.now

posted : (c : After-as_slice) → posted_in c.args.g.now.extents c.args.instruction.now.op.now c.args.device c.args.state.now.next
    (length (device_of c.args.state.now).posts - 1) (map device_of c.args.states.now) ≡ Some (tensors c)
posted c =
    let next = c.args.state.now.next in
    let all : List ℕ → ℕ → Option (List TensorValue) =
    λ axes number. all_there (map (λ m. posted_for next (slice_get (device_at (map device_of c.args.states.now) m).posts number)) (group_of c.args.g.now.extents axes c.args.device)) in
    let number : c.saturating_sub-number.result ≡ length (device_of c.args.state.now).posts - 1 = c.saturating_sub-number.ensures ∙ ap (λ n. n - 1) c.post_count.ensures in
    sym (ap (λ (ts : List (Bor Tensor)). Some (map (λ t. t.now) ts)) c.as_slice.ensures.value
    ∙ ap (option_map (λ (ts : Vec (Bor Tensor) _). map (λ t. t.now) ts.items)) (sym c.in-Some.is)
    ∙ c.in_ok-ts.ensures ∙ ap₂ all c.group_axes-axes.ensures number)

can : (c : After-as_slice) → CanTake c.args.instruction.now.op.now c.args.g.now.extents (tensors c) c.place_in_group-place.result
can c =
    subst (CanTake c.args.instruction.now.op.now c.args.g.now.extents (tensors c))
    (sym (c.place_in_group-place.ensures.value ∙ ap (λ axes. place_in c.args.g.now.extents axes c.args.device) c.group_axes-axes.ensures))
    (c.requires.can (tensors c) (posted c))

pub collect_at-requires-clause-group : goal.collect_at-requires-clause-group
collect_at-requires-clause-group c =
    let d = (goal.at.collect_at-requires-clause-group c).After-as_slice in
    can_collect c.args.instruction.now.op.now c.args.g.now.extents c.args.device c.args.state.now.next (length (device_of c.args.state.now).posts - 1) (map device_of c.args.states.now) (tensors d)
    c.place_in_group-place.result c.requires.axes (posted d) (rw (← c.group_axes-axes.ensures) c.place_in_group-place.ensures.below) (can d)

pub collect_at-requires-clause-widths : goal.collect_at-requires-clause-widths
collect_at-requires-clause-widths c = (can (goal.at.collect_at-requires-clause-widths c).After-as_slice).operands.widths

pub collect_at-requires-clause-small : goal.collect_at-requires-clause-small
collect_at-requires-clause-small c = (can (goal.at.collect_at-requires-clause-small c).After-as_slice).small
