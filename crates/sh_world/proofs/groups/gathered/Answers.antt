use Rattle.std.proofs.Common.{◌≡◌, ◌<◌, ℕ, Option, sym, ap, ◌∙◌, arith, map, Some, None}
use Rattle.std.specs.Prelude.{slice_get}
use Rattle.std.proofs.lemmas.List.{map_push}
use Rattle.sh_grid.specs.Grid.{group_of, member_of}
use Rattle.sh_tensor.specs.Tensor.{TensorValue}
use Rattle.sh_turns.specs.World.{device_at, posted_for}
use Rattle.sh_world.specs.States.{device_of}
use Rattle.sh_world.proofs.GroupLaws.{gather_more, gather_none, posted_at}
use Rattle.sh_world.proofs.groups.gathered.Goals as goal

pub returns-in_default : goal.returns-in_default
unfolding group_of
returns-in_default c =
    let states = c.args.states.now in
    let f = member_of c.args.g.now.extents c.args.axes.now c.args.device in
    let get : ℕ → Option TensorValue = λ m. posted_for c.args.instruction (slice_get (device_at (map device_of states) m).posts c.args.number) in
    let place = c.loop-place.place in
    let none : get (f place) ≡ None = posted_at states c.member.result (f place) c.index-states-member.result c.args.instruction c.args.number None c.member.ensures.value (omega (arith, c.member.ensures.within, c.requires.states)) c.index-states-member.is c.in_default.ensures in
    let lt : place < c.group_size-place-end.result = c.loop-place-test.true in
    sym (rw (← c.group_size-place-end.ensures.value) (gather_none get f place c.group_size-place-end.result lt none))

pub loop-place-preserved : goal.loop-place-preserved
loop-place-preserved c =
    let states = c.args.states.now in
    let f = member_of c.args.g.now.extents c.args.axes.now c.args.device in
    let get : ℕ → Option TensorValue = λ m. posted_for c.args.instruction (slice_get (device_at (map device_of states) m).posts c.args.number) in
    let place = c.loop-place.place in
    let there : get (f place) ≡ Some c.in-Some.t.now = posted_at states c.member.result (f place) c.index-states-member.result c.args.instruction c.args.number (Some c.in-Some.t.now) c.member.ensures.value (omega (arith, c.member.ensures.within, c.requires.states)) c.index-states-member.is c.in-Some.ensures in
    gather_more get f c.loop-place.place (map (λ t. t.now) c.loop-place.found.items) c.in-Some.t.now c.loop-place.invariant there
    ∙ ap (λ ts. Some ts) (sym (ap (map (λ t. t.now)) c.in_ok-push.ensures.items ∙ map_push (λ t. t.now) c.loop-place.found.items c.in-Some.t))

pub returns : goal.returns
unfolding group_of
returns c =
    let end : c.loop-place.place ≡ c.group_size-place-end.result = omega (arith, c.loop-place-test.false, c.loop-place.auto.place-end) in
    sym (rw (← c.group_size-place-end.ensures.value, ← end) c.loop-place.invariant)
