use Rattle.std.proofs.Common.{◌≡◌, ◌<◌, sym, arith, length, map}
use Rattle.std.specs.Prelude.{nat_le}
use Rattle.std.proofs.lemmas.Bool.{lt-leb, le-leb}
use Rattle.sh_grid.specs.Grid.{group_of, member_of}
use Rattle.sh_turns.specs.World.{device_at}
use Rattle.sh_world.specs.States.{device_of}
use Rattle.sh_world.proofs.GroupLaws.{all_more, all_fails, count_at}
use Rattle.sh_world.proofs.groups.all_posted.Goals as goal

pub returns-then-post_count-count : goal.returns-then-post_count-count
unfolding group_of
returns-then-post_count-count c =
    let states = c.args.states.now in
    let f = member_of c.args.g.now.extents c.args.axes.now c.args.device in
    let n = count_at states c.member-other.result (f c.loop-place.place) c.index-states-other.result c.post_count.result c.member-other.ensures.value (omega (arith, c.member-other.ensures.within, c.requires.states)) c.index-states-other.is c.post_count.ensures in
    let lt : c.loop-place.place < c.group_size-place-end.result = c.loop-place-test.true in
    sym (rw (← c.group_size-place-end.ensures.value) (all_fails f (λ m. nat_le c.args.count (length (device_at (map device_of states) m).posts)) c.loop-place.place c.group_size-place-end.result lt (lt-leb _ _ (omega (arith, n, c.if-post_count-count.true)))))

pub loop-place-preserved : goal.loop-place-preserved
loop-place-preserved c =
    let states = c.args.states.now in
    let f = member_of c.args.g.now.extents c.args.axes.now c.args.device in
    let n = count_at states c.member-other.result (f c.loop-place.place) c.index-states-other.result c.post_count.result c.member-other.ensures.value (omega (arith, c.member-other.ensures.within, c.requires.states)) c.index-states-other.is c.post_count.ensures in
    all_more f (λ m. nat_le c.args.count (length (device_at (map device_of states) m).posts)) c.loop-place.place c.loop-place.invariant (le-leb _ _ (omega (arith, n, c.if-post_count-count.false)))

pub returns : goal.returns
unfolding group_of
returns c =
    let end : c.loop-place.place ≡ c.group_size-place-end.result = omega (arith, c.loop-place-test.false, c.loop-place.auto.place-end) in
    sym (rw (← c.group_size-place-end.ensures.value, ← end) c.loop-place.invariant)
