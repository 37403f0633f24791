use Rattle.std.proofs.Common.{◌≡◌, ◌<◌, length, arith, sym, ◌∙◌}
use Rattle.sh_sharding.specs.Windows.{sliced_by}
use Rattle.sh_sharding.proofs.WindowLaws.{pad_step, padded_start, cut_end}
use Rattle.sh_sharding.proofs.cuts.cut.Goals as goal

pub loop-dim-init : goal.loop-dim-init
loop-dim-init c =
    c.in_ok-part.ensures.ok
    ∙ sym (padded_start c.args.s.now c.args.g.now c.args.device c.args.t.now c.rank-dim-end.ensures.admitted c.requires.grid c.requires.device c.in_ok-part.ensures.whole c.requires.shape)

pub padded-requires-clause-axis : goal.padded-requires-clause-axis
padded-requires-clause-axis c =
    let lt : c.loop-dim.dim < length c.args.s.now.dimensions = rw (← c.rank-dim-end.ensures.value) c.loop-dim-test.true in
    (pad_step c.args.s.now c.args.g.now c.args.device (sliced_by c.args.g.now.extents c.args.device c.args.s.now.dimensions c.args.t.now (length c.args.s.now.dimensions)) c.loop-dim.dim c.loop-dim.part c.dimension.result.now c.window_of-window.result.before c.window_of-window.result.taken c.window_of-window.result.after c.rank-dim-end.ensures.admitted c.requires.grid c.requires.device lt c.loop-dim.invariant c.dimension.ensures.value c.window_of-window.ensures.before c.window_of-window.ensures.taken c.window_of-window.ensures.after c.window_of-window.ensures.few).ranked

pub padded-requires-clause-extent : goal.padded-requires-clause-extent
padded-requires-clause-extent c =
    let lt : c.loop-dim.dim < length c.args.s.now.dimensions = rw (← c.rank-dim-end.ensures.value) c.loop-dim-test.true in
    let few = (pad_step c.args.s.now c.args.g.now c.args.device (sliced_by c.args.g.now.extents c.args.device c.args.s.now.dimensions c.args.t.now (length c.args.s.now.dimensions)) c.loop-dim.dim c.loop-dim.part c.dimension.result.now c.window_of-window.result.before c.window_of-window.result.taken c.window_of-window.result.after c.rank-dim-end.ensures.admitted c.requires.grid c.requires.device lt c.loop-dim.invariant c.dimension.ensures.value c.window_of-window.ensures.before c.window_of-window.ensures.taken c.window_of-window.ensures.after c.window_of-window.ensures.few).extent in
    omega arith

pub padded-requires-clause-small : goal.padded-requires-clause-small
padded-requires-clause-small c =
    let lt : c.loop-dim.dim < length c.args.s.now.dimensions = rw (← c.rank-dim-end.ensures.value) c.loop-dim-test.true in
    (pad_step c.args.s.now c.args.g.now c.args.device (sliced_by c.args.g.now.extents c.args.device c.args.s.now.dimensions c.args.t.now (length c.args.s.now.dimensions)) c.loop-dim.dim c.loop-dim.part c.dimension.result.now c.window_of-window.result.before c.window_of-window.result.taken c.window_of-window.result.after c.rank-dim-end.ensures.admitted c.requires.grid c.requires.device lt c.loop-dim.invariant c.dimension.ensures.value c.window_of-window.ensures.before c.window_of-window.ensures.taken c.window_of-window.ensures.after c.window_of-window.ensures.few).small

pub loop-dim-preserved : goal.loop-dim-preserved
loop-dim-preserved c =
    let lt : c.loop-dim.dim < length c.args.s.now.dimensions = rw (← c.rank-dim-end.ensures.value) c.loop-dim-test.true in
    c.in_ok-part-2.ensures
    ∙ (pad_step c.args.s.now c.args.g.now c.args.device (sliced_by c.args.g.now.extents c.args.device c.args.s.now.dimensions c.args.t.now (length c.args.s.now.dimensions)) c.loop-dim.dim c.loop-dim.part c.dimension.result.now c.window_of-window.result.before c.window_of-window.result.taken c.window_of-window.result.after c.rank-dim-end.ensures.admitted c.requires.grid c.requires.device lt c.loop-dim.invariant c.dimension.ensures.value c.window_of-window.ensures.before c.window_of-window.ensures.taken c.window_of-window.ensures.after c.window_of-window.ensures.few).next

pub returns : goal.returns
returns c =
    let end : c.loop-dim.dim ≡ length c.args.s.now.dimensions = omega (arith, c.rank-dim-end.ensures.value, c.loop-dim-test.false, c.loop-dim.auto.dim-end) in
    cut_end c.args.s.now c.args.g.now c.args.device c.args.t.now c.loop-dim.dim c.loop-dim.part c.rank-dim-end.ensures.admitted c.requires.grid c.requires.device end c.loop-dim.invariant
