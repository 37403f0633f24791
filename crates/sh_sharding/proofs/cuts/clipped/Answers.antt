use Rattle.std.proofs.Common.{unwrap_or, ◌<◌, length, sym, ◌∙◌, ap}
use Rattle.std.proofs.lemmas.List.{length-map}
use Rattle.sh_sharding.proofs.WindowLaws.{slice_step, sliced_by-none}
use Rattle.sh_sharding.proofs.cuts.clipped.Goals as goal

pub loop-dim-init : goal.loop-dim-init
loop-dim-init c =
    sym (sliced_by-none c.args.g.now.extents c.args.device c.args.s.now.dimensions c.args.t.now c.shape.ensures.whole c.requires.shape)

pub sliced_further-requires-clause-axis : goal.sliced_further-requires-clause-axis
sliced_further-requires-clause-axis c =
    let long = ap length (c.extents.ensures.value ∙ c.shape.ensures.value ∙ c.requires.shape) ∙ length-map c.args.s.now.dimensions (λ d. d.extent) in
    let lt : c.loop-dim.dim < length c.args.s.now.dimensions = rw (← long) c.loop-dim-test.true in
    (slice_step c.args.g.now.extents c.args.device c.args.s.now.dimensions c.args.t.now c.loop-dim.dim (unwrap_or c.loop-dim.part c.args.t.now) c.dimension.result.now c.window_of-window.result.from c.window_of-window.result.taken lt c.loop-dim.invariant c.dimension.ensures.value c.window_of-window.ensures.from c.window_of-window.ensures.taken c.window_of-window.ensures.within).ranked

pub sliced_further-requires-clause-within : goal.sliced_further-requires-clause-within
sliced_further-requires-clause-within c =
    let long = ap length (c.extents.ensures.value ∙ c.shape.ensures.value ∙ c.requires.shape) ∙ length-map c.args.s.now.dimensions (λ d. d.extent) in
    let lt : c.loop-dim.dim < length c.args.s.now.dimensions = rw (← long) c.loop-dim-test.true in
    (slice_step c.args.g.now.extents c.args.device c.args.s.now.dimensions c.args.t.now c.loop-dim.dim (unwrap_or c.loop-dim.part c.args.t.now) c.dimension.result.now c.window_of-window.result.from c.window_of-window.result.taken lt c.loop-dim.invariant c.dimension.ensures.value c.window_of-window.ensures.from c.window_of-window.ensures.taken c.window_of-window.ensures.within).within

pub loop-dim-preserved : goal.loop-dim-preserved
loop-dim-preserved c =
    let long = ap length (c.extents.ensures.value ∙ c.shape.ensures.value ∙ c.requires.shape) ∙ length-map c.args.s.now.dimensions (λ d. d.extent) in
    let lt : c.loop-dim.dim < length c.args.s.now.dimensions = rw (← long) c.loop-dim-test.true in
    c.in_ok-part.ensures
    ∙ (slice_step c.args.g.now.extents c.args.device c.args.s.now.dimensions c.args.t.now c.loop-dim.dim (unwrap_or c.loop-dim.part c.args.t.now) c.dimension.result.now c.window_of-window.result.from c.window_of-window.result.taken lt c.loop-dim.invariant c.dimension.ensures.value c.window_of-window.ensures.from c.window_of-window.ensures.taken c.window_of-window.ensures.within).next
