use Rattle.std.proofs.Common.{get_or, ap, sym, ◌∙◌}
use Rattle.sh_loops.specs.Sizes.{has_room_for}
use Rattle.sh_loops.proofs.RoomLaws.{dim_fails, dim_passes, dims_end}
use Rattle.sh_loops.proofs.sizes.dims_have_room.Goals as goal

pub returns-then-not-has_room : goal.returns-then-not-has_room
returns-then-not-has_room c =
    sym (dim_fails c.args.extents.now c.args.dims.now c.args.shape.now c.loop-at.at 0 c.index-dims-at.result c.loop-at-test.true c.requires
    (ap (λ loops. has_room_for c.args.extents.now loops (get_or c.args.shape.now c.loop-at.at 0)) (sym (c.as_slice.ensures ∙ c.index-dims-at.is)) ∙ sym c.has_room.ensures ∙ c.if-not-has_room.true))
    ∙ c.loop-at.invariant

pub loop-at-preserved : goal.loop-at-preserved
loop-at-preserved c =
    dim_passes c.args.extents.now c.args.dims.now c.args.shape.now c.loop-at.at 0 c.index-dims-at.result c.loop-at-test.true c.requires
    (ap (λ loops. has_room_for c.args.extents.now loops (get_or c.args.shape.now c.loop-at.at 0)) (sym (c.as_slice.ensures ∙ c.index-dims-at.is)) ∙ sym c.has_room.ensures ∙ c.if-not-has_room.false)
    ∙ c.loop-at.invariant

pub returns : goal.returns
returns c =
    sym (dims_end c.args.extents.now c.args.dims.now _ c.loop-at.at c.loop-at-test.false) ∙ c.loop-at.invariant
