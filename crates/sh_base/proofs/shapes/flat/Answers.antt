use Rattle.std.proofs.Common.{◌<◌, ◌≤◌, length, arith}
use Rattle.sh_base.proofs.ShapeLaws.{flat_step, flat_whole, flat_of-below, unflat_of-flat_of}
use Rattle.sh_base.proofs.shapes.flat.Goals as goal

pub overflow_mul-number : goal.overflow_mul-number
overflow_mul-number c =
    rw c.extents-extent-items.ensures.value
    (let lt : c.loop-at.at < length c.args.s.now = rw (← c.extents-extent-items.ensures.value) c.loop-at-test.true in
    let step = flat_step c.args.s.now c.args.i.now c.loop-at.at c.loop-at.number c.requires.within lt c.loop-at.invariant in
    omega (arith, step.below))

pub overflow_add-number : goal.overflow_add-number
overflow_add-number c =
    rw (c.extents-extent-items.ensures.value, c.extents-places.ensures.value)
    (let lt : c.loop-at.at < length c.args.s.now = rw (← c.extents-extent-items.ensures.value) c.loop-at-test.true in
    let step = flat_step c.args.s.now c.args.i.now c.loop-at.at c.loop-at.number c.requires.within lt c.loop-at.invariant in
    omega (arith, step.below))

pub loop-at-preserved : goal.loop-at-preserved
loop-at-preserved c =
    rw (c.extents-extent-items.ensures.value, c.extents-places.ensures.value)
    (let lt : c.loop-at.at < length c.args.s.now = rw (← c.extents-extent-items.ensures.value) c.loop-at-test.true in
    let step = flat_step c.args.s.now c.args.i.now c.loop-at.at c.loop-at.number c.requires.within lt c.loop-at.invariant in
    step.value)

pub returns-clause-value : goal.returns-clause-value
returns-clause-value c =
    let le : length c.args.s.now ≤ c.loop-at.at = rw (← c.extents-extent-items.ensures.value) c.loop-at-test.false in
    flat_whole c.args.s.now c.args.i.now c.loop-at.at c.loop-at.number c.requires.within le c.loop-at.invariant

pub returns-clause-below : goal.returns-clause-below
returns-clause-below c =
    let le : length c.args.s.now ≤ c.loop-at.at = rw (← c.extents-extent-items.ensures.value) c.loop-at-test.false in
    rw (flat_whole c.args.s.now c.args.i.now c.loop-at.at c.loop-at.number c.requires.within le c.loop-at.invariant)
    (flat_of-below c.args.s.now c.args.i.now c.requires.within)

pub returns-clause-inverse : goal.returns-clause-inverse
returns-clause-inverse c =
    let le : length c.args.s.now ≤ c.loop-at.at = rw (← c.extents-extent-items.ensures.value) c.loop-at-test.false in
    rw (flat_whole c.args.s.now c.args.i.now c.loop-at.at c.loop-at.number c.requires.within le c.loop-at.invariant)
    (unflat_of-flat_of c.args.s.now c.args.i.now c.requires.within)
