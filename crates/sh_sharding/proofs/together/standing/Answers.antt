use Rattle.std.proofs.Common.{◌≡◌, ◌+◌, ◌-◌, ◌<◌, subst, arith}
use Rattle.sh_sharding.specs.Positions.{IsStanding}
use Rattle.sh_sharding.proofs.TogetherLaws.{is_device, positions_fit, standing_step}
use Rattle.sh_sharding.proofs.together.standing.Goals as goal

pub write_own-requires : goal.write_own-requires
write_own-requires c =
    let device = c.devices-devices.result - 1 - c.loop-back.back in
    let below : device < c.devices-devices.result = let lt = c.loop-back-test.true in omega arith in
    let there = is_device c.args.s.now c.args.g.now c.devices-devices.result device c.requires.grid c.devices-devices.ensures.value below in
    positions_fit c.args.s.now c.args.parts.now device _ _ c.index-parts-device.result c.as_slice.result.now c.in_ok-positions.positions.items c.requires.parts there c.index-parts-device.is
    c.loop-back.invariant.counted c.cells.ensures.counted c.as_slice.ensures.value c.in_ok-positions.ensures

pub loop-back-preserved : goal.loop-back-preserved
loop-back-preserved c =
    let device = c.devices-devices.result - 1 - c.loop-back.back in
    let lt = c.loop-back-test.true in
    let below : device < c.devices-devices.result = omega arith in
    let there = is_device c.args.s.now c.args.g.now c.devices-devices.result device c.requires.grid c.devices-devices.ensures.value below in
    let last : device ≡ c.devices-devices.result - (c.loop-back.back + 1) = omega arith in
    let before : c.devices-devices.result - c.loop-back.back ≡ device + 1 = omega arith in
    subst (λ k. IsStanding c.args.s.now c.args.parts.now k c.write_own.new.cells.items) last
    (standing_step c.args.s.now c.args.parts.now device (c.devices-devices.result - c.loop-back.back) c.index-parts-device.result c.cells.result.now c.as_slice.result.now c.in_ok-positions.positions.items c.loop-back.cells.items c.write_own.new.cells.items
    c.requires.parts there before c.index-parts-device.is c.shape-whole.ensures.whole c.cells.ensures.value c.as_slice.ensures.value c.in_ok-positions.ensures c.write_own.ensures c.loop-back.invariant)
