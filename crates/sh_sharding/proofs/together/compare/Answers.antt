use Rattle.std.proofs.Common.{◌≡◌, ◌+◌, ap, subst, sym, arith}
use Rattle.sh_base.specs.Shape.{cell_count}
use Rattle.sh_sharding.proofs.TogetherLaws.{IsFirstSoFar, is_device, positions_fit, least_read, first_kept, first_less, refused}
use Rattle.sh_sharding.proofs.together.compare.Goals as goal
use Rattle.sh_sharding.proofs.together.compare.Goals.{then-least-first_cell, else-least-first_cell}

pub least_differing-least-requires-clause-few : goal.least_differing-least-requires-clause-few
least_differing-least-requires-clause-few c =
    let counted = c.requires.standing.counted in
    let total = c.total_cells-total.ensures.value in
    let few = c.total_cells-total.ensures.few in
    omega arith

pub least_differing-least-requires-clause-inside : goal.least_differing-least-requires-clause-inside
least_differing-least-requires-clause-inside c =
    let there = is_device c.args.s.now c.args.g.now c.devices-device-end.result c.loop-device.device c.requires.grid c.devices-device-end.ensures.value c.loop-device-test.true in
    positions_fit c.args.s.now c.args.parts.now c.loop-device.device _ _ c.index-parts-device.result c.as_slice.result.now c.in_ok-positions.positions.items c.requires.parts there c.index-parts-device.is
    c.requires.standing.counted c.cells.ensures.counted c.as_slice.ensures.value c.in_ok-positions.ensures

pub loop-device-preserved : goal.loop-device-preserved
loop-device-preserved c =
    let there = is_device c.args.s.now c.args.g.now c.devices-device-end.result c.loop-device.device c.requires.grid c.devices-device-end.ensures.value c.loop-device-test.true in
    let here = least_read c.args.s.now c.args.parts.now c.args.cells.now c.loop-device.device c.least_differing-least.result c.index-parts-device.result c.cells.result.now c.as_slice.result.now c.in_ok-positions.positions.items c.requires.parts there c.index-parts-device.is
    c.requires.standing.counted c.cells.ensures.value c.as_slice.ensures.value c.in_ok-positions.ensures c.least_differing-least.ensures in
    elim c.if-least-first_cell.branch [
      | then-least-first_cell w ↦
          subst (IsFirstSoFar c.args.s.now c.args.parts.now c.args.cells.now (c.loop-device.device + 1) c.if-least-first_cell.first_device) (sym w.first_cell-is)
          (subst (λ k. IsFirstSoFar c.args.s.now c.args.parts.now c.args.cells.now (c.loop-device.device + 1) k c.least_differing-least.result) (sym w.first_device-is)
          (first_less c.args.s.now c.args.parts.now c.args.cells.now c.loop-device.device c.loop-device.first_device c.loop-device.first_cell c.least_differing-least.result here w.if-least-first_cell.true c.loop-device.invariant))
      | else-least-first_cell w ↦
          subst (IsFirstSoFar c.args.s.now c.args.parts.now c.args.cells.now (c.loop-device.device + 1) c.if-least-first_cell.first_device) (sym w.first_cell-is)
          (subst (λ k. IsFirstSoFar c.args.s.now c.args.parts.now c.args.cells.now (c.loop-device.device + 1) k c.loop-device.first_cell) (sym w.first_device-is)
          (first_kept c.args.s.now c.args.parts.now c.args.cells.now c.loop-device.device c.loop-device.first_device c.loop-device.first_cell c.least_differing-least.result here w.if-least-first_cell.false c.loop-device.invariant))
    ]

pub returns-then-first_cell-total-clause-refused : goal.returns-then-first_cell-total-clause-refused
returns-then-first_cell-total-clause-refused c =
    let count : cell_count c.args.s.now.grid.extents ≡ cell_count c.args.g.now.extents = ap (λ z. cell_count z.extents) c.requires.grid in
    let value = c.devices-device-end.ensures.value in
    let end = c.loop-device-test.false in
    let last : c.loop-device.device ≡ cell_count c.args.s.now.grid.extents = omega arith in
    let total = c.total_cells-total.ensures.value in
    let lt = c.if-first_cell-total.true in
    refused c.args.s.now c.args.parts.now c.args.cells.now c.loop-device.device c.loop-device.first_device c.loop-device.first_cell last (omega arith) c.requires.standing c.loop-device.invariant
