use Rattle.sh_sharding.proofs.PositionLaws.{written_step}
use Rattle.sh_sharding.proofs.positions.write_own.Goals as goal

pub loop-position-preserved : goal.loop-position-preserved
loop-position-preserved c =
    let there = c.requires c.loop-position.position-index (record { whole = 0; local = 0 }) c.loop-position-test.true in
    written_step c.args.positions.now c.loop-position.position-index (record { whole = 0; local = 0 }) c.args.part.now c.args.cells.now.items c.loop-position.cells.items c.loop-position-test.true there.in_whole c.loop-position.invariant
