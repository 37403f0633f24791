use Rattle.sh_literals.proofs.Bytes.{one_cell}
use Rattle.sh_literals.proofs.quoted.cells_of_bytes.Goals as goal

pub loop-at-preserved : goal.loop-at-preserved
loop-at-preserved c =
    one_cell c.args.size c.args.bytes.now c.loop-at.at c.loop-at.cells.items _ _ _ _
    c.loop-at.invariant c.in_ok-push.ensures.items c.little_endian.ensures
    c.split_at-in-loop-at.ensures.front c.split_at.ensures.back
