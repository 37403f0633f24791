use Rattle.sh_loops.proofs.StepLaws.{place_taken}
use Rattle.sh_loops.proofs.rows.output_at.Goals as goal

pub returns : goal.returns
returns c =
    place_taken c.args.nest.now c.args.extents.now c.args.outs.now.shape c.args.number c.point_at-point.result c.as_slice.result.now c.place_in.result
    c.point_at-point.ensures c.as_slice.ensures c.place_in.ensures.value
