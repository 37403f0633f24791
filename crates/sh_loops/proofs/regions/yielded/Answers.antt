use Rattle.std.proofs.Common.{arith}
use Rattle.sh_loops.proofs.StepLaws.{region_read, yielded_within}
use Rattle.sh_loops.proofs.regions.yielded.Goals as goal

pub returns-clause-within : goal.returns-clause-within
returns-clause-within c =
    λ w takes here.
    yielded_within c.args.region.now w c.args.point.now c.args.cells.now c.args.so_far c.read.result takes (λ i. let small = c.type_inv.point i in omega (arith, small)) here
    (region_read c.args.region.now c.args.point.now c.as_slice-3.result.now _ _ c.as_slice-2.result.now c.as_slice.result.now c.args.cells.now c.args.so_far c.in_ok-run.field-0 c.read.result
    c.read.ensures c.as_slice-3.ensures.value c.if-not-branch.false c.in_ok-run.ensures c.as_slice-2.ensures c.in_ok-fill_block.ensures c.as_slice.ensures)
