use Rattle.std.proofs.Common.{ap, arith, pos}
use Rattle.std.proofs.lemmas.Int.{ints, to_z-of_z}
use Rattle.sh_sharding.specs.Sharding.{dimension_of, offset_at, parts_of}
use Rattle.sh_plan.specs.Instructions.{part_starts}
use Rattle.sh_reshard.proofs.LoweringSteps.{written_end, written_more}
use Rattle.sh_reshard.proofs.numbers.part_starts.Goals as goal

pub loop-part-preserved : goal.loop-part-preserved
loop-part-preserved c =
    written_more (offset_at c.args.s.now.grid.extents (dimension_of c.args.s.now c.args.dim)) c.loop-part.part (pos c.offset.result) c.loop-part.starts c.push.new.self c.loop-part.invariant
    (ap pos c.offset.ensures.value) (grind (arith, ints, to_z-of_z, c.in_ok-push.ensures.ok))

pub returns : goal.returns
unfolding part_starts
returns c =
    let count = c.part_count-part-end.ensures.value in
    written_end (offset_at c.args.s.now.grid.extents (dimension_of c.args.s.now c.args.dim)) c.loop-part.part (parts_of c.args.s.now.grid.extents (dimension_of c.args.s.now c.args.dim))
    c.loop-part.starts c.loop-part.invariant (omega (arith, count))
