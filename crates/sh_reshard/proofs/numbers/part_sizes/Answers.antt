use Rattle.std.proofs.Common.{ap, ap₂, arith, pos, ◌-◌, ◌∙◌}
use Rattle.std.proofs.lemmas.Int.{ints, to_z-of_z}
use Rattle.sh_sharding.specs.LocalTypes.{part_sizes}
use Rattle.sh_sharding.specs.Sharding.{dimension_of, offset_at, part_size, parts_of, size_of_part}
use Rattle.sh_reshard.proofs.LoweringSteps.{written_end, written_more}
use Rattle.sh_reshard.proofs.numbers.part_sizes.Goals as goal

pub loop-part-preserved : goal.loop-part-preserved
unfolding part_size size_of_part offset_at
loop-part-preserved c =
    let size = c.saturating_sub-size.ensures ∙ ap₂ (λ a b. a - b) c.offset-end.ensures.value c.offset-start.ensures.value in
    written_more (part_size c.args.s.now.grid.extents (dimension_of c.args.s.now c.args.dim)) c.loop-part.part (pos c.saturating_sub-size.result) c.loop-part.sizes c.push.new.self c.loop-part.invariant
    (ap pos size) (grind (arith, ints, to_z-of_z, c.in_ok-push.ensures.ok))

pub returns : goal.returns
unfolding part_sizes
returns c =
    let count = c.part_count-part-end.ensures.value in
    written_end (part_size c.args.s.now.grid.extents (dimension_of c.args.s.now c.args.dim)) c.loop-part.part (parts_of c.args.s.now.grid.extents (dimension_of c.args.s.now c.args.dim))
    c.loop-part.sizes c.loop-part.invariant (omega (arith, count))
