use Rattle.std.proofs.Common.{arith, sym, ◌∙◌}
use Rattle.std.proofs.lemmas.Int.{ints, to_z-of_z}
use Rattle.sh_sharding.specs.Sharding.{parts_of}
use Rattle.sh_sharding.proofs.NormalLaws.{offsets_more, offsets_end}
use Rattle.sh_sharding.proofs.spelling.push_offsets.Goals as goal

pub loop-part-preserved : goal.loop-part-preserved
loop-part-preserved c =
    offsets_more c.args.g.now.extents c.args.d.now c.loop-part.part c.offset.result c.args.offsets.now c.loop-part.offsets c.push.new.self c.loop-part.invariant
    (c.offset.ensures.value ∙ c.division_of-parts.ensures.offset c.loop-part.part) (grind (arith, ints, to_z-of_z, c.in_ok-push.ensures.ok))

pub returns : goal.returns
unfolding parts_of
returns c =
    offsets_end c.args.g.now.extents c.args.d.now c.division_of-parts.result.parts c.loop-part.part c.args.offsets.now c.loop-part.offsets c.loop-part.invariant c.division_of-parts.ensures.parts
    (sym c.is_split_dimension.ensures ∙ c.if-not-is_split_dimension.false) (omega arith)
