use Rattle.std.proofs.Common.{◌≡◌, ◌-◌, ap₂, ◌∙◌}
use Rattle.sh_sharding.specs.Sharding.{dimension_of, offset_at, part_size, size_of_part}
use Rattle.sh_sharding.proofs.ViewLaws.{largest_grows}
use Rattle.sh_iface_tensor.proofs.slice_local.largest_size.Goals as goal

pub loop-part-preserved : goal.loop-part-preserved
unfolding part_size size_of_part offset_at
loop-part-preserved c =
    let g = c.args.s.now.grid.extents in
    let d = dimension_of c.args.s.now c.args.dim in
    let size : c.saturating_sub-size.result ≡ part_size g d c.loop-part.part = c.saturating_sub-size.ensures ∙ ap₂ ◌-◌ c.offset.ensures.value c.offset-in-loop-part.ensures.value in
    largest_grows (part_size g d) c.loop-part.part c.loop-part.largest c.saturating_sub-size.result c.max-largest.result c.loop-part.invariant size c.max-largest.ensures
