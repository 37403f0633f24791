use Rattle.std.proofs.Common.{◌+◌, ap, ◌∙◌}
use Rattle.sh_grid.specs.Grid.{group_size_of}
use Rattle.sh_sharding.specs.Sharding.{largest_to, size_of_part, part_size, parts_of}
use Rattle.sh_sharding.specs.Views.{described, mark_in}
use Rattle.sh_sharding.proofs.local_sizes.largest_extent.Goals as goal

pub returns : goal.returns
unfolding described part_size parts_of
returns c =
    let v = c.args.view.now in
    let parts = c.size_along-parts.ensures.value ∙ ap (group_size_of c.args.g.now.extents) c.as_slice.ensures.value in
    ap (λ n. v.low + n + v.high) (c.largest_part.ensures.value ∙ ap (λ p. largest_to (size_of_part v.extent p (mark_in v.extent p v.mark)) p) parts)
