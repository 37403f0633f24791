use Rattle.std.proofs.Common.{◌≡◌, List, ℤ, true, subst, sym}
use Rattle.sh_sharding.specs.OffsetLists.{AreOffsets}
use Rattle.sh_sharding.proofs.OffsetListLaws.{has_is}
use Rattle.sh_sharding.proofs.ViewLaws.{scaled-one}
use Rattle.sh_sharding.proofs.offset_lists.has_offsets.Goals as goal

pub returns-else-not-is_split_dimension : goal.returns-else-not-is_split_dimension
returns-else-not-is_split_dimension c =
    let r = c.are_offsets.result in
    let n = c.args.d.now.extent in
    let p = c.group_size.result in
    let is = subst (λ (zs : List ℤ). (r ≡ true → AreOffsets n p zs) × (AreOffsets n p zs → r ≡ true)) (scaled-one c.args.offsets.now) c.are_offsets.ensures in
    has_is c.args.g.now.extents c.args.d.now p c.args.offsets.now r c.group_size.ensures.value (sym c.if-not-is_split_dimension.ensures) is
