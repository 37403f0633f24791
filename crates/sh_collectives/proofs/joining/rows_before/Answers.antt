use Rattle.std.proofs.Common.{◌≡◌, ap, ◌∙◌, take, arith}
use Rattle.sh_base.specs.Shape.{cell_count}
use Rattle.sh_base.proofs.IndexLaws.{cell_count-front_le}
use Rattle.sh_collectives.proofs.joining.rows_before.Goals as goal

pub count_of-requires : goal.count_of-requires
count_of-requires c =
    let front : cell_count c.shape-before.result ≡ cell_count (take c.args.axis c.args.s.now) = ap cell_count (c.shape-before.ensures ∙ ap (take c.args.axis) c.extents.ensures.value) in
    omega (arith, front, cell_count-front_le c.args.s.now c.args.axis c.requires.some, c.requires.small)
