use Rattle.std.proofs.Common.{get_or, ap, ◌∙◌}
use Rattle.sh_sharding.proofs.PartLaws.{read_through}
use Rattle.sh_sharding.proofs.reading.dimension.Goals as goal

pub returns : goal.returns
returns c =
    let is = read_through _ c.args.s.now c.args.dim _ c.s.view_is c.s.invariant.sharding c.requires (c.index-as_slice-dim.is ∙ ap (λ ds. get_or ds c.args.dim c.index-as_slice-dim.result) c.as_slice.ensures) in
    record { value = is.value; grid = is.grid; axes = is.axes; admitted = is.admitted; small = is.small }
