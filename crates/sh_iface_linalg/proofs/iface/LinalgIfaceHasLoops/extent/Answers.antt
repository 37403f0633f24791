use Rattle.std.proofs.Common.{ap, arith, sym, ◌∙◌}
use Rattle.std.specs.Prelude.{get_or}
use Rattle.sh_iface.specs.LoopNest.{NestDim}
use Rattle.sh_iface_linalg.specs.Ifaces.{structured_in}
use Rattle.sh_iface_linalg.proofs.NestLaws.{dim_below, dim_is, loop_below}
use Rattle.sh_iface_linalg.proofs.iface.LinalgIfaceHasLoops.extent.Goals as goal

pub loop_at-requires : goal.loop_at-requires
loop_at-requires c = dim_below (structured_in c.args.self.now) c.args.v c.args.dim c.requires.dim

pub extent_along-requires : goal.extent_along-requires
extent_along-requires c =
    let below = loop_below (structured_in c.args.self.now) c.args.self.now.structured c.args.v c.args.dim (dim_below (structured_in c.args.self.now) c.args.v c.args.dim c.requires.dim) in
    let same = c.loop_at.ensures in
    omega (arith, below, same)

pub returns : goal.returns
returns c =
    let e = (structured_in c.args.self.now) in
    c.extent_along.ensures
    ∙ ap (λ l. get_or e.extents l 0) c.loop_at.ensures
    ∙ ap (λ (d : NestDim). d.extent) (sym (dim_is e c.args.v c.args.dim (dim_below e c.args.v c.args.dim c.requires.dim)))
