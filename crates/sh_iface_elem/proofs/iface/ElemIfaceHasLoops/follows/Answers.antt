use Rattle.std.proofs.Common.{ap, sym}
use Rattle.sh_iface_elem.specs.ElementOf.{element_by}
use Rattle.sh_iface.specs.LoopNest.{NestDim}
use Rattle.sh_iface_elem.proofs.NestLaws.{dim_below, dim_is}
use Rattle.sh_iface_elem.proofs.iface.ElemIfaceHasLoops.follows.Goals as goal

pub returns : goal.returns
returns c =
    let e = (element_by c.args.self.now.kind c.args.self.now.width c.args.self.now.dims.now c.args.self.now.place) in
    ap (λ (d : NestDim). d.follow) (sym (dim_is e c.args._v c.args.dim (dim_below e c.args._v c.args.dim c.requires.dim)))
