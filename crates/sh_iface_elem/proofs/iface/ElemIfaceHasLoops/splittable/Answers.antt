use Rattle.std.proofs.Common.{ap, sym}
use Rattle.sh_iface_elem.specs.ElementOf.{element_by}
use Rattle.sh_iface.specs.LoopNest.{Loop}
use Rattle.sh_iface_elem.proofs.NestLaws.{loop_below, loop_is}
use Rattle.sh_iface_elem.proofs.iface.ElemIfaceHasLoops.splittable.Goals as goal

pub returns : goal.returns
returns c =
    let e = (element_by c.args.self.now.kind c.args.self.now.width c.args.self.now.dims.now c.args.self.now.place) in
    ap (λ (loop : Loop). loop.splittable) (sym (loop_is e c.args._l (loop_below e c.args._l c.requires)))
