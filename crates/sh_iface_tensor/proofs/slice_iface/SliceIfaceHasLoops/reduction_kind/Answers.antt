use Rattle.std.proofs.Common.{ap, sym}
use Rattle.sh_iface.specs.LoopNest.{Loop}
use Rattle.sh_iface_tensor.proofs.SliceNest.{loop_below, loop_is}
use Rattle.sh_iface_tensor.proofs.slice_iface.SliceIfaceHasLoops.reduction_kind.Goals as goal

pub returns : goal.returns
returns c = ap (λ (loop : Loop). loop.kind) (sym (loop_is c.args.self.now.kind c.args.self.now.slice.now c.args.self.now.dims.now c.args.self.now.width c.args.self.now.place c.args.self.now.read c.args._l (loop_below c.args.self.now.kind c.args.self.now.slice.now c.args.self.now.dims.now c.args.self.now.width c.args.self.now.place c.args.self.now.read c.args._l c.requires)))
