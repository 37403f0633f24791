use Rattle.std.proofs.Common.{sym}
use Rattle.sh_iface_tensor.proofs.SliceNest.{dims_counted}
use Rattle.sh_iface_tensor.proofs.slice_iface.SliceIfaceHasLoops.rank.Goals as goal

pub returns : goal.returns
returns c = sym (dims_counted c.args.self.now.kind c.args.self.now.slice.now c.args.self.now.dims.now c.args.self.now.width c.args.self.now.place c.args.self.now.read c.args._v)
