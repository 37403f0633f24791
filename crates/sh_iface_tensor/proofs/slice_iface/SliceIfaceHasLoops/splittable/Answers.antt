use Rattle.std.proofs.Common.{◌∙◌, ap, sym}
use Rattle.sh_iface.specs.LoopNest.{Loop}
use Rattle.sh_iface_tensor.proofs.SliceNest.{loop_below, loop_is}
use Rattle.sh_iface_tensor.proofs.slice_iface.SliceIfaceHasLoops.splittable.Goals as goal

pub takes_whole-requires : goal.takes_whole-requires
takes_whole-requires c = loop_below c.args.self.now.kind c.args.self.now.slice.now c.args.self.now.dims.now c.args.self.now.width c.args.self.now.place c.args.self.now.read c.args.l c.requires

pub returns : goal.returns
returns c = c.takes_whole.ensures ∙ ap (λ (loop : Loop). loop.splittable) (sym (loop_is c.args.self.now.kind c.args.self.now.slice.now c.args.self.now.dims.now c.args.self.now.width c.args.self.now.place c.args.self.now.read c.args.l (loop_below c.args.self.now.kind c.args.self.now.slice.now c.args.self.now.dims.now c.args.self.now.width c.args.self.now.place c.args.self.now.read c.args.l c.requires)))
