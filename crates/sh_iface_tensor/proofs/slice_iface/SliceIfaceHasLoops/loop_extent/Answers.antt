use Rattle.std.proofs.Common.{◌∙◌, ap, get_or, sym}
use Rattle.sh_iface_tensor.specs.SliceOf.{sliced_by}
use Rattle.sh_iface_tensor.specs.Slices.{loop_extents_by}
use Rattle.sh_iface_tensor.proofs.SliceNest.{extent_is, loop_below, loop_extent_is}
use Rattle.sh_iface_tensor.proofs.slice_iface.SliceIfaceHasLoops.loop_extent.Goals as goal

pub size_at-requires : goal.size_at-requires
size_at-requires c = loop_below c.args.self.now.kind c.args.self.now.slice.now c.args.self.now.dims.now c.args.self.now.width c.args.self.now.place c.args.self.now.read c.args.l c.requires

pub extent_at-requires : goal.extent_at-requires
extent_at-requires c = loop_below c.args.self.now.kind c.args.self.now.slice.now c.args.self.now.dims.now c.args.self.now.width c.args.self.now.place c.args.self.now.read c.args.l c.requires

pub returns-in-Extract : goal.returns-in-Extract
returns-in-Extract c =
    c.size_at.ensures
    ∙ ap (λ k. get_or (loop_extents_by k (sliced_by c.args.self.now.kind c.args.self.now.slice.now c.args.self.now.dims.now c.args.self.now.width c.args.self.now.place).ranges) c.args.l 0) (sym c.in-Extract.is)
    ∙ loop_extent_is c.args.self.now.kind c.args.self.now.slice.now c.args.self.now.dims.now c.args.self.now.width c.args.self.now.place c.args.self.now.read c.args.l (loop_below c.args.self.now.kind c.args.self.now.slice.now c.args.self.now.dims.now c.args.self.now.width c.args.self.now.place c.args.self.now.read c.args.l c.requires)

pub returns-in-Insert : goal.returns-in-Insert
returns-in-Insert c =
    c.extent_at.ensures
    ∙ extent_is c.args.self.now.kind c.args.self.now.slice.now c.args.self.now.dims.now c.args.self.now.width c.args.self.now.place c.args.self.now.read c.args.l
    ∙ ap (λ k. get_or (loop_extents_by k (sliced_by c.args.self.now.kind c.args.self.now.slice.now c.args.self.now.dims.now c.args.self.now.width c.args.self.now.place).ranges) c.args.l 0) (sym c.in-Insert.is)
    ∙ loop_extent_is c.args.self.now.kind c.args.self.now.slice.now c.args.self.now.dims.now c.args.self.now.width c.args.self.now.place c.args.self.now.read c.args.l (loop_below c.args.self.now.kind c.args.self.now.slice.now c.args.self.now.dims.now c.args.self.now.width c.args.self.now.place c.args.self.now.read c.args.l c.requires)
