use Rattle.std.proofs.Common.{◌∙◌, sym}
use Rattle.sh_iface_tensor.proofs.SliceNest.{dim_below, extent_of_slice, extent_of_sliced}
use Rattle.sh_iface_tensor.proofs.slice_iface.SliceIfaceHasLoops.extent.Goals as goal

pub extent_at-requires : goal.extent_at-requires
extent_at-requires c = dim_below c.args.self.now.kind c.args.self.now.slice.now c.args.self.now.dims.now c.args.self.now.width c.args.self.now.place c.args.self.now.read c.args.v c.args.dim c.requires.dim

pub size_at-requires : goal.size_at-requires
size_at-requires c = dim_below c.args.self.now.kind c.args.self.now.slice.now c.args.self.now.dims.now c.args.self.now.width c.args.self.now.place c.args.self.now.read c.args.v c.args.dim c.requires.dim

pub returns-then-is_sliced : goal.returns-then-is_sliced
returns-then-is_sliced c = c.extent_at.ensures ∙ extent_of_sliced c.args.self.now.kind c.args.self.now.slice.now c.args.self.now.dims.now c.args.self.now.width c.args.self.now.place c.args.self.now.read c.args.v c.args.dim (sym c.is_sliced.ensures ∙ c.if-is_sliced.true) (dim_below c.args.self.now.kind c.args.self.now.slice.now c.args.self.now.dims.now c.args.self.now.width c.args.self.now.place c.args.self.now.read c.args.v c.args.dim c.requires.dim)

pub returns-else-is_sliced : goal.returns-else-is_sliced
returns-else-is_sliced c = c.size_at.ensures ∙ extent_of_slice c.args.self.now.kind c.args.self.now.slice.now c.args.self.now.dims.now c.args.self.now.width c.args.self.now.place c.args.self.now.read c.args.v c.args.dim (sym c.is_sliced.ensures ∙ c.if-is_sliced.false) (dim_below c.args.self.now.kind c.args.self.now.slice.now c.args.self.now.dims.now c.args.self.now.width c.args.self.now.place c.args.self.now.read c.args.v c.args.dim c.requires.dim)
