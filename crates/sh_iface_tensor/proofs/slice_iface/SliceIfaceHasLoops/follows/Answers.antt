use Rattle.std.proofs.Common.{◌∙◌, false, sym, true}
use Rattle.sh_iface_tensor.proofs.SliceNest.{dim_below, follow_is}
use Rattle.sh_iface_tensor.proofs.slice_iface.SliceIfaceHasLoops.follows.Goals as goal

pub follows_at-requires : goal.follows_at-requires
follows_at-requires c = dim_below c.args.self.now.kind c.args.self.now.slice.now c.args.self.now.dims.now c.args.self.now.width c.args.self.now.place c.args.self.now.read c.args.v c.args.dim c.requires.dim

pub returns-then-follows_at : goal.returns-then-follows_at
returns-then-follows_at c = follow_is c.args.self.now.kind c.args.self.now.slice.now c.args.self.now.dims.now c.args.self.now.width c.args.self.now.place c.args.self.now.read c.args.v c.args.dim true (sym c.if-follows_at.true ∙ c.follows_at.ensures) (dim_below c.args.self.now.kind c.args.self.now.slice.now c.args.self.now.dims.now c.args.self.now.width c.args.self.now.place c.args.self.now.read c.args.v c.args.dim c.requires.dim)

pub returns-else-follows_at : goal.returns-else-follows_at
returns-else-follows_at c = follow_is c.args.self.now.kind c.args.self.now.slice.now c.args.self.now.dims.now c.args.self.now.width c.args.self.now.place c.args.self.now.read c.args.v c.args.dim false (sym c.if-follows_at.false ∙ c.follows_at.ensures) (dim_below c.args.self.now.kind c.args.self.now.slice.now c.args.self.now.dims.now c.args.self.now.width c.args.self.now.place c.args.self.now.read c.args.v c.args.dim c.requires.dim)
