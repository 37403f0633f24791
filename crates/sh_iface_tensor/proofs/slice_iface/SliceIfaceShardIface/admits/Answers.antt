use Rattle.sh_iface_tensor.specs.SliceLaws.{sliced_is_nest}
use Rattle.sh_iface_tensor.specs.SliceOf.{sliced_by}
use Rattle.sh_iface_tensor.proofs.SliceNest.{plain_nest}
use Rattle.sh_iface_tensor.proofs.slice_iface.SliceIfaceShardIface.admits.Goals as goal

pub is_valid-requires-clause-nest : goal.is_valid-requires-clause-nest
is_valid-requires-clause-nest c = sliced_is_nest (sliced_by c.args.self.now.kind c.args.self.now.slice.now c.args.self.now.dims.now c.args.self.now.width c.args.self.now.place) c.args.self.now.read.sliced

pub is_valid-requires-clause-plain : goal.is_valid-requires-clause-plain
is_valid-requires-clause-plain c = plain_nest c.args.self.now.kind c.args.self.now.slice.now c.args.self.now.dims.now c.args.self.now.width c.args.self.now.place c.args.self.now.read
