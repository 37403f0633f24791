use Rattle.sh_iface_tensor.specs.SliceLaws.{sliced_is_nest}
use Rattle.sh_iface_tensor.specs.SliceOf.{sliced_by}
use Rattle.sh_iface_tensor.proofs.SliceNest.{plain_value}
use Rattle.sh_iface_tensor.proofs.slice_iface.SliceIfaceShardIface.implied.Goals as goal

pub implied_sharding-requires-clause-nest : goal.implied_sharding-requires-clause-nest
implied_sharding-requires-clause-nest c = sliced_is_nest (sliced_by c.args.self.now.kind c.args.self.now.slice.now c.args.self.now.dims.now c.args.self.now.width c.args.self.now.place) c.args.self.now.read.sliced

pub implied_sharding-requires-clause-plain : goal.implied_sharding-requires-clause-plain
implied_sharding-requires-clause-plain c = plain_value c.args.self.now.kind c.args.self.now.slice.now c.args.self.now.dims.now c.args.self.now.width c.args.self.now.place c.args.self.now.read c.args.v
