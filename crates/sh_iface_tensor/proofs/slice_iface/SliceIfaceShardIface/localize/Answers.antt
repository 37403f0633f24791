use Rattle.std.proofs.Common.{List, None, ap}
use Rattle.sh_ir.specs.declared.operations.Op.{Op}
use Rattle.sh_iface_tensor.specs.SliceLaws.{sliced_is_nest}
use Rattle.sh_iface_tensor.specs.SliceOf.{sliced_by}
use Rattle.sh_iface_tensor.proofs.SliceNest.{at_most, no_halos, part_is, plain_value}
use Rattle.sh_iface_tensor.proofs.slice_iface.SliceIfaceShardIface.localize.Goals as goal

pub implied_sharding-requires-clause-nest : goal.implied_sharding-requires-clause-nest
implied_sharding-requires-clause-nest c = sliced_is_nest (sliced_by c.args.self.now.kind c.args.self.now.slice.now c.args.self.now.dims.now c.args.self.now.width c.args.self.now.place) c.args.self.now.read.sliced

pub implied_sharding-requires-clause-v : goal.implied_sharding-requires-clause-v
implied_sharding-requires-clause-v c = at_most c.args.self.now.kind c.args.self.now.slice.now c.args.self.now.dims.now c.args.self.now.width c.args.self.now.place c.args.self.now.read c.numbers-sliced.result.0 c.numbers-sliced.ensures.first

pub implied_sharding-requires-clause-plain : goal.implied_sharding-requires-clause-plain
implied_sharding-requires-clause-plain c = plain_value c.args.self.now.kind c.args.self.now.slice.now c.args.self.now.dims.now c.args.self.now.width c.args.self.now.place c.args.self.now.read c.numbers-sliced.result.0

pub implied_sharding-requires-2-clause-nest : goal.implied_sharding-requires-2-clause-nest
implied_sharding-requires-2-clause-nest c = sliced_is_nest (sliced_by c.args.self.now.kind c.args.self.now.slice.now c.args.self.now.dims.now c.args.self.now.width c.args.self.now.place) c.args.self.now.read.sliced

pub implied_sharding-requires-2-clause-v : goal.implied_sharding-requires-2-clause-v
implied_sharding-requires-2-clause-v c = at_most c.args.self.now.kind c.args.self.now.slice.now c.args.self.now.dims.now c.args.self.now.width c.args.self.now.place c.args.self.now.read c.numbers-sliced.result.1 c.numbers-sliced.ensures.second

pub implied_sharding-requires-2-clause-plain : goal.implied_sharding-requires-2-clause-plain
implied_sharding-requires-2-clause-plain c = plain_value c.args.self.now.kind c.args.self.now.slice.now c.args.self.now.dims.now c.args.self.now.width c.args.self.now.place c.args.self.now.read c.numbers-sliced.result.1

pub push_local-requires : goal.push_local-requires
push_local-requires c = no_halos c.args.self.now.kind c.args.self.now.slice.now c.args.self.now.dims.now c.args.self.now.width c.args.self.now.place c.args.self.now.read c.args.g.now c.args.o.now c.numbers-sliced.result.1 c.in_ok-part.part c.in_ok-part.ensures

pub returns : goal.returns
returns c =
    ap (λ (ops : List Op). record { ops = ops; combine = None })
    (part_is c.args.self.now.kind c.args.self.now.slice.now c.args.self.now.dims.now c.args.self.now.width c.args.self.now.place c.args.self.now.read c.args.g.now c.args.o.now c.numbers-sliced.result.0 c.numbers-sliced.result.1 c.in_ok-sliced.sliced c.in_ok-part.part c.push_local.new.ops c.new-ops.result
    c.numbers-sliced.ensures.sliced c.numbers-sliced.ensures.part c.in_ok-sliced.ensures c.in_ok-part.ensures c.new-ops.ensures c.in_ok-push_local.ensures)
