use Rattle.std.proofs.Common.{List, None, ap}
use Rattle.sh_ir.specs.declared.operations.Op.{Op}
use Rattle.sh_iface.proofs.ElementLaws.{element_lawful}
use Rattle.sh_iface_elem.specs.ElementOf.{element_by}
use Rattle.sh_iface_elem.proofs.NestLaws.{part_is, plain_value}
use Rattle.sh_iface_elem.proofs.iface.ElemIfaceShardIface.localize.Goals as goal

pub implied_sharding-requires-clause-nest : goal.implied_sharding-requires-clause-nest
implied_sharding-requires-clause-nest c = (element_lawful (element_by c.args.self.now.kind c.args.self.now.width c.args.self.now.dims.now c.args.self.now.place) c.args.self.now.element).nest

pub implied_sharding-requires-clause-plain : goal.implied_sharding-requires-clause-plain
implied_sharding-requires-clause-plain c = plain_value (element_by c.args.self.now.kind c.args.self.now.width c.args.self.now.dims.now c.args.self.now.place) c.operands.result

pub returns : goal.returns
returns c =
    ap (λ (ops : List Op). record { ops = ops; combine = None })
    (part_is (element_by c.args.self.now.kind c.args.self.now.width c.args.self.now.dims.now c.args.self.now.place) c.args.g.now c.args.o.now c.operands.result c.in_ok-sharding.sharding c.push_local.new.ops c.new-ops.result
    c.operands.ensures c.in_ok-sharding.ensures c.new-ops.ensures c.in_ok-push_local.ensures)
