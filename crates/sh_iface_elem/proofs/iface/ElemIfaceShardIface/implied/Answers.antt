use Rattle.sh_iface.proofs.ElementLaws.{element_lawful}
use Rattle.sh_iface_elem.specs.ElementOf.{element_by}
use Rattle.sh_iface_elem.proofs.NestLaws.{plain_value}
use Rattle.sh_iface_elem.proofs.iface.ElemIfaceShardIface.implied.Goals as goal

pub implied_sharding-requires-clause-nest : goal.implied_sharding-requires-clause-nest
implied_sharding-requires-clause-nest c = (element_lawful (element_by c.args.self.now.kind c.args.self.now.width c.args.self.now.dims.now c.args.self.now.place) c.args.self.now.element).nest

pub implied_sharding-requires-clause-plain : goal.implied_sharding-requires-clause-plain
implied_sharding-requires-clause-plain c = plain_value (element_by c.args.self.now.kind c.args.self.now.width c.args.self.now.dims.now c.args.self.now.place) c.args.v
