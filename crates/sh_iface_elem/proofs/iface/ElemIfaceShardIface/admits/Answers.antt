use Rattle.sh_iface.proofs.ElementLaws.{element_lawful}
use Rattle.sh_iface_elem.specs.ElementOf.{element_by}
use Rattle.sh_iface_elem.proofs.NestLaws.{plain_nest}
use Rattle.sh_iface_elem.proofs.iface.ElemIfaceShardIface.admits.Goals as goal

pub is_valid-requires-clause-nest : goal.is_valid-requires-clause-nest
is_valid-requires-clause-nest c = (element_lawful (element_by c.args.self.now.kind c.args.self.now.width c.args.self.now.dims.now c.args.self.now.place) c.args.self.now.element).nest

pub is_valid-requires-clause-plain : goal.is_valid-requires-clause-plain
is_valid-requires-clause-plain c = plain_nest (element_by c.args.self.now.kind c.args.self.now.width c.args.self.now.dims.now c.args.self.now.place)
