use Rattle.sh_iface_linalg.specs.Ifaces.{structured_in}
use Rattle.sh_iface_linalg.specs.Loops.{nest_in_order, plain_nest}
use Rattle.sh_iface_linalg.proofs.iface.LinalgIfaceShardIface.admits.Goals as goal

pub is_valid-requires-clause-nest : goal.is_valid-requires-clause-nest
is_valid-requires-clause-nest c = nest_in_order (structured_in c.args.self.now) c.args.self.now.structured

pub is_valid-requires-clause-plain : goal.is_valid-requires-clause-plain
is_valid-requires-clause-plain c = plain_nest (structured_in c.args.self.now)
