use Rattle.sh_iface_linalg.specs.Ifaces.{structured_in}
use Rattle.sh_iface_linalg.specs.Loops.{nest_in_order}
use Rattle.sh_iface_linalg.proofs.NestLaws.{plain_at}
use Rattle.sh_iface_linalg.proofs.iface.LinalgIfaceShardIface.implied.Goals as goal

pub implied_sharding-requires-clause-nest : goal.implied_sharding-requires-clause-nest
implied_sharding-requires-clause-nest c = nest_in_order (structured_in c.args.self.now) c.args.self.now.structured

pub implied_sharding-requires-clause-plain : goal.implied_sharding-requires-clause-plain
implied_sharding-requires-clause-plain c = plain_at (structured_in c.args.self.now) c.args.v
