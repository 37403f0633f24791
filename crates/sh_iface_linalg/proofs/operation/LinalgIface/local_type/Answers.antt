use Rattle.std.proofs.Common.{ap, arith, ◌∙◌}
use Rattle.sh_iface.specs.Elements.{tensor_of}
use Rattle.sh_sharding.specs.LocalTypes.{local_dims}
use Rattle.sh_iface_linalg.specs.Ifaces.{structured_in}
use Rattle.sh_iface_linalg.specs.Loops.{nest_in_order}
use Rattle.sh_iface_linalg.proofs.NestLaws.{operands_counted, plain_at, type_of}
use Rattle.sh_iface_linalg.proofs.operation.LinalgIface.local_type.Goals as goal

pub implied_sharding-requires-clause-nest : goal.implied_sharding-requires-clause-nest
implied_sharding-requires-clause-nest c = nest_in_order (structured_in c.args.self.now) c.args.self.now.structured

pub implied_sharding-requires-clause-v : goal.implied_sharding-requires-clause-v
implied_sharding-requires-clause-v c =
    let n = operands_counted (structured_in c.args.self.now) in
    let le = c.requires.v in
    omega (arith, n, le)

pub implied_sharding-requires-clause-plain : goal.implied_sharding-requires-clause-plain
implied_sharding-requires-clause-plain c = plain_at (structured_in c.args.self.now) c.args.v

pub returns : goal.returns
returns c =
    let e = structured_in c.args.self.now in
    type_of e c.args.g.now c.args.o.now c.args.v c.in_ok-sharding.sharding c.in_ok-made.made c.in_ok-sharding.ensures
    (c.in_ok-made.ensures ∙ ap (tensor_of (local_dims c.in_ok-sharding.sharding)) c.width_at.ensures)
