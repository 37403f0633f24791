use Rattle.sh_iface_linalg.specs.Ifaces.{structured_in}
use Rattle.sh_iface_linalg.proofs.NestLaws.{part_made}
use Rattle.sh_iface_linalg.proofs.operation.LinalgIface.local_part.Goals as goal

pub returns : goal.returns
returns c =
    part_made (structured_in c.args.self.now) c.args.g.now c.args.o.now c.combining_kind-combine.result c.new-ops.result c.push_part.new.ops c.new-ops.ensures c.combining_kind-combine.ensures c.in_ok-push_part.ensures
