use Rattle.sh_iface_linalg.specs.Ifaces.{structured_in}
use Rattle.sh_iface_linalg.specs.Structured.{local_loop}
use Rattle.sh_iface_linalg.proofs.NestLaws.{reducing_made}
use Rattle.sh_iface_linalg.proofs.operation.LinalgIface.push_reducing.Goals as goal

pub returns : goal.returns
returns c =
    let e = structured_in c.args.self.now in
    reducing_made e (local_loop e.extents c.args.g.now c.args.o.now) c.args.kind c.in_ok-scalar.scalar c.in_ok-outs.outs c.in_ok-name.name c.in_ok-names.names c.args.ops.now c.push_neutral.new.ops c.push_outs.new.ops c.push_operation.new.ops
    c.in_ok-scalar.ensures c.in_ok-outs.ensures c.in_ok-name.ensures c.in_ok-names.ensures (c.in_ok-push_neutral.ensures (local_loop e.extents c.args.g.now c.args.o.now)) c.in_ok-push_outs.ensures c.in_ok-push_operation.ensures
