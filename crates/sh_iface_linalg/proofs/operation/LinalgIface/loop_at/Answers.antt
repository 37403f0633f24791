use Rattle.std.proofs.Common.{arith, length, map, refl}
use Rattle.sh_ir.specs.Shapes.{extent_of}
use Rattle.sh_iface_linalg.specs.Ifaces.{structured_in}
use Rattle.sh_iface_linalg.proofs.NestLaws.{result_loop}
use Rattle.sh_iface_linalg.proofs.operation.LinalgIface.loop_at.Goals as goal

pub returns-else-v-from : goal.returns-else-v-from
returns-else-v-from c =
    let n = c.tensor_inputs.ensures.value in
    let m = c.from.ensures in
    let past = c.if-v-from.false in
    result_loop (structured_in c.args.self.now) (length (map extent_of c.args.self.now.dims.now)) refl c.args.v c.args.dim (omega (arith, n, m, past)) c.requires
