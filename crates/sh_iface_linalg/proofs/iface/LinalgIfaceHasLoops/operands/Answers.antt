use Rattle.std.proofs.Common.{arith}
use Rattle.sh_iface_linalg.specs.Ifaces.{structured_in}
use Rattle.sh_iface_linalg.proofs.NestLaws.{operands_counted}
use Rattle.sh_iface_linalg.proofs.iface.LinalgIfaceHasLoops.operands.Goals as goal

pub returns : goal.returns
returns c =
    let a = c.from.ensures in
    let b = c.tensor_inputs.ensures.value in
    let n = operands_counted (structured_in c.args.self.now) in
    omega (arith, a, b, n)
