use Rattle.std.proofs.Common.{◌≡◌, drop}
use Rattle.sh_iface.specs.BodyKinds.{defining}
use Rattle.sh_iface_linalg.proofs.bodies.defining.Given as goal

abbrev pub invariant-loop-op : goal.invariant-loop-op
invariant-loop-op l = defining l.name (drop l.op-index l.ops) ≡ defining l.name l.ops
