use Rattle.std.proofs.Common.{◌≡◌, drop}
use Rattle.std.specs.List.{list_all}
use Rattle.sh_iface.specs.BodyKinds.{uses_neither}
use Rattle.sh_iface_linalg.proofs.bodies.all_use_neither.Given as goal

abbrev pub invariant-loop-op : goal.invariant-loop-op
invariant-loop-op l = list_all (uses_neither l.out l.yielded') (drop l.op-index l.ops) ≡ list_all (uses_neither l.out l.yielded') l.ops
