use Rattle.std.proofs.Common.{◌≡◌, map, take}
use Rattle.sh_nest_laws.specs.LoopSplits.{Operand}
use Rattle.sh_iface.specs.Elements.{tensor_of}
use Rattle.sh_iface_linalg.specs.Ifaces.{structured_in}
use Rattle.sh_iface_linalg.specs.Structured.{local_loop, tensor_ins}
use Rattle.sh_iface_linalg.proofs.operation.LinalgIface.tensor_types.Given as goal

abbrev pub invariant-loop-v : goal.invariant-loop-v
invariant-loop-v l =
    l.types
    ≡ map (λ (x : Operand). tensor_of (map (local_loop (structured_in l.self).extents l.g l.o) x.dims) x.width) (take l.v (tensor_ins (structured_in l.self)))
