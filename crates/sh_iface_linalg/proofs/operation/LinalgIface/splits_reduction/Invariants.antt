use Rattle.std.proofs.Common.{◌≡◌, drop}
use Rattle.sh_iface_linalg.specs.Ifaces.{structured_in}
use Rattle.sh_iface_linalg.specs.Structured.{splits_reduction, structured_nest}
use Rattle.sh_iface_linalg.proofs.operation.LinalgIface.splits_reduction.Given as goal

-- those that are left decide
abbrev pub invariant-loop-l : goal.invariant-loop-l
invariant-loop-l l =
    splits_reduction (drop l.l (structured_nest (structured_in l.self)).loops) (drop l.l l.o)
    ≡ splits_reduction (structured_nest (structured_in l.self)).loops l.o
