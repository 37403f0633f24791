use Rattle.std.proofs.Common.{◌≡◌, ◌++◌, drop, map}
use Rattle.sh_ir.specs.declared.bodies.BodyOp.{BodyOp}
use Rattle.sh_iface_linalg.specs.Bodies.{renumbered_ops, with_names}
use Rattle.sh_iface_linalg.specs.NewNames.{names_in}
use Rattle.sh_iface_linalg.proofs.names.renumbered_ops.Given as goal

abbrev pub invariant-loop-op : goal.invariant-loop-op
invariant-loop-op l =
    (l.out ++ renumbered_ops (names_in l.new) l.next (drop l.op-index l.ops) ≡ renumbered_ops (names_in l.initial.new) l.from l.ops)
    × (with_names (names_in l.new) (map (λ (op : BodyOp). op.defines) (drop l.op-index l.ops)) l.next ≡ with_names (names_in l.initial.new) (map (λ (op : BodyOp). op.defines) l.ops) l.from)
