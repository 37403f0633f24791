use Rattle.std.proofs.Common.{ℕ, ◌<◌}
use Rattle.sh_sharding.specs.Sharding.{IsSharding}
use Rattle.sh_iface.specs.LoopNest.{value_at}
use Rattle.sh_iface.specs.Splits.{implied_of}
use Rattle.sh_iface.proofs.validity.are_values_admitted.Given as goal

-- those of the operands so far are admitted
abbrev pub invariant-loop-v : goal.invariant-loop-v
invariant-loop-v g l =
    let nest = (g.O.HasLoops.meaning l.op).nest in
    (v : ℕ) → v < l.v → IsSharding (implied_of l.g nest l.o (value_at nest v))
