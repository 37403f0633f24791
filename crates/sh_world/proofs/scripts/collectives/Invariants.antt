use Rattle.std.proofs.Common.{◌≡◌, ◌≤◌, map}
use Rattle.sh_world.specs.Scripts.{collectives_in}
use Rattle.sh_world.proofs.scripts.collectives.Given as goal

abbrev pub invariant-loop-at : goal.invariant-loop-at
invariant-loop-at l = record {
  value : l.count ≡ collectives_in (map (λ i. i.op.now) l.instructions) l.at;
  few : l.count ≤ l.at;
}
