use Rattle.std.proofs.Common.{◌≡◌, map, take}
use Rattle.sh_plan.proofs.tables.entries_of.Given as goal

abbrev pub invariant-loop-at : goal.invariant-loop-at
invariant-loop-at l = record {
  states : map (λ e. e.sharding) l.entries.items ≡ take l.at l.states;
  numbers : map (λ e. e.cost) l.entries.items ≡ take l.at l.numbers;
}
