use Rattle.std.proofs.Common.{◌≤◌, ◌-◌, length, vec_len}
use Rattle.sh_plan.proofs.EdgeRows.{HaveRows}
use Rattle.sh_plan.specs.States.{AreStates, IsNumber, keys_in}
use Rattle.sh_plan.proofs.exploring.reached.Given as goal

abbrev pub invariant-reached : goal.invariant-reached
invariant-reached l = record {
  states : AreStates l.to l.states;
  long : length l.rows.items ≤ length l.states.known.items;
  source : IsNumber (keys_in l.states) l.from.dimensions l.start;
  target : IsNumber (keys_in l.states) l.to.dimensions l.goal;
  rows : HaveRows l.to (keys_in l.states) l.rows.items;
}

abbrev pub decreases-reached : goal.decreases-reached
decreases-reached l = 9223372036854775808 - vec_len l.rows
