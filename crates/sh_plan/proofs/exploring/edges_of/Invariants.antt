use Rattle.std.proofs.Common.{take}
use Rattle.sh_plan.specs.States.{AreEdges, AreStates, KeepNumbers, keys_in}
use Rattle.sh_plan.proofs.exploring.edges_of.Given as goal

abbrev pub invariant-loop-m : goal.invariant-loop-m
invariant-loop-m l = record {
  states : AreStates l.to l.states;
  keeps : KeepNumbers l.fn.states l.states;
  edges : AreEdges l.to (keys_in l.states) l.s.dimensions l.row.items (take l.m-index l.moves);
}
