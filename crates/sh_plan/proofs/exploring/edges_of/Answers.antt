use Rattle.std.proofs.Common.{rules}
use Rattle.sh_plan.proofs.EdgeRows.{edge_more}
use Rattle.sh_plan.proofs.Numbers.{keeps_more}
use Rattle.sh_plan.specs.States.{keys_in}
use Rattle.sh_plan.proofs.exploring.edges_of.Goals as goal

pub loop-m-preserved : goal.loop-m-preserved
loop-m-preserved c = record {
  states = c.in_ok-edge.ensures.states;
  keeps = keeps_more (keys_in c.args.states.now) (keys_in c.loop-m.states) (keys_in c.edge_of.new.states) c.loop-m.invariant.keeps c.in_ok-edge.ensures.keeps;
  edges = edge_more c.args.to.now (keys_in c.loop-m.states) (keys_in c.edge_of.new.states) c.args.s.now.dimensions c.loop-m.row.items c.push.new.self.items c.args.moves.now
      c.loop-m.m-index _ c.in_ok-edge.edge c.in_ok-edge.ensures.keeps (search rules) c.loop-m.invariant.edges c.in_ok-push.ensures.items c.in_ok-edge.ensures.edge;
}
