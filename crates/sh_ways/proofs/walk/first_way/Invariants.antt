use Rattle.std.proofs.Common.{◌<◌, ◌++◌, List, length, get_or}
use Rattle.sh_ways.specs.declared.search.Edge.{Edge}
use Rattle.sh_ways.specs.Graph.{ThePlan}
use Rattle.sh_ways.specs.Rows.{graph_of}
use Rattle.sh_ways.proofs.walk.first_way.Given as goal

abbrev pub invariant-loop-at : goal.invariant-loop-at
invariant-loop-at g l = record {
  within : l.at < length l.rows;
  begins : (rest : List (Edge g.row.M.Denot)) → ThePlan (graph_of l.rows) l.at rest l.goal → ThePlan (graph_of l.rows) l.from (l.way.items ++ rest) l.goal;
}

abbrev pub decreases-loop-at : goal.decreases-loop-at
decreases-loop-at g l = get_or l.d l.at 0
