use Rattle.std.proofs.Common.{◌<◌, ℕ, get_or}
use Rattle.sh_ways.specs.declared.search.Edge.{Edge}
use Rattle.sh_ways.specs.Rows.{IsTightEdge}
use Rattle.sh_ways.proofs.walk.first_tight.Given as goal

abbrev pub invariant-loop-edge : goal.invariant-loop-edge
invariant-loop-edge g l = (k : ℕ) (e : Edge g.row.M.Denot) → k < l.edge-index → IsTightEdge l.d l.own (get_or l.row k e) → ⊥
