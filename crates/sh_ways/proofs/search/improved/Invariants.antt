use Rattle.std.proofs.Common.{◌≡◌, ◌<◌, ◌≤◌, ◌+◌, ℕ, get_or}
use Rattle.std.specs.List.{Contains}
use Rattle.sh_ways.specs.declared.search.Edge.{Edge}
use Rattle.sh_ways.specs.Rows.{IsBelow}
use Rattle.sh_ways.proofs.search.improved.Given as goal

abbrev pub invariant-loop-edge : goal.invariant-loop-edge
invariant-loop-edge g l = record {
  within : l.least ≤ l.own;
  below : (k : ℕ) (e : Edge g.row.M.Denot) → k < l.edge-index → IsBelow l.d l.least (get_or l.row k e);
  made : l.least < l.own → (e : Edge g.row.M.Denot) × Contains l.row e × (l.least ≡ e.cost + get_or l.d e.to 0);
}
