use Rattle.std.proofs.Common.{◌≡◌, rules, get_or, subst}
use Rattle.std.proofs.lemmas.Result.{IfOk-weaker}
use Rattle.sh_plan.specs.States.{AreEdges, IsRowOf, keys_in}
use Rattle.sh_plan.proofs.EdgeRows.{are_allowed, are_named, moves_are, own_row}
use Rattle.sh_plan.proofs.exploring.row_of.Goals as goal

pub edges_of-requires-clause-named : goal.edges_of-requires-clause-named
edges_of-requires-clause-named c = are_named c.in_ok-s.s c.args.to.now c.as_slice.result.now (search rules)

pub edges_of-requires-clause-may : goal.edges_of-requires-clause-may
edges_of-requires-clause-may c = are_allowed c.in_ok-s.s c.args.to.now c.as_slice.result.now (search rules)

pub returns-clause-row : goal.returns-clause-row
returns-clause-row c =
    let known : c.in_ok-s.s ≡ get_or c.args.states.now.known.items c.args.at c.in_ok-s.s = search rules in
    let moves = moves_are c.in_ok-s.s c.args.to.now c.as_slice.result.now (search rules) (search rules) in
    IfOk-weaker c.edges_of.result (λ row. AreEdges c.args.to.now (keys_in c.edges_of.new.states) c.in_ok-s.s.dimensions row.items c.as_slice.result.now)
    (λ row. IsRowOf c.args.to.now (keys_in c.args.states.now) (keys_in c.edges_of.new.states) c.args.at row.items)
    (λ row edges. own_row c.args.to.now c.in_ok-s.s c.args.states.now.known.items (keys_in c.edges_of.new.states) c.args.at row.items known
    (subst (λ ms. AreEdges c.args.to.now (keys_in c.edges_of.new.states) c.in_ok-s.s.dimensions row.items ms) moves edges))
    c.edges_of.ensures.edges
