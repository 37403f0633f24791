use Rattle.std.proofs.Common.{arith, ◌≡◌}
use Rattle.sh_ways.specs.Rows.{IsTightEdge}
use Rattle.sh_ways.proofs.Walks.{first_at}
use Rattle.sh_ways.proofs.walk.first_tight.Goals as goal

pub returns-then-through-own-clause-found : goal.returns-then-through-own-clause-found
returns-then-through-own-clause-found g c =
    let own : c.through.result ≡ c.args.own = omega arith in
    let tight : IsTightEdge c.args.d.now c.args.own c.edge-item.result = omega (arith, c.through.ensures.exact) in
    let found = first_at (IsTightEdge c.args.d.now c.args.own) c.args.row.now c.loop-edge.edge-index c.edge-item.result (omega arith) c.loop-edge.invariant (rw (← c.edge-item.is) tight) in
    rw (← c.edge-item.is) at found
