use Rattle.std.proofs.Common.{◌+◌, ◌<◌, ◌≤◌, arith, sym, length, get_or}
use Rattle.std.specs.List.{Contains}
use Rattle.sh_ways.proofs.Passes.{below_one_more}
use Rattle.sh_ways.proofs.search.improved.Goals as goal
use Rattle.sh_ways.proofs.search.improved.Goals.{then-by-least, else-by-least}

pub loop-edge-preserved : goal.loop-edge-preserved
loop-edge-preserved g c =
    let within : c.loop-edge.edge-index < length c.args.row.now = omega arith in
    let has : Contains c.args.row.now c.edge-item.result = (c.loop-edge.edge-index, within, sym c.edge-item.is) in
    let below : c.through-by.result ≤ c.edge-item.result.cost + get_or c.args.d.now c.edge-item.result.to 0 = c.through-by.ensures.below in
    let most : c.loop-edge.least ≤ c.args.own = c.loop-edge.invariant.within in
    elim c.if-by-least.branch [
      | then-by-least w ↦
          let less : c.through-by.result < c.loop-edge.least = w.if-by-least.true in
          rw w.least-is (record {
            within = omega arith;
            below = below_one_more c.args.d.now c.args.row.now c.loop-edge.edge-index c.loop-edge.least c.through-by.result c.edge-item.result within c.edge-item.is
                (omega arith) below c.loop-edge.invariant.below;
            made = λ h. (c.edge-item.result, has, c.through-by.ensures.exact (omega arith));
          })
      | else-by-least w ↦
          rw w.least-is (record {
            within = most;
            below = below_one_more c.args.d.now c.args.row.now c.loop-edge.edge-index c.loop-edge.least c.loop-edge.least c.edge-item.result within c.edge-item.is
                (omega arith) (omega (arith, w.if-by-least.false)) c.loop-edge.invariant.below;
            made = c.loop-edge.invariant.made;
          })
    ]
