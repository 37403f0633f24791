use Rattle.std.proofs.Common.{◌≡◌, ◌<◌, All, arith, sym, ◌∙◌, length, get_or}
use Rattle.std.specs.List.{Contains}
use Rattle.sh_ways.specs.Rows.{IsBelow, edges_at}
use Rattle.sh_ways.proofs.Passes.{SoFar, edges_at-row, falls, in_range, keeps}
use Rattle.sh_ways.proofs.search.pass.Goals as goal
use Rattle.sh_ways.proofs.search.pass.Goals.{then-new-own, else-new-own}

pub loop-i-preserved : goal.loop-i-preserved
loop-i-preserved g c =
    let rows = c.args.rows.now in
    let i = c.loop-i.i in
    let d = c.loop-i.d in
    let so : SoFar c.args.rows.now c.args.d.now c.loop-i.i c.loop-i.d c.loop-i.fell = c.loop-i.invariant in
    let within : c.loop-i.i < length c.args.rows.now = omega arith in
    let row : edges_at c.args.rows.now c.loop-i.i ≡ c.deref.result.now = edges_at-row c.args.rows.now c.loop-i.i c.index-rows-i.result within c.index-rows-i.is ∙ sym c.deref.ensures.value in
    let own_small : get_or c.loop-i.d c.loop-i.i 0 < 18446744073709551616 = omega arith in
    elim c.if-new-own.branch [
      | then-new-own w ↦
          let less : c.improved-new.result < get_or c.loop-i.d c.loop-i.i 0 = w.if-new-own.true in
          let by = c.improved-new.ensures.made less in
          let has : Contains (edges_at c.args.rows.now c.loop-i.i) by.0 = rw row by.1 in
          let to_in : by.0.to < length c.args.rows.now = in_range rows i by.0 c.requires.range has in
          rw w.d-is (rw w.fell-is (falls rows c.args.d.now i d c.loop-i.fell c.improved-new.result by.0 so within less (omega arith) has to_in by.2))
      | else-new-own w ↦
          let same : c.improved-new.result ≡ get_or c.loop-i.d c.loop-i.i 0 = omega (arith, c.improved-new.ensures.least) in
          let below : All (IsBelow c.loop-i.d (get_or c.loop-i.d c.loop-i.i 0)) (edges_at c.args.rows.now c.loop-i.i) = rw (row, ← same) c.improved-new.ensures.below in
          rw w.d-is (rw w.fell-is (keeps rows c.args.d.now i d c.loop-i.fell so below))
    ]
