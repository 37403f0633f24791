use Rattle.std.proofs.Common.{◌≡◌, IsTrue, arith, rules}
use Rattle.sh_base.specs.Shape.{cell_count}
use Rattle.sh_plan.proofs.HeldSteps.{held_alike}
use Rattle.sh_plan.proofs.prices.held.Goals as goal

pub returns-then-is_regular-clause-value : goal.returns-then-is_regular-clause-value
returns-then-is_regular-clause-value c =
    let count : c.devices-all.result ≡ cell_count c.args.s.now.grid.extents = rw c.grid.ensures at c.devices-all.ensures.value in
    let yes' : IsTrue c.is_regular.result = search rules in
    rw count (held_alike c.args.s.now c.cells_of-first.result c.whole-admitted.ensures.admitted (c.is_regular.ensures yes')
    (omega (arith, count, c.devices-all.ensures.some)) c.cells_of-first.ensures.value)
