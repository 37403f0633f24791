use Rattle.std.proofs.Common.{arith, ◌≡◌, ◌<◌}
use Rattle.std.proofs.lemmas.Bool.{leb-true}
use Rattle.std.proofs.lemmas.Bool.Decides.{nat_tests}
use Rattle.std.proofs.lemmas.Grind.{common_steps}
use Rattle.sh_base.specs.Shape.{cell_count}
use Rattle.sh_base.proofs.IndexLaws.{cell_count-some, extents_some}
use Rattle.sh_grid.proofs.grids.is_grid.Goals as goal

pub returns-then-total-gt0 : goal.returns-then-total-gt0
returns-then-total-gt0 c =
    let total : c.in-Some.total ≡ cell_count c.args.extents.now = c.in-Some.ensures.some.0 in
    let some : 0 < cell_count c.args.extents.now = omega arith in (
      λ test.
          let fits = leb-true c.in-Some.total 1024 test in
          record { some = grind (arith, common_steps); few = grind (arith, common_steps); positive = extents_some c.args.extents.now some; small = omega arith },
      λ g. let small = g.small in grind (arith, nat_tests),
    )

pub returns-else-total-gt0 : goal.returns-else-total-gt0
returns-else-total-gt0 c =
    let total : c.in-Some.total ≡ cell_count c.args.extents.now = c.in-Some.ensures.some.0 in
    (λ test. absurd (grind (arith, nat_tests)), λ g. let some = cell_count-some c.args.extents.now g.positive in absurd (omega arith))
