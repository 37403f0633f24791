use Rattle.std.proofs.Common.{◌≡◌, subst, sym, ◌∙◌}
use Rattle.sh_sharding.specs.Sharding.{IsSharding}
use Rattle.sh_sharding_tests.proofs.readings.made_again.Goals as goal

pub from_dimensions-requires : goal.from_dimensions-requires
from_dimensions-requires c =
    let grid = c.in_ok-grid.ensures ∙ c.grid.ensures in
    let dimensions = c.in_ok-copies.ensures ∙ c.dimensions.ensures.value in
    let same : c.args.s.now ≡ record { grid = c.in_ok-grid.grid; dimensions = c.in_ok-copies.copies } = λ j. record { grid = sym grid j; dimensions = sym dimensions j } in
    subst IsSharding same c.rank-admitted.ensures.admitted
