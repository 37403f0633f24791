use Rattle.std.proofs.Common.{map, ap, ◌∙◌}
use Rattle.sh_sharding.specs.Made.{plain}
use Rattle.sh_sharding.proofs.MadeLaws.{made_plain_at}
use Rattle.sh_sharding.proofs.made.without_halos.Goals as goal

pub from_dimensions-requires : goal.from_dimensions-requires
from_dimensions-requires c =
    made_plain_at c.args.s.now c.in_ok-grid.grid c.in_ok-bare.bare c.whole-admitted.ensures.admitted (c.in_ok-grid.ensures ∙ c.grid.ensures) (c.in_ok-bare.ensures ∙ ap (map plain) c.dimensions.ensures.value)
