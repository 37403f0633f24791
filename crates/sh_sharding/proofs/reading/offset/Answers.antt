use Rattle.std.proofs.Common.{List, ℕ, ap, ap₂, ◌∙◌}
use Rattle.sh_sharding.specs.Sharding.{offset_at}
use Rattle.sh_sharding.proofs.reading.offset.Goals as goal

pub returns-clause-value : goal.returns-clause-value
returns-clause-value c =
    c.offset.ensures.value
    ∙ c.division_of-parts.ensures.offset c.args.part
    ∙ ap₂ (λ (g : List ℕ) d. offset_at g d c.args.part) (ap (λ g. g.extents) c.grid.ensures) c.dimension-d.ensures.value
