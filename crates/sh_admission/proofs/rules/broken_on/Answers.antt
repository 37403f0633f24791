use Rattle.std.proofs.Common.{◌≤◌, sym, subst}
use Rattle.sh_base.specs.Shape.{max_cells}
use Rattle.sh_sharding.specs.Sharding.{counted_cells}
use Rattle.sh_admission.proofs.ReadLaws.{small_shape}
use Rattle.sh_admission.proofs.rules.broken_on.Goals as goal

pub admit-requires-clause-small : goal.admit-requires-clause-small
admit-requires-clause-small c =
    subst (λ s. counted_cells s ≤ max_cells) (sym c.in_ok-whole.ensures) (small_shape c.args.noted.now c.requires.within.small)
