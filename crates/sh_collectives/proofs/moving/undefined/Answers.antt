use Rattle.std.proofs.Common.{◌∙◌}
use Rattle.sh_collectives.proofs.MovingLaws.{undefined_made}
use Rattle.sh_collectives.proofs.moving.undefined.Goals as goal

pub returns : goal.returns
returns c =
    c.build.ensures
    ∙ (undefined_made c.args.shape c.args.width c.count_of.result c.in_ok-cells.cells.items c.count_of.ensures (c.in_ok-cells.ensures.items_if_clones_equal (λ y same. same))).value
