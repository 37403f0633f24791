use Rattle.sh_iface.proofs.SplitViews.{split_is_admitted}
use Rattle.sh_iface.proofs.validity.is_split.Goals as goal

pub returns : goal.returns
returns c =
    let law = split_is_admitted c.args.g.now c.args.extent c.args.split.now c.scaled_view.result c.extents-grid.ensures.grid c.requires c.scaled_view.ensures in
    (λ t. law.0 (c.is_admitted.ensures.0 t), λ h. c.is_admitted.ensures.1 (law.1 h))
