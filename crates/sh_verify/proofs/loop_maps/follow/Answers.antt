use mathlib.Core.Path.{◌∙◌, ap}
use Rattle.std.proofs.Common.{◌&&◌}
use Rattle.sh_ir.specs.Operands.{all_following, extents_fit}
use Rattle.sh_verify.specs.Followings.{maps_in, types_in}
use Rattle.sh_verify.proofs.LoopLaws.{all_paired}
use Rattle.sh_verify.proofs.loop_maps.follow.Goals as goal

pub returns-then-ranks_fit : goal.returns-then-ranks_fit
returns-then-ranks_fit c =
    c.extents_fit.ensures
    ∙ (ap extents_fit (all_paired (maps_in c.args.all) (types_in c.args.all))
    ∙ ap (λ b. b && extents_fit (all_following (maps_in c.args.all) (types_in c.args.all))) c.if-ranks_fit.ensures)
