use mathlib.Core.Path.{◌∙◌, ap, sym}
use Rattle.std.proofs.Common.{◌≡◌, ◌&&◌, length, arith, eq-eqb}
use Rattle.std.specs.List.{list_all}
use Rattle.sh_verify.specs.Followings.{has_rank, maps_in, operands_in, types_in}
use Rattle.sh_verify.proofs.LoopLaws.{ranks_paired}
use Rattle.sh_verify.proofs.loop_maps.ranks_fit.Goals as goal

pub returns-then-count_maps-count_types : goal.returns-then-count_maps-count_types
returns-then-count_maps-count_types c =
    let same : length (maps_in c.args.all) ≡ length (types_in c.args.all) = omega arith in
    c.have_ranks.ensures
    ∙ (ap (λ b. b && list_all has_rank (operands_in c.args.all)) (sym (eq-eqb _ _ same)) ∙ ranks_paired (maps_in c.args.all) (types_in c.args.all))
