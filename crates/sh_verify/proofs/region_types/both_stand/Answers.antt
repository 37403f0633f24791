use mathlib.Core.Path.{◌∙◌, ap}
use Rattle.std.proofs.Common.{[], ◌∷◌, ◌&&◌, drop}
use Rattle.sh_ir.specs.RegionRules.{stand_for}
use Rattle.sh_verify.proofs.RegionLaws.{stand_next}
use Rattle.sh_verify.proofs.region_types.both_stand.Goals as goal

pub returns-then-first_stands : goal.returns-then-first_stands
returns-then-first_stands c =
    let stand = stand_for c.args.region.now.outer c.args.region.now.own (c.args.value_type.now ∷ []) in
    c.first_stands-then-first_stands.ensures
    ∙ (ap stand c.other_names.ensures
    ∙ (ap (λ b. b && stand (drop 1 c.args.names.now)) c.if-first_stands.ensures
    ∙ stand_next c.args.region.now.outer c.args.region.now.own c.args.value_type.now (c.args.value_type.now ∷ []) c.args.names.now))
