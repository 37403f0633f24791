use Rattle.std.proofs.Common.{◌≡◌, subst, pos}
use Rattle.std.specs.Int.{int_rem_euclid, w128}
use Rattle.std.proofs.lemmas.Int.{to_z-of_z}
use Rattle.sh_collectives.proofs.ShiftLaws.{rotated_is}
use Rattle.sh_collectives.proofs.shifts.rotated.Goals as goal

pub returns-clause-value : goal.returns-clause-value
returns-clause-value c =
    rotated_is c.args.extent c.args.coordinate c.steps_in.result c.args.offset c.requires.within c.steps_in.ensures.within
    (subst (λ z. pos c.steps_in.result ≡ int_rem_euclid z (pos c.args.extent)) (to_z-of_z w128 c.args.offset c.ranges.offset) c.steps_in.ensures.value)
