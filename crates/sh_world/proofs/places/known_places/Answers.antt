use Rattle.std.proofs.Common.{arith}
use Rattle.std.proofs.lemmas.Grind.{common_steps}
use Rattle.std.proofs.lemmas.List.Elements.{filter_map-append}
use Rattle.sh_world.proofs.places.known_places.Goals as goal
use Rattle.sh_world.proofs.places.known_places.Goals.{in-Some+in_ok-push, in_default}

pub loop-name-preserved : goal.loop-name-preserved
loop-name-preserved c = elim c.match-get.branch [
  | in-Some+in_ok-push w ↦ grind (arith, common_steps, filter_map-append)
  | in_default w ↦ grind (arith, common_steps, filter_map-append)
]
