use Rattle.std.proofs.Common.{◌≡◌, map}
use Rattle.sh_pieces.specs.Instructions.{last_place}
use Rattle.sh_world.specs.Scripts.{AllArePlaced, names_until, places_in}
use Rattle.sh_world.proofs.scripts.placed.Given as goal

abbrev pub invariant-loop-at : goal.invariant-loop-at
invariant-loop-at l = record {
  places : places_in l.places ≡ last_place (names_until (map (λ a. a.id) l.params) (map (λ op. op.now) l.ops) l.at);
  placed : AllArePlaced (map (λ a. a.id) l.params) (map (λ op. op.now) l.ops) l.at l.found.items;
}
