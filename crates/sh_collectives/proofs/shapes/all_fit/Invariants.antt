use Rattle.std.proofs.Common.{◌≡◌, ◌-◌, length, map}
use Rattle.std.specs.Prelude.{is_some}
use Rattle.sh_sem.specs.Collected.{shapes_by}
use Rattle.sh_collectives.specs.Ways.{collecting_by, places_asked}
use Rattle.sh_collectives.proofs.AskedLaws.{given_at}
use Rattle.sh_collectives.proofs.PlaceLaws.{are_there}
use Rattle.sh_collectives.proofs.shapes.all_fit.Given as goal

abbrev pub invariant-loop-place : goal.invariant-loop-place
invariant-loop-place l =
    are_there (given_at l.dims (map (λ s. s.now) l.shapes) l.way) l.place (places_asked l.way (length l.shapes) - l.place)
    ≡ is_some (shapes_by l.dims (map (λ s. s.now) l.shapes) (collecting_by l.way))
